-- The record that the programs `drill` and `recorder` write is lawful and reads back, a refused maker's too.
use Rattle.std.specs.Prelude.{ℕ, ◌+◌, ◌-◌, ◌≤◌, min, ◌≡◌, Bool, true, false, cond, List, ◌++◌, eqb, length, take, drop, Ok}
use Rattle.std.proofs.Common.{ap, ap₂, ◌∙◌, append_assoc, arith}
use Rattle.std.proofs.lemmas.List.Edits.{sets, sets-eq}
use Rattle.std.proofs.Math.Seq.{take-append_seam}
use Rattle.record.specs.Record.{bytes_of}
use Rattle.number.specs.Below.{Bytes}
use Rattle.text.specs.Text.{field, refused_word, line_feed}
use Rattle.rack.specs.declared.Rack.{Rack}
use Rattle.rack.specs.declared.Made.{Made}
use Rattle.rack.specs.declared.Ran.{Ran}
use Rattle.rack.specs.Places.{of_sizes, slot_limit, party_at, held_at, record_of}
use Rattle.rack.specs.Sound.{settings_fit}
use Rattle.rack.specs.laws.Fresh.{made_sound}
use Rattle.rack.specs.Run.{fresh_rack, made_of, ran_of, run_of}
use Rattle.promise.specs.Reached.{Reached}
use Rattle.promise.proofs.theorems.Promise.{promise_reached}
use Rattle.back.specs.Standing.{Agrees}
use Rattle.back.proofs.theorems.Agrees.{run_agrees, made_agrees, agrees_legal}
use Rattle.back.proofs.theorems.Back.{legal_back}
use Rattle.script.specs.Script.{Words, events_from, words_of, script_of}
use Rattle.lines.specs.Words.{done_start}
use Rattle.lines.specs.Lines.{each_below, sizes_line, replica_line, client_line, slot_line, record_line, refusal_text, ran_text}
use Rattle.play.specs.Play.{Recorded, played_of, text_after, drill_text, bytes_after, record_bytes_of, answer_after, recorded_of, Records}
use Rattle.lent.specs.Drilled.{Drilled, InFull}
use Rattle.lent.specs.laws.Scripts.{script_words}

-- how many events were done, and the refusal
abbrev head_lines : Ran → List ℕ
head_lines q = field done_start q.done ++ (line_feed ++ (refused_word ++ (refusal_text q.refusal ++ line_feed)))

-- the lines of the replicas
abbrev replica_lines : Rack → List ℕ
replica_lines r = each_below r.settings.replicas (λ k. replica_line r k)

-- those of the clients
abbrev client_lines : Rack → List ℕ
client_lines r = each_below r.settings.clients (λ i. client_line i (party_at r i))

-- those of the slots
abbrev slot_lines : Rack → List ℕ
slot_lines r = each_below slot_limit (λ i. slot_line i (held_at r i))

-- the lines of a run but the last
abbrev lines_before : Ran → List ℕ
lines_before q = head_lines q ++ (sizes_line q.rack.settings ++ (replica_lines q.rack ++ (client_lines q.rack ++ slot_lines q.rack)))

regroup : (a b c d e f : List ℕ) → a ++ (b ++ (c ++ (d ++ (e ++ f)))) ≡ (a ++ (b ++ (c ++ (d ++ e)))) ++ f
regroup a b c d e f = simp append_assoc

last_line : (q : Ran) → ran_text q ≡ lines_before q ++ record_line q.rack
unfolding ran_text
last_line q = regroup (head_lines q) (sizes_line q.rack.settings) (replica_lines q.rack) (client_lines q.rack) (slot_lines q.rack) (record_line q.rack)

-- the rack that a script leaves was reached by a run, and its clients agree with its record
module _ (s : List ℕ) (bytes : Bytes s) (replicas clients cells allowance first : ℕ) where
  -- the rack that it leaves
  abbrev left : Rack
  left = (played_of s replicas clients cells allowance first).rack

  -- its events
  abbrev events : List ℕ
  events = words_of (events_from s first)

  played_reached : Reached left
  unfolding played_of
  played_reached = go (eqb (made_of (of_sizes replicas clients cells)).refusal 0)
    where
      m : Made
      m = made_of (of_sizes replicas clients cells)

      go : (t : Bool) → Reached (cond t (run_of m.rack allowance events) (ran_of 0 m.refusal m.rack)).rack
      go true = Reached.ran m.rack allowance events (Reached.made replicas clients cells)
      go false = Reached.made replicas clients cells

  played_agrees : Agrees left
  unfolding played_of
  played_agrees = go (eqb (made_of (of_sizes replicas clients cells)).refusal 0)
    where
      m : Made
      m = made_of (of_sizes replicas clients cells)

      go : (t : Bool) → Agrees (cond t (run_of m.rack allowance events) (ran_of 0 m.refusal m.rack)).rack
      go true = run_agrees m.rack allowance events (script_words s bytes (length s - first) first) (made_sound replicas clients cells) (made_agrees replicas clients cells)
      go false = made_agrees replicas clients cells

-- What `drill` writes for a script without a fault: the lines of its run, with the bytes of a lawful record that reads back.
pub drill_lawful : (s : List ℕ) (replicas clients cells allowance first : ℕ) → Bytes s → script_of s ≡ Ok (replicas, clients, cells, allowance, first)
    → Drilled (played_of s replicas clients cells allowance first) (drill_text s)
unfolding drill_text
drill_lawful s replicas clients cells allowance first bytes h =
    let q : Ran = played_of s replicas clients cells allowance first in
    let text : drill_text s ≡ ran_text q = ap (text_after s) h in
    let back = legal_back (record_of q.rack) (agrees_legal q.rack (played_agrees s bytes replicas clients cells allowance first)) in
    record {
      lines = text;
      before = lines_before q;
      last = text ∙ last_line q;
      reads = back.holds;
      lawful = promise_reached q.rack (played_reached s bytes replicas clients cells allowance first);
      back = back;
    }

-- A refused maker: no event is done, the refusal is 1, and the rack is the fresh one of sizes 1, 1, 1, whose record is empty.
pub drill_refused : (s : List ℕ) (replicas clients cells allowance first : ℕ) → settings_fit (of_sizes replicas clients cells) ≡ false
    → played_of s replicas clients cells allowance first ≡ ran_of 0 1 (fresh_rack (of_sizes 1 1 1))
unfolding played_of made_of
drill_refused s replicas clients cells allowance first h = rw h

-- bytes laid into lent bytes that have room for them stand in front
front_of : (before bytes : List ℕ) → length bytes ≤ length before → take (length bytes) (sets before 0 bytes) ≡ bytes
front_of before bytes h = ap (take (length bytes)) (sets-eq bytes before 0 (omega arith)) ∙ take-append_seam bytes (drop (0 + length bytes) before)

-- What `recorder` writes for a script without a fault: in 16,384 bytes the record of its run stands whole, is lawful and reads back.
pub recorded_lawful : (s before : List ℕ) (replicas clients cells allowance first : ℕ) (r : Recorded) (after : List ℕ) → Bytes s → 16384 ≤ length before
    → script_of s ≡ Ok (replicas, clients, cells, allowance, first) → Records s before r after → InFull (played_of s replicas clients cells allowance first) r after
unfolding record_bytes_of recorded_of
recorded_lawful s before replicas clients cells allowance first r after bytes room h w =
    let q : Ran = played_of s replicas clients cells allowance first in
    let back = legal_back (record_of q.rack) (agrees_legal q.rack (played_agrees s bytes replicas clients cells allowance first)) in
    let all : record_bytes_of s ≡ bytes_of (record_of q.rack) = ap (bytes_after s) h in
    let few = back.few in
    let count : min (length (bytes_of (record_of q.rack))) (length before) ≡ length (bytes_of (record_of q.rack)) = omega (arith, few) in
    record {
      answer =
          w.answer
          ∙ ap₂ (λ (l : List ℕ) (x : Words). answer_after s (min (length l) (length before)) x) all h
          ∙ ap (λ (n : ℕ). Ok (q.refusal, n)) count;
      front =
          ap (take (length (bytes_of (record_of q.rack)))) (w.lent ∙ ap (λ (l : List ℕ). sets before 0 l) all)
          ∙ front_of before (bytes_of (record_of q.rack)) (omega (arith, few));
      reads = back.holds;
      lawful = promise_reached q.rack (played_reached s bytes replicas clients cells allowance first);
      back = back;
    }
