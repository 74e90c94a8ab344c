-- The record of a run reads back.
use Rattle.std.specs.Prelude.{ℕ, ◌+◌, ◌*◌, ◌≤◌, ◌≡◌, Bool, true, false, cond, List, [], ◌∷◌, ◌++◌, length, drop, Ok}
use Rattle.std.proofs.Common.{ap, sym, ◌∙◌, arith}
use Rattle.refusal.specs.declared.Refusal.TheVariants.{AskedAgain}
use Rattle.record.specs.declared.Entry.{Entry}
use Rattle.record.specs.Record.{Answer}
use Rattle.record.specs.Record.{Held, entries, fault, bytes_of}
use Rattle.rows.specs.Rows.{Outcome, rows_of, write_outcome, Leaves}
use Rattle.record.specs.Legal.{Legal}
use Rattle.number.specs.Below.{Words}
use Rattle.rows.specs.laws.Storing.{stored_fits}
use Rattle.record.proofs.theorems.Trip.{read_of_write, record_bytes, record_few}
use Rattle.rows.proofs.theorems.Trip.{reads_legal, writes_legal}
use Rattle.rows.specs.laws.RowLaws.{rows_length}
use Rattle.verdict.specs.Verdict.{repeats, distinct_from, distinct, taken_for, RefusedBy}
use Rattle.refusal.specs.declared.Refusal.{Refusal}
use Rattle.refusal.specs.Number.{paper_number}
use Rattle.rack.specs.declared.Rack.{Rack}
use Rattle.rack.specs.Places.{of_sizes, record_of}
use Rattle.rack.specs.Sound.{sound_of}
use Rattle.rack.specs.Run.{made_of, run_of}
use Rattle.back.specs.Standing.{Agrees}
use Rattle.back.proofs.theorems.Agrees.{run_legal_from, run_legal}
use Rattle.back.specs.Reading.{ReadsBack}

-- after reading the judge refuses with 29 only
only_29 : (earlier : List Entry) (n : ℕ) (es whole : List Entry) (k : Refusal) (m : ℕ) → distinct_from earlier n es (entries whole) ≡ fault k m → k ≡ AskedAgain
unfolding distinct_from
only_29 earlier n [] whole k m p = let z : ◌≡◌ {A = ℕ} 0 1 = cc in absurd (omega arith)
only_29 earlier n (e ∷ es) whole k m p = go (repeats earlier e) p (only_29 (e ∷ earlier) (n + 1) es whole k m)
  where
    go : (t : Bool) → cond t (fault AskedAgain n) (distinct_from (e ∷ earlier) (n + 1) es (entries whole)) ≡ fault k m
        → (distinct_from (e ∷ earlier) (n + 1) es (entries whole) ≡ fault k m → k ≡ AskedAgain) → k ≡ AskedAgain
    go true q ih = cc
    go false q ih = ih q

-- what the judge takes the bytes of a record without a fault for
pub taken_legal : (es : List Entry) → Legal es → taken_for (bytes_of es) ≡ distinct_from [] 0 es (entries es)
unfolding taken_for distinct
taken_legal es l = ap distinct (read_of_write es l)

-- and its number is 29
numbered_29 : (es : List Entry) (h : Held) → h ≡ distinct_from [] 0 es (entries es) → (k n : ℕ) → RefusedBy h k n → k ≡ 29
unfolding paper_number
numbered_29 es h e k n (r, (q, i)) = i ∙ ap paper_number (only_29 [] 0 es es r n (sym e ∙ q))

-- a record without a fault reads back
pub legal_back : (es : List Entry) → Legal es → ReadsBack es
legal_back es l =
    let long : length (rows_of es) ≡ 4 * length es = rows_length es in
    record {
      writes = λ d h. writes_legal es d l ∙ stored_fits (bytes_of es) (length (bytes_of es)) d h;
      holds = read_of_write es l;
      reads = λ d h. reads_legal es d l ∙ stored_fits (rows_of es) (length es) d (omega arith) ∙ ap (λ (n : ℕ). leaves n d) long;
      bytes = record_bytes es l;
      few = record_few es l;
      judged = λ k n j. numbered_29 es (taken_for (bytes_of es)) (taken_legal es l) k n j;
    }
  where
    leaves : ℕ → List ℕ → Outcome
    leaves n d = record { answer = Ok (length es); lent = rows_of es ++ drop n d }

-- the record of a run reads back: of a rack that is sound and agrees with its record,
pub reads_back_from : (r : Rack) (allowance : ℕ) (events : List ℕ) → Words events → sound_of r ≡ true → Agrees r → ReadsBack (record_of (run_of r allowance events).rack)
reads_back_from r allowance events h s a = legal_back (record_of (run_of r allowance events).rack) (run_legal_from r allowance events h s a)

-- and so of a fresh one, for any sizes, any allowance and any events
pub reads_back : (replicas clients cells allowance : ℕ) (events : List ℕ) → Words events
    → ReadsBack (record_of (run_of (made_of (of_sizes replicas clients cells)).rack allowance events).rack)
reads_back replicas clients cells allowance events h =
    legal_back (record_of (run_of (made_of (of_sizes replicas clients cells)).rack allowance events).rack) (run_legal replicas clients cells allowance events h)

-- the call that writes the record of such a run, where 16,384 bytes are lent: it isn't refused, and the bytes that read back stand at the front
pub call_writes : (replicas clients cells allowance : ℕ) (events : List ℕ) → Words events → (d left : List ℕ) (answer : Answer) → 16384 ≤ length d
    → let es = record_of (run_of (made_of (of_sizes replicas clients cells)).rack allowance events).rack in
    Leaves (write_outcome (rows_of es) d) answer left → Leaves (record { answer = Ok (length (bytes_of es)); lent = bytes_of es ++ drop (length (bytes_of es)) d }) answer left
call_writes replicas clients cells allowance events h d left answer room p =
    let w = reads_back replicas clients cells allowance events h in
    rw (← w.writes d (omega (arith, w.few))) p
