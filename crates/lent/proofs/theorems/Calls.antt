-- From made words, after any calls, the record in the words is lawful and reads back.
use Rattle.std.specs.Prelude.{ℕ, ◌*◌, ◌≡◌, refl, Bool, true, false, cond, List, [], ◌∷◌, eqb, length, get_or, replicate}
use Rattle.std.proofs.Common.{sym, ◌∙◌, eqb-true}
use Rattle.std.proofs.lemmas.List.{length-replicate}
use Rattle.std.proofs.Math.Seq.{length-sets}
use Rattle.number.specs.Below.{Words}
use Rattle.law.specs.Operation.{operations}
use Rattle.law.specs.Order.{Lawful}
use Rattle.record.specs.Entry.{cell_limit}
use Rattle.rows.specs.Row.{row_of}
use Rattle.stamps.specs.Stamp.{fresh_pair}
use Rattle.rack.specs.declared.Rack.{Rack}
use Rattle.rack.specs.declared.Ran.{Ran}
use Rattle.rack.specs.Places.{of_sizes, slot_limit, party_at, held_at, record_of}
use Rattle.rack.specs.Sound.{sound_of}
use Rattle.rack.specs.laws.Fresh.{made_sound}
use Rattle.rack.specs.Run.{made_of, run_of}
use Rattle.runs.specs.laws.Parts.{run_stays}
use Rattle.promise.specs.Reached.{Reached}
use Rattle.promise.proofs.theorems.Promise.{promise_reached}
use Rattle.back.specs.Standing.{Agrees}
use Rattle.back.specs.Reading.{ReadsBack}
use Rattle.back.proofs.theorems.Agrees.{run_agrees, made_agrees, agrees_legal}
use Rattle.back.proofs.theorems.Back.{legal_back}
use Rattle.layout.specs.Layout.{word_count, party_place, pair_place, slot_place, entry_place}
use Rattle.layout.specs.Reading.{rack_of}
use Rattle.layout.specs.Writing.{party_words, slot_words, head_of, parties_put, pair_written, pairs_put, wire_put, entry_in, record_put, written_of}
use Rattle.layout.specs.laws.PlaceLaws.{first_long}
use Rattle.layout.specs.Calls.{unfit, makes, made_outcome, leaves, run_outcome}
use Rattle.lent.specs.Called.{Called, made, ran}
use Rattle.lent.specs.laws.Again.{made_reads_again, run_reads_again}

-- ---- no length changes

pub written_long : (r : Rack) (ws : List ℕ) → length (written_of r ws) ≡ length ws
unfolding written_of record_put wire_put pairs_put parties_put head_of
written_long r ws =
    first_long r.count entry_place (λ i. row_of (entry_in r.lines i)) _
    ∙ first_long slot_limit slot_place (λ i. slot_words (held_at r i)) _
    ∙ first_long (cell_limit * r.settings.replicas) pair_place (λ i. pair_written r.settings.cells i (get_or r.pairs i fresh_pair)) _
    ∙ first_long r.settings.clients party_place (λ i. party_words (party_at r i)) _
    ∙ length-sets ws 0 (r.settings.replicas ∷ r.settings.clients ∷ r.settings.cells ∷ r.power ∷ r.count ∷ [])

pub made_long : (replicas clients cells : ℕ) (ws : List ℕ) → length (made_outcome replicas clients cells ws).lent ≡ length ws
unfolding made_outcome makes
made_long replicas clients cells ws = go (eqb (length ws) word_count) refl
  where
    go : (t : Bool) → eqb (length ws) word_count ≡ t → length (cond t (makes (made_of (of_sizes replicas clients cells))) (unfit ws)).lent ≡ length ws
    go true e = written_long (made_of (of_sizes replicas clients cells)).rack (replicate word_count 0) ∙ length-replicate {A = ℕ} word_count 0 ∙ sym (eqb-true (length ws) word_count e)
    go false e = refl

pub run_long : (ws : List ℕ) (n : ℕ) (es : List ℕ) → length (run_outcome ws n es).lent ≡ length ws
unfolding run_outcome leaves
run_long ws n es = go (eqb (length ws) word_count)
  where
    q : Ran
    q = run_of (rack_of ws) n es

    some : (u : Bool) → length (cond u ws (written_of q.rack ws)) ≡ length ws
    some true = refl
    some false = written_long q.rack ws

    go : (t : Bool) → length (cond t (leaves q ws) (unfit ws)).lent ≡ length ws
    go true = some (eqb q.done 0)
    go false = refl

-- ---- what holds after any calls

-- a sound rack that runs lead to from a fresh one, whose clients agree with its record
pub record Led (r : Rack) : Type 0 where
  pub sound : sound_of r ≡ true
  pub agrees : Agrees r
  pub reached : Reached r

made_led : (replicas clients cells : ℕ) → Led (made_of (of_sizes replicas clients cells)).rack
made_led replicas clients cells =
    record {
      sound = made_sound replicas clients cells;
      agrees = made_agrees replicas clients cells;
      reached = Reached.made replicas clients cells;
    }

ran_led : (ws : List ℕ) (n : ℕ) (es : List ℕ) → Words es → Led (rack_of ws) → Led (run_of (rack_of ws) n es).rack
ran_led ws n es w h =
    record {
      sound = run_stays (rack_of ws) n es h.sound;
      agrees = run_agrees (rack_of ws) n es w h.sound h.agrees;
      reached = Reached.ran (rack_of ws) n es h.reached;
    }

pub called_long : {ws : List ℕ} → Called ws → length ws ≡ word_count
called_long (made replicas clients cells ws l) = made_long replicas clients cells ws ∙ l
called_long (ran ws n es w c) = run_long ws n es ∙ called_long c

pub called_led : {ws : List ℕ} → Called ws → Led (rack_of ws)
called_led (made replicas clients cells ws l) = rw (made_reads_again replicas clients cells ws l) (made_led replicas clients cells)
called_led (ran ws n es w c) =
    let h : Led (rack_of ws) = called_led c in
    rw (run_reads_again ws n es (called_long c)) (ran_led ws n es w h)

-- From made words, after any calls, the record in the words is lawful,
pub calls_lawful : (ws : List ℕ) → Called ws → Lawful (operations (record_of (rack_of ws)))
calls_lawful ws c = promise_reached (rack_of ws) (called_led c).reached

-- and it reads back.
pub calls_read_back : (ws : List ℕ) → Called ws → ReadsBack (record_of (rack_of ws))
calls_read_back ws c = legal_back (record_of (rack_of ws)) (agrees_legal (rack_of ws) (called_led c).agrees)

-- In words that calls left, a run leaves what is read as its rack, whole.
pub called_reads_again : (ws : List ℕ) (n : ℕ) (es : List ℕ) → Called ws → rack_of (run_outcome ws n es).lent ≡ (run_of (rack_of ws) n es).rack
called_reads_again ws n es c = run_reads_again ws n es (called_long c)
