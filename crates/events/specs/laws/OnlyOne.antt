-- Events: no other outcome fits a call, and wrong ones do not meet its contract. Those of `decode` stand in crate rack, where an edit of what four words mean
-- is refused by them.
use Rattle.std.specs.Prelude.{ℕ, ◌+◌, ◌-◌, ◌≡◌, Bool, true, false, List, Some}
use Rattle.std.proofs.Common.{ap, arith}
use Rattle.std.specs.Int.Count.{ones}
use Rattle.record.specs.Record.{entry_limit}
use Rattle.rack.specs.Places.{slot_limit}
use Rattle.record.specs.declared.Entry.TheVariants.{Done}
use Rattle.method.specs.declared.Event.TheVariants.{StartRead, Deliver, Stop}
use Rattle.method.specs.declared.Note.TheVariants.{Nothing, Asked}
use Rattle.method.specs.declared.Party.{Party}
use Rattle.method.specs.Decision.{Decision}
use Rattle.method.specs.About.{client_in, client_of}
use Rattle.rack.specs.Sound.{owed_in}
use Rattle.rack.specs.Refusals.{noted, freed, checked}
use Rattle.rack.specs.Looking.{in_rack, slot_of, place_in}
use Rattle.method.specs.Answers.{refusal_in}
use Rattle.stamps.specs.laws.OnlyOne.{yes_not_no}
use Rattle.method.specs.Same.{SameOutcome}
use Rattle.method.proofs.theorems.OnlyOne.{one_outcome}
use Rattle.rack.specs.Examples.{sizes}
use Rattle.events.specs.Examples.{message, sending}

-- Every call here but `checked` answers yes or no, or a number: two answers that are both what is stated are the same by `one_answer` of stamps' OnlyOne.

-- ---- in_rack

pub not_slot_256 : (r : Bool) → r ≡ in_rack sizes (Deliver slot_limit) → r ≡ true → ⊥
unfolding in_rack
not_slot_256 r p q = yes_not_no q p

pub not_cell_1 : (r : Bool) → r ≡ in_rack sizes (StartRead (record { 0 = 1 }) (record { 0 = 1 })) → r ≡ true → ⊥
unfolding in_rack
not_cell_1 r p q = yes_not_no q p

-- ---- slot_of, place_in, client_of

pub not_slot_0 : (r : ℕ) → r ≡ slot_of (Deliver 5) → r ≡ 0 → ⊥
unfolding slot_of
not_slot_0 r p q = omega arith

pub not_next_slot : (r : ℕ) → r ≡ slot_of (Deliver 5) → r ≡ 6 → ⊥
unfolding slot_of
not_next_slot r p q = omega arith

-- the pair of replica 2 for cell 3 stands at 35, that of replica 3 for cell 2 at 50
pub not_swapped : (r : ℕ) → r ≡ place_in (Some message) → r ≡ 50 → ⊥
unfolding place_in
not_swapped r p q = omega arith

pub not_first_place : (r : ℕ) → r ≡ place_in (Some message) → r ≡ 0 → ⊥
unfolding place_in
not_first_place r p q = omega arith

-- a stop is about the client it names, a delivery about its message's
pub not_the_message : (r : ℕ) → r ≡ client_of (Stop (record { 0 = 0 })) (Some message) → r ≡ 1 → ⊥
unfolding client_of
not_the_message r p q = omega arith

pub not_the_slot : (r : ℕ) → r ≡ client_of (Deliver 7) (Some message) → r ≡ 7 → ⊥
unfolding client_of client_in
not_the_slot r p q = omega arith

-- ---- checked

pub one_checked : (o : Decision) (count : ℕ) (parties : List Party) (clients room : ℕ) (r r' : Decision)
    → r ≡ checked o (count + owed_in clients parties) room → r' ≡ checked o (count + owed_in clients parties) room → SameOutcome r r'
one_checked o count parties clients room r r' p q = one_outcome (checked o (count + owed_in clients parties) room) r r' p q

-- a delivered slot counts as free; a slot that stays doesn't; a start needs room for its entry and its answer
pub not_13_delivered : (r : Decision) → r ≡ checked (sending true Nothing) 0 2 → refusal_in r ≡ 13 → ⊥
unfolding checked noted freed ones refusal_in
not_13_delivered r p q = let e : refusal_in r ≡ 0 = ap refusal_in p in omega arith

pub not_sent_short : (r : Decision) → r ≡ checked (sending false Nothing) 0 2 → refusal_in r ≡ 0 → ⊥
unfolding checked noted freed ones refusal_in
not_sent_short r p q = let e : refusal_in r ≡ 13 = ap refusal_in p in omega arith

pub not_past_2048 : (r : Decision) → r ≡ checked (sending false (Asked (Done (record { 0 = 0 })))) (entry_limit - 1) 9 → refusal_in r ≡ 0 → ⊥
unfolding checked noted refusal_in
not_past_2048 r p q = let e : refusal_in r ≡ 11 = ap refusal_in p in omega arith
