-- No other outcome fits a call: two that both meet its contract are the same, in the number done, the refusal and the whole rack, and wrong ones do not
-- meet it: frauds that the paper names, each on one start or one delivery.
use Rattle.std.specs.Prelude.{ℕ, ◌-◌, ◌<◌, ◌≡◌, refl, List, [], ◌∷◌}
use Rattle.std.proofs.Common.{ap, sym, ◌∙◌, arith}
use Rattle.std.specs.Int.Count.{ones}
use Rattle.number.specs.Value.{signed_of}
use Rattle.quorum.specs.Sets.{set_bits, has_replica, every_replica, members_from}
use Rattle.slots.specs.Free.{count_from, first_from}
use Rattle.rack.specs.declared.Rack.{Rack}
use Rattle.rack.specs.declared.Ran.{Ran}
use Rattle.method.specs.Plan.{start_of, plan_of}
use Rattle.method.specs.Refusals.{is_unknown, is_start, names_slot, names_client, is_resend, is_delivery, slot_empty, client_stopped, already_open, none_open, replica_off, switched_so}
use Rattle.method.specs.Refusals.{op_spent, number_spent, decision_of}
use Rattle.rack.specs.Places.{of_sizes, slot_limit, free_at, room_of, sent_of}
use Rattle.rack.specs.Sound.{settings_fit, owes, owed_by, owed_in, owed}
use Rattle.method.specs.About.{client_in, client_of}
use Rattle.rack.specs.Run.{fresh_rack, byte, event_of, addressed, cleared, recorded, entries_in, applied_of, turn, ran_of}
use Rattle.rack.specs.Refusals.{noted, freed, checked}
use Rattle.rack.specs.Looking.{in_rack, slot_of, place_in}
use Rattle.rack.specs.Run.{run_of}
use Rattle.rack.specs.laws.Fresh.{fresh_sound}
use Rattle.runs.specs.laws.Steps.{run_steps}
use Rattle.runs.specs.laws.Ordered.{ordered_from, ordered}
use Rattle.runs.specs.Same.{SameRan}
use Rattle.runs.specs.Examples.{Starts, Delivers}

-- ---- run, step

same_ran : (o r r' : Ran) → r ≡ o → r' ≡ o → SameRan r r'
same_ran o r r' p q =
    let e : r ≡ r' = p ∙ sym q in
    record { done = ap (λ (x : Ran). x.done) e; refusal = ap (λ (x : Ran). x.refusal) e; rack = ap (λ (x : Ran). x.rack) e }

pub one_run : (s : Rack) (allowance : ℕ) (ws : List ℕ) (r r' : Ran) → r ≡ run_of s allowance ws → r' ≡ run_of s allowance ws → SameRan r r'
one_run s allowance ws r r' p q = same_ran (run_of s allowance ws) r r' p q

pub one_step : (s : Rack) (kind a b v : ℕ) (r r' : Ran) → r ≡ run_of s 1 (kind ∷ a ∷ b ∷ v ∷ []) → r' ≡ run_of s 1 (kind ∷ a ∷ b ∷ v ∷ []) → SameRan r r'
one_step s kind a b v r r' p q = one_run s 1 (kind ∷ a ∷ b ∷ v ∷ []) r r' p q

-- ---- a start on a fresh rack, with an allowance of five

-- it is done and nothing is refused, it fills three slots, and the record has one entry
record Begun (q : Ran) : Type 0 where
  done : q.done ≡ 1
  refusal : q.refusal ≡ 0
  room : room_of q.rack.wire ≡ slot_limit - 3
  count : q.rack.count ≡ 1

begun_from : Begun (ordered_from 0 (fresh_rack (of_sizes 3 1 1)) 5 (1 ∷ 0 ∷ 0 ∷ 18 ∷ []))
unfolding set_bits has_replica every_replica members_from ones count_from first_from start_of plan_of free_at room_of sent_of owes owed_by owed_in owed fresh_rack byte event_of
    in_rack slot_of client_in place_in client_of is_unknown is_start names_slot names_client is_resend is_delivery slot_empty client_stopped already_open none_open replica_off switched_so
    op_spent number_spent decision_of noted freed checked addressed cleared recorded entries_in applied_of turn ordered_from signed_of
begun_from = record { done = refl; refusal = refl; room = refl; count = refl }

begun : (q : Ran) → Starts q → Begun q
unfolding settings_fit
begun q p = rw (p ∙ ordered (fresh_rack (of_sizes 3 1 1)) 5 (1 ∷ 0 ∷ 0 ∷ 18 ∷ []) (fresh_sound 3 1 1 refl)) begun_from

-- a rack that always refuses
pub not_always_refused : (q : Ran) → Starts q → 0 < q.refusal → ⊥
not_always_refused q p h = omega (arith, (begun q p).refusal)

-- a rack that does nothing
pub not_idle : (q : Ran) → Starts q → room_of q.rack.wire ≡ slot_limit → ⊥
not_idle q p h = omega (arith, (begun q p).room)

-- an engine that records nothing
pub not_unrecorded : (q : Ran) → Starts q → q.rack.count ≡ 0 → ⊥
not_unrecorded q p h = omega (arith, (begun q p).count)

-- one that does all its work at the start: asked and done in one event
pub not_all_at_once : (q : Ran) → Starts q → q.rack.count ≡ 2 → ⊥
not_all_at_once q p h = omega (arith, (begun q p).count)

-- an invented number of events done: the allowance
pub not_the_allowance : (q : Ran) → Starts q → q.done ≡ 5 → ⊥
not_the_allowance q p h = omega (arith, (begun q p).done)

-- and for every run: just as many events as it says leave the rack that it gives
pub done_leaves : (s : Rack) (allowance : ℕ) (ws : List ℕ) (q : Ran) → q ≡ run_of s allowance ws → run_of s q.done ws ≡ ran_of q.done 0 q.rack
done_leaves s allowance ws q p = rw p (run_steps s allowance ws).same

-- ---- a delivery from a slot that is empty

refused_4 : (q : Ran) → Delivers q → q ≡ ran_of 0 4 (fresh_rack (of_sizes 3 1 1))
unfolding settings_fit fresh_rack event_of in_rack slot_of client_in place_in client_of is_unknown names_slot slot_empty decision_of checked turn ordered_from
refused_4 q p = p ∙ ordered (fresh_rack (of_sizes 3 1 1)) 1 (2 ∷ 0 ∷ 0 ∷ 0 ∷ []) (fresh_sound 3 1 1 refl)

-- it isn't done, and it isn't another refusal
pub not_done_empty : (q : Ran) → Delivers q → q.done ≡ 1 → ⊥
not_done_empty q p h = let e : q.done ≡ 0 = ap (λ (x : Ran). x.done) (refused_4 q p) in omega arith

pub not_another_refusal : (q : Ran) → Delivers q → q.refusal ≡ 8 → ⊥
not_another_refusal q p h = let e : q.refusal ≡ 4 = ap (λ (x : Ran). x.refusal) (refused_4 q p) in omega arith
