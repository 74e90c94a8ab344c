-- Slots in use equal messages sent plus copies, less deliveries, less losses.
use Rattle.std.specs.Prelude.{ℕ, zero, suc, ◌+◌, ◌≡◌, refl, Bool, true, false, not, List, length, replicate, Ok}
use Rattle.std.proofs.Common.{ap, ◌∙◌, arith}
use Rattle.std.proofs.lemmas.List.{length-replicate}
use Rattle.slots.specs.Free.{digit, count_from}
use Rattle.rack.specs.declared.Slot.{Slot}
use Rattle.rack.specs.declared.Rack.{Rack}
use Rattle.method.specs.declared.Event.{Event}
use Rattle.method.specs.declared.Plan.{Plan}
use Rattle.rack.specs.Places.{of_sizes, slot_limit, empty, free_at, room_of}
use Rattle.rack.specs.Sound.{sound_of}
use Rattle.rack.specs.Run.{applied_of, fresh_rack, made_of, run_of}
use Rattle.rack.specs.Refusals.{decided}
use Rattle.rack.proofs.theorems.Decided.{decided_fits}
use Rattle.rack.specs.Counts.{sent_by, delivered_by}
use Rattle.runs.specs.laws.Stays.{sound_stays}
use Rattle.runs.specs.laws.Loop.{applied_wire, room_after}
use Rattle.counts.specs.Counts.{in_use, copied_by, lost_by, tally_of}
use Rattle.counts.proofs.theorems.PlanCounts.{decided_counts}
use Rattle.counts.specs.laws.Runs.{both, Adds, run_adds, unsound_none, made_fresh}

-- ---- slots in use and free slots

use_or_free : (n b : ℕ) (f : ℕ → Bool) → count_from n b (λ i. not (f i)) + count_from n b f ≡ n
unfolding count_from
use_or_free zero b f = refl
use_or_free (suc n) b f = go (f b) (use_or_free n (b + 1) f)
  where
    go : (t : Bool) → count_from n (b + 1) (λ i. not (f i)) + count_from n (b + 1) f ≡ n
        → digit (not t) + count_from n (b + 1) (λ i. not (f i)) + (digit t + count_from n (b + 1) f) ≡ suc n
    go true ih = omega arith
    go false ih = omega arith

use_room : (w : List Slot) → in_use w + room_of w ≡ slot_limit
unfolding in_use room_of
use_room w = use_or_free slot_limit 0 (free_at w)

-- ---- a run

-- a sound rack whose wire has all its slots
abbrev Wired : Rack → Type 0
Wired r = (sound_of r ≡ true) × (length r.wire ≡ slot_limit)

-- the slots of the rack's wire that hold a message
abbrev used_in : Rack → ℕ
used_in r = in_use r.wire

-- messages that an event takes out of their slots: delivered or lost
abbrev leaves : Event → Plan → ℕ
leaves e p = delivered_by e + lost_by e

-- messages that an event puts into slots: sent or copied
abbrev enters : Event → Plan → ℕ
enters e p = sent_by e p + copied_by e

event_in_use : (r : Rack) (e : Event) (p : Plan) → Wired r → decided r e ≡ Ok p → Adds Wired used_in leaves enters r e p
event_in_use r e p w g =
    let c = decided_counts r e p w.0 g in
    let a = room_after r e p (decided_fits r e p w.0 g) w.1 in
    record {
      keeps = (sound_stays r e p w.0 g, applied_wire r e p ∙ w.1);
      adds = omega (arith, use_room (applied_of r e p).wire, use_room r.wire, a, c.clears, c.fills);
    }

-- For every rack, every schedule and every allowance: what is in use after the run, and what was delivered or lost in it, are what was in use before,
-- and what was sent or copied. (A rack's wire has `slot_limit` slots; an unsound rack's run does nothing.)
pub in_use_lem : (r : Rack) (allowance : ℕ) (ws : List ℕ) → length r.wire ≡ slot_limit
    → in_use (run_of r allowance ws).rack.wire + ((tally_of r allowance ws).delivered + (tally_of r allowance ws).lost)
    ≡ in_use r.wire + ((tally_of r allowance ws).sent + (tally_of r allowance ws).copied)
in_use_lem r allowance ws l = go (sound_of r) refl
  where
    go : (t : Bool) → sound_of r ≡ t
        → in_use (run_of r allowance ws).rack.wire + ((tally_of r allowance ws).delivered + (tally_of r allowance ws).lost)
        ≡ in_use r.wire + ((tally_of r allowance ws).sent + (tally_of r allowance ws).copied)
    go true s =
        omega (
          arith,
          (run_adds Wired used_in leaves enters event_in_use r allowance ws s (s, l)).1,
          both (λ e p. delivered_by e) (λ e p. lost_by e) r allowance ws,
          both sent_by (λ e p. copied_by e) r allowance ws,
        )
    go false u =
        let a = unsound_none sent_by r allowance ws u in
        omega (
          arith,
          ap used_in a.left,
          a.count,
          (unsound_none (λ e p. copied_by e) r allowance ws u).count,
          (unsound_none (λ e p. delivered_by e) r allowance ws u).count,
          (unsound_none (λ e p. lost_by e) r allowance ws u).count,
        )

-- ---- from a fresh rack

-- the wire of a fresh rack
fresh_wire : (replicas clients cells : ℕ) → (fresh_rack (of_sizes replicas clients cells)).wire ≡ replicate slot_limit empty
unfolding fresh_rack
fresh_wire replicas clients cells = refl

none_in_use : in_use (replicate slot_limit empty) ≡ 0
unfolding in_use count_from free_at
none_in_use = refl

-- slots in use equal messages sent plus copies, less deliveries, less losses, each counted from the events done
pub in_use_fresh : (replicas clients cells allowance : ℕ) (ws : List ℕ)
    → in_use (run_of (made_of (of_sizes replicas clients cells)).rack allowance ws).rack.wire
    + ((tally_of (made_of (of_sizes replicas clients cells)).rack allowance ws).delivered + (tally_of (made_of (of_sizes replicas clients cells)).rack allowance ws).lost)
    ≡ (tally_of (made_of (of_sizes replicas clients cells)).rack allowance ws).sent + (tally_of (made_of (of_sizes replicas clients cells)).rack allowance ws).copied
in_use_fresh replicas clients cells allowance ws =
    let e = made_fresh (λ (r : Rack). r.wire ≡ replicate slot_limit empty) fresh_wire replicas clients cells in
    omega (
      arith,
      in_use_lem (made_of (of_sizes replicas clients cells)).rack allowance ws (ap length e ∙ length-replicate slot_limit empty),
      ap in_use e,
      none_in_use,
    )
