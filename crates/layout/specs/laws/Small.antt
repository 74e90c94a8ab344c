-- What a sound rack holds is small enough for its words, but for operation numbers, power and entries.
use Rattle.std.specs.Prelude.{ℕ, ◌≤◌, ◌<◌, ◌≡◌, true, None, Some, Option}
use Rattle.std.proofs.Common.{arith, pow_mono, ltb-true}
use Rattle.method.specs.declared.Operation.{Operation}
use Rattle.method.specs.declared.Message.{Message}
use Rattle.quorum.specs.Sets.{set_bits, within}
use Rattle.quorum.proofs.theorems.SetLaws.{within_below}
use Rattle.stamps.specs.declared.Pair.{Pair}
use Rattle.method.specs.declared.Body.{Body}
use Rattle.method.specs.declared.Body.TheVariants.{Ask, Tell, Keep, Kept}
use Rattle.method.specs.declared.Phase.{Phase}
use Rattle.method.specs.declared.Phase.TheVariants.{Asking, Keeping}
use Rattle.rack.specs.declared.Settings.{Settings}
use Rattle.rack.specs.Sound.{pair_fits, body_fits, held_fits, work_fits}
use Rattle.rack.specs.laws.SoundLaws.{Sized, bits_enough, named, PhaseFits, opened}
use Rattle.layout.specs.Layout.{byte_limit, set_limit, op_limit}
use Rattle.layout.specs.laws.Trip.{body_small, held_small, phase_small, work_small}

-- the operation number of a slot's message is at most the last
abbrev pub TagSmall : Option Message → Type 0
TagSmall None = Unit {0}
TagSmall (Some m) = m.op < op_limit

pub rank_small : (z : Settings) (p : Pair) → Sized z → pair_fits z p ≡ true → p.stamp.rank < byte_limit
unfolding pair_fits
rank_small z p n h = omega (arith, ltb-true p.stamp.rank z.clients h, n.clients)

set_small : (z : Settings) (set : ℕ) → Sized z → within z.replicas set ≡ true → set < set_limit
set_small z set n h =
    let l : z.replicas ≤ set_bits = bits_enough z n in
    omega (arith, within_below z.replicas set h, pow_mono {i = z.replicas} {j = set_bits} l)

body_small_lem : (z : Settings) (b : Body) → Sized z → body_fits z b ≡ true → body_small b
unfolding body_fits
body_small_lem z Ask n h = tt
body_small_lem z (Tell p) n h = rank_small z p n h
body_small_lem z (Keep p) n h = rank_small z p n h
body_small_lem z Kept n h = tt

pub slot_small : (z : Settings) (x : Option Message) → Sized z → held_fits z x ≡ true → TagSmall x → held_small x
unfolding held_fits
slot_small z None n h o = tt
slot_small z (Some m) n h o =
    let q = named z m h in
    record {
      client = omega (arith, q.client, n.clients);
      replica = omega (arith, q.replica, n.replicas);
      cell = omega (arith, q.cell, n.cells);
      op = o;
      body = body_small_lem z m.body n q.body;
    }

phase_small_lem : (z : Settings) (set : ℕ) (ph : Phase) → Sized z → PhaseFits z set ph → phase_small ph
phase_small_lem z set (Asking None) n h = tt
phase_small_lem z set (Asking (Some p)) n h = rank_small z p n h.0.1
phase_small_lem z set (Keeping p) n h = rank_small z p n h.0

pub work_small_lem : (z : Settings) (w : Option Operation) → Sized z → work_fits z w ≡ true → work_small w
work_small_lem z None n h = tt
work_small_lem z (Some o) n h =
    let q = opened z o h in
    (omega (arith, q.cell, n.cells), (set_small z o.set n q.set, phase_small_lem z o.set o.phase n q.phase))
