-- Each plan leaves what words can say again.
use Rattle.std.specs.Prelude.{ℕ, ◌+◌, ◌<◌, ◌≡◌, true, ltb, None, Some, Option}
use Rattle.std.proofs.Common.{sym, arith}
use Rattle.std.proofs.Math.Path.{subst}
use borrow.Author.Tests.{ltb-true}
use Rattle.record.specs.declared.Client.{Client}
use Rattle.record.specs.declared.Cell.{Cell}
use Rattle.quorum.specs.Sets.{with_replica, without_replica}
use Rattle.quorum.proofs.theorems.SetLaws.{with_below, without_below}
use Rattle.stamps.specs.declared.Pair.{Pair}
use Rattle.method.specs.declared.Message.{Message}
use Rattle.method.specs.declared.Goal.{Goal}
use Rattle.method.specs.declared.Goal.TheVariants.{Read, Write}
use Rattle.method.specs.declared.Sight.{Sight}
use Rattle.method.specs.declared.Event.{Event}
use Rattle.method.specs.declared.Event.TheVariants.{StartRead, StartWrite, Deliver, Lose, Copy, Resend, Stop, Off, On, Unknown}
use Rattle.method.specs.declared.Note.{Note}
use Rattle.method.specs.declared.Note.TheVariants.{Nothing, Asked, Ended}
use Rattle.method.specs.declared.Plan.{Plan}
use Rattle.method.specs.Holding.{first_entry, last_entry}
use Rattle.method.specs.Plan.{used_up, powered}
use Rattle.method.specs.Method.{Starts, Delivers, Does}
use Rattle.method.specs.Method.Delivers.{tells, takes, hears, chooses, counts, ends, spends}
use Rattle.method.specs.laws.Tests.{and_left, and_right}
use Rattle.rack.specs.declared.Settings.{Settings}
use Rattle.rack.specs.Places.{replica_limit}
use Rattle.rack.specs.Sound.{held_fits}
use Rattle.rack.specs.Looking.{in_rack}
use Rattle.rack.specs.laws.SoundLaws.{Sized, Named, named}
use Rattle.layout.specs.Layout.{op_limit, power_limit}
use Rattle.layout.specs.laws.Small.{TagSmall}
use Rattle.layout.specs.laws.Trip.{entry_fits}

-- the entry that a note adds, if any, names a client and a cell that a record can have
abbrev pub NoteFits : Note → Type 0
NoteFits Nothing = Unit {0}
NoteFits (Asked e) = entry_fits e
NoteFits (Ended e) = entry_fits e

-- a plan whose parts words can say again
pub record PlanStays (p : Plan) : Type 0 where
  pub power : p.power < power_limit
  pub op : p.party.op < op_limit
  pub message : p.message.op < op_limit
  pub note : NoteFits p.note

module _ (z : Settings) (n : Sized z) (s : Sight) (on : s.power < power_limit) (small : s.party.op < op_limit) where
  -- ---- start

  first_fits : (goal : Goal) (client : Client) (cell : Cell) → client.0 < z.clients → cell.0 < z.cells → entry_fits (first_entry goal client cell)
  first_fits Read client cell hc hx = (omega (arith, n.clients), omega (arith, n.cells))
  first_fits (Write v) client cell hc hx = (omega (arith, n.clients), omega (arith, n.cells))

  start_stays : (client : Client) (cell : Cell) (goal : Goal) (p : Plan) → client.0 < z.clients → cell.0 < z.cells → Starts s client cell goal p → PlanStays p
  start_stays client cell goal p hc hx x =
      let d = x.next in
      let up : s.party.op + 1 < op_limit = omega (arith, d) in
      subst PlanStays (sym x.plan) (record { power = on; op = up; message = up; note = first_fits goal client cell hc hx })

  -- ---- a slot's message

  module _ (m : Message) (who : Named z m) (late : m.op < op_limit) where
    -- the entry that ends an operation
    last_fits : (goal : Goal) (held : Pair) → entry_fits (last_entry goal m.client held)
    unfolding last_entry
    last_fits Read held = omega (arith, who.client, n.clients)
    last_fits (Write v) held = omega (arith, who.client, n.clients)

    used_stays : PlanStays (used_up s m)
    used_stays = record { power = on; op = small; message = late; note = tt }

    deliver_stays : (p : Plan) → Delivers s m p → PlanStays p
    deliver_stays p (tells x) = subst PlanStays (sym x.plan) (record { power = on; op = small; message = late; note = tt })
    deliver_stays p (takes x) = subst PlanStays (sym x.plan) (record { power = on; op = small; message = late; note = tt })
    deliver_stays p (hears x) = subst PlanStays (sym x.plan) (record { power = on; op = small; message = late; note = tt })
    deliver_stays p (chooses x) = subst PlanStays (sym x.plan) (record { power = on; op = small; message = small; note = tt })
    deliver_stays p (counts x) = subst PlanStays (sym x.plan) (record { power = on; op = small; message = late; note = tt })
    deliver_stays p (ends x) =
        subst PlanStays (sym x.plan) (record { power = on; op = small; message = late; note = last_fits x.counted.operation.goal x.counted.held })
    deliver_stays p (spends x) = subst PlanStays (sym x.plan) used_stays

  -- ---- every event

  -- a replica is switched
  powered_stays : (after : ℕ) → after < power_limit → PlanStays (powered s after)
  powered_stays after h = record { power = h; op = small; message = omega arith; note = tt }

  pub plan_stays : (held : Option Message) → held_fits z held ≡ true → TagSmall held → (e : Event) → in_rack z e ≡ true → (p : Plan) → Does s held e p → PlanStays p
  unfolding in_rack held_fits
  plan_stays held hh ho (StartRead client cell) i p x =
      start_stays client cell Read p (ltb-true _ _ (and_left (ltb client.0 z.clients) (ltb cell.0 z.cells) i))
      (ltb-true _ _ (and_right (ltb client.0 z.clients) (ltb cell.0 z.cells) i)) x
  plan_stays held hh ho (StartWrite client cell v) i p x =
      start_stays client cell (Write v) p (ltb-true _ _ (and_left (ltb client.0 z.clients) (ltb cell.0 z.cells) i))
      (ltb-true _ _ (and_right (ltb client.0 z.clients) (ltb cell.0 z.cells) i)) x
  plan_stays None hh ho (Deliver slot) i p x = absurd x
  plan_stays (Some m) hh ho (Deliver slot) i p x = deliver_stays m (named z m hh) ho p x
  plan_stays None hh ho (Lose slot) i p x = absurd x
  plan_stays (Some m) hh ho (Lose slot) i p x = subst PlanStays (sym x) (used_stays m (named z m hh) ho)
  plan_stays None hh ho (Copy slot) i p x = absurd x
  plan_stays (Some m) hh ho (Copy slot) i p x = subst PlanStays (sym x) (record { power = on; op = small; message = ho; note = tt })
  plan_stays held hh ho (Resend client) i p x = subst PlanStays (sym x.plan) (record { power = on; op = small; message = small; note = tt })
  plan_stays held hh ho (Stop client) i p x = subst PlanStays (sym x.plan) (record { power = on; op = small; message = omega arith; note = tt })
  plan_stays held hh ho (Off replica) i p x =
      subst PlanStays (sym x.plan) (powered_stays (without_replica s.power replica.0) (without_below replica_limit s.power replica.0 on))
  plan_stays held hh ho (On replica) i p x =
      let r : replica.0 < z.replicas = ltb-true replica.0 z.replicas i in
      subst PlanStays (sym x.plan) (powered_stays (with_replica s.power replica.0) (with_below replica_limit s.power replica.0 on (omega (arith, n.replicas, r))))
  plan_stays held hh ho Unknown i p x = absurd x
