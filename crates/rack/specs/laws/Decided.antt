-- What an event of a sound rack looks at is there, and what is decided on it stays in the rack.
use Rattle.std.specs.Prelude.{◌+◌, ◌≤◌, ◌<◌, ◌≡◌, true}
use Rattle.std.specs.Int.Count.{ones}
use Rattle.record.specs.Record.{entry_limit}
use Rattle.method.specs.declared.Event.{Event}
use Rattle.method.specs.declared.Plan.{Plan}
use Rattle.method.specs.Method.{Does}
use Rattle.rack.specs.declared.Rack.{Rack}
use Rattle.rack.specs.Places.{slot_limit, pair_limit, room_of}
use Rattle.rack.specs.Sound.{pair_fits, held_fits, work_fits, owed_by, owed}
use Rattle.rack.specs.Looking.{in_rack, slot_of, looked_held, looked_client, looked_party, looked_place, looked_pair, sight}
use Rattle.rack.specs.Refusals.{freed}
use Rattle.rack.specs.Run.{entries_in}
use Rattle.rack.specs.laws.PlanLaws.{PlanFits}

-- what it looks at is there, and names only what the rack has
pub record Looked (r : Rack) (e : Event) : Type 0 where
  pub slot : slot_of e < slot_limit
  pub client : looked_client r e < r.settings.clients
  pub place : looked_place r e < pair_limit
  pub held : held_fits r.settings (looked_held r e) ≡ true
  pub work : work_fits r.settings (looked_party r e).work ≡ true
  pub pair : pair_fits r.settings (looked_pair r e) ≡ true

-- ---- an event that is done

-- what holds where p is the plan of an event that is done: the rack is sound, the event is of this rack, it does what the method says, and what it leaves and
-- sends fits
pub record Decided (r : Rack) (e : Event) (p : Plan) : Type 0 where
  pub inside : in_rack r.settings e ≡ true
  pub looked : Looked r e
  pub does : Does (sight r e) (looked_held r e) e p
  pub fits : PlanFits r.settings (looked_party r e) (looked_held r e) p
  pub entries : r.count + entries_in p.note + owed r + owed_by p.party ≤ entry_limit + owed_by (looked_party r e)
  pub room : ones p.to ≤ room_of r.wire + freed p.clear
