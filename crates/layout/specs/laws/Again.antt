-- What the theorems of Again speak of.
use Prim.Native.Nat.{ℕ, ◌<◌}
use Rattle.std.specs.Prelude.{◌≡◌}
use Rattle.rack.specs.declared.Rack.{Rack}
use Rattle.rack.specs.Places.{slot_limit, party_at, pair_at, held_at}
use Rattle.layout.specs.Layout.{op_limit, power_limit}
use Rattle.layout.specs.Writing.{entry_in}
use Rattle.layout.specs.laws.Trip.{entry_fits}
use Rattle.layout.specs.laws.Small.{TagSmall}

-- what the words can say again of a sound rack: a bit of power for each replica that a rack can have, operation numbers up to the last, and entries of clients
-- and cells that a record can have
pub record Sayable (r : Rack) : Type 0 where
  pub power : r.power < power_limit
  pub ops : (i : ℕ) → i < r.settings.clients → (party_at r i).op < op_limit
  pub tags : (i : ℕ) → i < slot_limit → TagSmall (held_at r i)
  pub entries : (i : ℕ) → i < r.count → entry_fits (entry_in r.lines i)

-- the rack q has the parts of the rack r
pub record Again (r q : Rack) : Type 0 where
  pub settings : q.settings ≡ r.settings
  pub power : q.power ≡ r.power
  pub count : q.count ≡ r.count
  pub parties : (i : ℕ) → i < r.settings.clients → party_at q i ≡ party_at r i
  pub pairs : (k x : ℕ) → k < r.settings.replicas → x < r.settings.cells → pair_at q k x ≡ pair_at r k x
  pub slots : (i : ℕ) → i < slot_limit → held_at q i ≡ held_at r i
  pub entries : (i : ℕ) → i < r.count → entry_in q.lines i ≡ entry_in r.lines i
