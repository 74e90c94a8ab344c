-- The tie of a rack and a view, whole: which view of crate protocol stands for a rack.
use Rattle.std.specs.Prelude.{ℕ, ◌<◌, ◌≡◌}
use Rattle.rack.specs.declared.Rack.{Rack}
use Rattle.rack.specs.Sound.{quorums_of}
use Rattle.rack.specs.Places.{party_at, pair_at, held_at, record_of}
use Rattle.law.specs.Operation.{operations}
use Rattle.protocol.specs.View.{View}
use Rattle.protocol.specs.Move.{Reached}
use Rattle.promise.specs.Setting.{setting_of}
use Rattle.promise.specs.Tie.{pair_of, At, OnWire, Holding, op_of, Book, Long}

-- the view v stands for the rack r, and name says which operation of it a client's operation number is
pub record Tie (r : Rack) (v : View) (name : ℕ → ℕ → ℕ) : Type 0 where
  pub long : Long r
  -- legal moves lead to the view
  pub reached : Reached (setting_of (quorums_of r.settings)) v
  -- its time is the number of entries
  pub now : v.now ≡ r.count
  -- every client is at what its operation is at
  pub clients : (c : ℕ) → c < r.settings.clients → At v.ops c (name c (op_of r c)) (party_at r c).work
  -- every pair is the view's
  pub pairs : (k x : ℕ) → k < r.settings.replicas → x < r.settings.cells → v.pair k x ≡ pair_of (pair_at r k x)
  -- every message on the wire means something true
  pub wire : (i : ℕ) → Holding (OnWire (setting_of (quorums_of r.settings)) v name (op_of r)) (held_at r i)
  -- the record shows the operations
  pub book : Book v.ops (operations (record_of r))

-- some view stands for the rack
pub record Tied (r : Rack) : Type 0 where
  pub view : View
  pub name : ℕ → ℕ → ℕ
  pub tie : Tie r view name
