-- What the theorems of Trip speak of.
use Rattle.std.specs.Prelude.{◌<◌, None, Some, Option}
use Rattle.method.specs.declared.Operation.{Operation}
use Rattle.record.specs.declared.Entry.{Entry}
use Rattle.record.specs.declared.Entry.TheVariants.{ReadAsked, WriteAsked, Told, Done}
use Rattle.method.specs.declared.Body.{Body}
use Rattle.method.specs.declared.Body.TheVariants.{Ask, Tell, Keep, Kept}
use Rattle.method.specs.declared.Message.{Message}
use Rattle.method.specs.declared.Phase.{Phase}
use Rattle.method.specs.declared.Phase.TheVariants.{Asking, Keeping}
use Rattle.record.specs.Entry.{client_limit, cell_limit}
use Rattle.layout.specs.Layout.{byte_limit, set_limit, op_limit}

-- an entry names a client and a cell that a record can have
abbrev pub entry_fits : Entry → Type 0
entry_fits (ReadAsked client cell) = (client.0 < client_limit) × (cell.0 < cell_limit)
entry_fits (WriteAsked client cell v) = (client.0 < client_limit) × (cell.0 < cell_limit)
entry_fits (Told client v) = client.0 < client_limit
entry_fits (Done client) = client.0 < client_limit

-- the pair of a tell or a keep has a rank that a byte holds
abbrev pub body_small : Body → Type 0
body_small Ask = Unit {0}
body_small (Tell p) = p.stamp.rank < byte_limit
body_small (Keep p) = p.stamp.rank < byte_limit
body_small Kept = Unit {0}

-- a message names what bytes hold, and its operation number is at most the last
pub record MessageSmall (m : Message) : Type 0 where
  pub client : m.client.0 < byte_limit
  pub replica : m.replica.0 < byte_limit
  pub cell : m.cell.0 < byte_limit
  pub op : m.op < op_limit
  pub body : body_small m.body

-- so does the message of a slot
abbrev pub held_small : Option Message → Type 0
held_small None = Unit {0}
held_small (Some m) = MessageSmall m

-- a pair that is held has a rank that a byte holds
abbrev pub phase_small : Phase → Type 0
phase_small (Asking None) = Unit {0}
phase_small (Asking (Some p)) = p.stamp.rank < byte_limit
phase_small (Keeping p) = p.stamp.rank < byte_limit

-- an open operation names what bytes hold, and its set has no more bits than a set has
abbrev pub work_small : Option Operation → Type 0
work_small None = Unit {0}
work_small (Some o) = (o.cell.0 < byte_limit) × ((o.set < set_limit) × phase_small o.phase)
