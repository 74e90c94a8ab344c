-- The tie: which view of crate protocol stands for a rack, and what each message on its wire then means. An operation has the number of its start
-- entry, as in the record.
use Rattle.std.specs.Prelude.{ℕ, ◌≤◌, ◌≡◌, ◌≢◌, Bool, true, false, cond, List, leb, ℤ, pos, length, None, Some, Option}
use Rattle.rack.specs.declared.Rack.{Rack}
use Rattle.protocol.specs.View.{View, Setting, Pair as Seen, Op, zero_pair}
use Rattle.record.specs.declared.Cell.{Cell}
use Rattle.record.specs.Entry.{client_limit}
use Rattle.record.specs.Record.{entry_limit}
use Rattle.law.specs.Operation.{Op as Recorded}
use Rattle.law.specs.Order.{In}
use Rattle.stamps.specs.declared.Pair.{Pair}
use Rattle.stamps.specs.StampOrder.{stamp_of}
use Rattle.method.specs.declared.Body.{Body}
use Rattle.method.specs.declared.Body.TheVariants.{Ask, Tell, Keep, Kept}
use Rattle.method.specs.declared.Message.{Message}
use Rattle.method.specs.declared.Goal.{Goal}
use Rattle.method.specs.declared.Goal.TheVariants.{Read, Write}
use Rattle.method.specs.declared.Phase.{Phase}
use Rattle.method.specs.declared.Phase.TheVariants.{Asking, Keeping}
use Rattle.method.specs.declared.Operation.{Operation}
use Rattle.rack.specs.Places.{pair_limit, party_at}
use Rattle.protocol.specs.Message.{Tell as Told, Keep as Chose, Kept as Has}

-- a pair as the view sees it
abbrev pub pair_of : Pair → Seen
pair_of p = record { stamp = stamp_of p.stamp; value = p.value }

-- whether the operation is a write
abbrev pub writes : Goal → Bool
writes Read = false
writes (Write v) = true

-- the value that a write asks for, 0 for a read
abbrev pub value_of : Goal → ℤ
value_of Read = pos 0
value_of (Write v) = v

-- operation o of a client, not ended: its phase is 1 while it asks and 2 while it keeps
abbrev pub open_with : ℕ → ℕ → ℕ → Cell → Goal → ℕ → Seen → Op
open_with phase o client cell goal set held =
    record {
      phase = phase;
      call = record { client = client; cell = cell.0; write = writes goal; value = value_of goal; start = o };
      set = set;
      held = held;
      stop = 0;
    }

-- what is held in the ask phase; the view's zero pair where nothing is
abbrev pub held_in : Option Pair → Seen
held_in None = zero_pair
held_in (Some p) = pair_of p

-- operation o of a client as the view sees what is open: its phase is 1 while it asks and 2 while it keeps
abbrev pub open_phase : Phase → ℕ → ℕ → Operation → Op
open_phase (Asking held) o client x = open_with 1 o client x.cell x.goal x.set (held_in held)
open_phase (Keeping held) o client x = open_with 2 o client x.cell x.goal x.set (pair_of held)

-- the same, by the phase that it is in
abbrev pub open_at : ℕ → ℕ → Operation → Op
open_at o client x = open_phase x.phase o client x

-- operation i has ended if it is client c's and has begun
abbrev pub Past : (ℕ → Op) → ℕ → ℕ → Type 0
Past ops c i = (ops i).call.client ≡ c → 1 ≤ (ops i).phase → 3 ≤ (ops i).phase

-- operation o is x, and all that client c began before has ended
abbrev pub Stands : (ℕ → Op) → ℕ → ℕ → Op → Type 0
Stands ops c o x = (ops o ≡ x) × ((i : ℕ) → i ≢ o → Past ops c i)

-- client c is at this work, with its operation o
abbrev pub At : (ℕ → Op) → ℕ → ℕ → Option Operation → Type 0
At ops c o None = (i : ℕ) → Past ops c i
At ops c o (Some x) = Stands ops c o (open_at o c x)

-- what a message between the client of operation o and replica k says, about cell x
abbrev pub Means : Setting → View → ℕ → ℕ → ℕ → Body → Type 0
Means S v o k x Ask = (1 ≤ (v.ops o).phase) × ((v.ops o).call.cell ≡ x)
Means S v o k x (Tell p) = Told S v o k (pair_of p)
Means S v o k x (Keep p) = Chose v o x (pair_of p)
Means S v o k x Kept = Has v o k

-- a message on the wire: of an operation number that its client has had, and it means something true; `name` says which operation of the view a client's
-- operation number is
abbrev pub OnWire : Setting → View → (ℕ → ℕ → ℕ) → (ℕ → ℕ) → Message → Type 0
OnWire S v name op m = (m.op ≤ op m.client.0) × Means S v (name m.client.0 m.op) m.replica.0 m.cell.0 m.body

-- what holds of a slot's message
abbrev pub Holding : (Message → Type 0) → Option Message → Type 0
Holding P None = Unit {0}
Holding P (Some m) = P m

-- a client's operation number
abbrev pub op_of : Rack → ℕ → ℕ
op_of r c = (party_at r c).op

-- operation i as the record shows it
abbrev pub shown : ℕ → Op → Recorded
shown i x =
    record {
      number = i;
      client = x.call.client;
      cell = x.call.cell;
      write = x.call.write;
      value = cond x.call.write x.call.value (cond (leb 3 x.phase) x.held.value (pos 0));
      start = x.call.start;
      over = leb 3 x.phase;
      stop = x.stop;
    }

-- the operations of a record are those of the view that have begun
pub record Book (ops : ℕ → Op) (s : List Recorded) : Type 0 where
  pub begun : (x : Recorded) → In x s → 1 ≤ (ops x.number).phase
  pub known : (x : Recorded) → In x s → x ≡ shown x.number (ops x.number)
  pub every : (i : ℕ) → 1 ≤ (ops i).phase → In (shown i (ops i)) s

-- the arrays have their lengths
pub record Long (r : Rack) : Type 0 where
  pub parties : length r.parties ≡ client_limit
  pub pairs : length r.pairs ≡ pair_limit
  pub lines : length r.lines ≡ entry_limit
