-- The record of a rack and its clients agree: what the record leaves open is what the clients are at. The paper: "The rack", "What each event
-- does", and the faults 24 to 28 of "The record and its bytes".
use Rattle.std.specs.Int.{w32}
use Rattle.std.proofs.Common.{SFits}
use Rattle.method.specs.declared.Operation.{Operation}
use Rattle.method.specs.declared.Message.{Message}
use Rattle.method.specs.declared.Event.{Event}
use Rattle.method.specs.declared.Event.TheVariants.{StartRead, StartWrite, Deliver, Lose, Copy, Resend, Stop, Off, On, Unknown}
use Rattle.std.specs.Prelude.{ℕ, ◌≤◌, ◌<◌, ◌≡◌, List, [], ◌∷◌, get_or, length, None, Some, Option}
use Rattle.record.specs.declared.Entry.{Entry}
use Rattle.record.specs.declared.Entry.TheVariants.{ReadAsked, WriteAsked, Told, Done}
use Rattle.record.specs.Entry.{client_limit}
use Rattle.record.specs.Record.{entry_limit, fresh}
use Rattle.record.specs.Legal.{Follows}
use Rattle.law.specs.Standing.{has, standing}
use Rattle.stamps.specs.declared.Pair.{Pair}
use Rattle.method.specs.declared.Body.{Body}
use Rattle.method.specs.declared.Body.TheVariants.{Ask, Tell, Keep, Kept}
use Rattle.method.specs.declared.Goal.{Goal}
use Rattle.method.specs.declared.Goal.TheVariants.{Read, Write}
use Rattle.method.specs.declared.Phase.{Phase}
use Rattle.method.specs.declared.Phase.TheVariants.{Asking, Keeping}
use Rattle.rack.specs.declared.Settings.{Settings}
use Rattle.rack.specs.declared.Rack.{Rack}
use Rattle.stamps.specs.Stamp.{fresh_pair}
use Rattle.rack.specs.Places.{party_at, held_at, record_of}

-- an event asks for a value of 32 bits
abbrev pub EventSmall : Event → Type 0
EventSmall (StartRead client cell) = Unit {0}
EventSmall (StartWrite client cell v) = SFits w32 v
EventSmall (Deliver slot) = Unit {0}
EventSmall (Lose slot) = Unit {0}
EventSmall (Copy slot) = Unit {0}
EventSmall (Resend client) = Unit {0}
EventSmall (Stop client) = Unit {0}
EventSmall (Off replica) = Unit {0}
EventSmall (On replica) = Unit {0}
EventSmall Unknown = Unit {0}

-- ---- what is open

-- an open operation as the record counts it: a read is 1, a write 2
abbrev pub open_for : Goal → ℕ
open_for Read = 1
open_for (Write v) = 2

-- nothing is 0
abbrev pub open_in : Option Operation → ℕ
open_in None = 0
open_in (Some o) = open_for o.goal

-- ---- entries

-- the rack has the entry's client and cell, and its value is one of 32 bits
abbrev pub Within : Settings → Entry → Type 0
Within z (ReadAsked client cell) = (client.0 < z.clients) × (cell.0 < z.cells)
Within z (WriteAsked client cell v) = (client.0 < z.clients) × (cell.0 < z.cells) × SFits w32 v
Within z (Told client v) = (client.0 < z.clients) × SFits w32 v
Within z (Done client) = client.0 < z.clients

-- every entry of the list is one of this rack
abbrev pub AllWithin : Settings → List Entry → Type 0
AllWithin z [] = Unit {0}
AllWithin z (e ∷ es) = Within z e × AllWithin z es

-- ---- values of 32 bits

-- the pair's value is one of 32 bits
abbrev pub PairSmall : Pair → Type 0
PairSmall p = SFits w32 p.value

-- the pair of a tell or a keep has a value of 32 bits
abbrev pub BodySmall : Body → Type 0
BodySmall Ask = Unit {0}
BodySmall (Tell p) = PairSmall p
BodySmall (Keep p) = PairSmall p
BodySmall Kept = Unit {0}

-- the message that the slot holds, if any, has a value of 32 bits
abbrev pub HeldSmall : Option Message → Type 0
HeldSmall None = Unit {0}
HeldSmall (Some m) = BodySmall m.body

-- the value that a write asks for is one of 32 bits
abbrev pub GoalSmall : Goal → Type 0
GoalSmall Read = Unit {0}
GoalSmall (Write v) = SFits w32 v

-- the value that is held, if any, is one of 32 bits
abbrev pub HoldingSmall : Option Pair → Type 0
HoldingSmall None = Unit {0}
HoldingSmall (Some p) = PairSmall p

-- the value held in a phase is one of 32 bits
abbrev pub PhaseSmall : Phase → Type 0
PhaseSmall (Asking held) = HoldingSmall held
PhaseSmall (Keeping held) = PairSmall held

-- the values of an open operation are of 32 bits: the one to be written, and the one held
abbrev pub WorkSmall : Option Operation → Type 0
WorkSmall None = Unit {0}
WorkSmall (Some o) = GoalSmall o.goal × PhaseSmall o.phase

-- every value that a read could be told, wherever it now is
pub record FitsWords (r : Rack) : Type 0 where
  pub pairs : (i : ℕ) → PairSmall (get_or r.pairs i fresh_pair)
  pub wire : (i : ℕ) → HeldSmall (held_at r i)
  pub works : (i : ℕ) → WorkSmall (party_at r i).work

-- ---- the whole rack

-- The arrays of clients and lines are whole; the record has `count` entries, all of this rack and none a 26 or 27 after those before it; and each
-- client is at what the record leaves it open.
pub record Agrees (r : Rack) : Type 0 where
  pub parties : length r.parties ≡ client_limit
  pub lines : length r.lines ≡ entry_limit
  pub count : length (record_of r) ≡ r.count
  pub most : r.count ≤ entry_limit
  pub small : FitsWords r
  pub within : AllWithin r.settings (record_of r)
  pub follows : Follows fresh (record_of r)
  pub stands : (i : ℕ) → i < r.settings.clients → has (standing (record_of r)) i ≡ open_in (party_at r i).work
