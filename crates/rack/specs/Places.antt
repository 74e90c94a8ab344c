-- Where the parts of a rack stand.
use Rattle.std.specs.Prelude.{ℕ, ◌+◌, ◌*◌, Bool, false, List, [], ◌∷◌, map, get_or, set, take, None, Some, Option}
use Rattle.record.specs.declared.Entry.{Entry}
use Rattle.record.specs.declared.Entry.TheVariants.{Done}
use Rattle.record.specs.Entry.{cell_limit}
use Rattle.slots.specs.Free.{slot_count, count_free, first_free}
use Rattle.stamps.specs.declared.Pair.{Pair}
use Rattle.method.specs.declared.Message.{Message}
use Rattle.rack.specs.declared.Slot.{Slot}
use Rattle.method.specs.Refusals.{is_empty}
use Rattle.method.specs.declared.Party.{Party}
use Rattle.rack.specs.declared.Line.{Line}
use Rattle.rack.specs.declared.Settings.{Settings}
use Rattle.rack.specs.declared.Rack.{Rack}
use Rattle.stamps.specs.Stamp.{fresh_pair}

-- the wire has 256 slots
abbrev pub slot_limit : ℕ
slot_limit = slot_count

-- a rack has at most 15 replicas
abbrev pub replica_limit : ℕ
replica_limit = 15

-- there are places for the pairs of so many replicas, each with one for every cell
abbrev pub pair_limit : ℕ
pair_limit = replica_limit * cell_limit

-- the settings of a rack of these sizes
abbrev pub of_sizes : ℕ → ℕ → ℕ → Settings
of_sizes replicas clients cells = record { replicas = replicas; clients = clients; cells = cells }

-- an empty slot
abbrev pub empty : Slot
empty = record { held = None }

-- a slot that holds a message
abbrev pub full : Message → Slot
full m = record { held = Some m }

-- a client that has done nothing yet
abbrev pub idle : Party
idle = record { stopped = false; op = 0; work = None }

-- what stands at a place of the record that has no entry yet
abbrev pub blank : Line
blank = record { entry = Done (record { 0 = 0 }) }

-- client i
abbrev pub party_at : Rack → ℕ → Party
party_at r i = get_or r.parties i idle

-- the place of replica k's pair for cell x
abbrev pub pair_place : ℕ → ℕ → ℕ
pair_place k x = cell_limit * k + x

-- replica k's pair for cell x
abbrev pub pair_at : Rack → ℕ → ℕ → Pair
pair_at r k x = get_or r.pairs (pair_place k x) fresh_pair

-- what slot i of a wire holds
abbrev pub held_in : List Slot → ℕ → Option Message
held_in wire i = (get_or wire i empty).held

-- what slot i of the rack's wire holds
abbrev pub held_at : Rack → ℕ → Option Message
held_at r i = held_in r.wire i

-- which slots are free
unfoldable pub free_at : List Slot → ℕ → Bool
free_at wire i = is_empty (held_in wire i)

-- how many slots are free
unfoldable pub room_of : List Slot → ℕ
room_of wire = count_free (free_at wire)

-- messages to be sent take the lowest free slots in order
unfoldable pub sent_of : List Slot → List Message → List Slot
sent_of wire [] = wire
sent_of wire (m ∷ ms) = sent_of (set wire (first_free (free_at wire)) (full m)) ms

-- the record: the entries of the first `count` lines
unfoldable pub record_of : Rack → List Entry
record_of r = map (λ (l : Line). l.entry) (take r.count r.lines)
