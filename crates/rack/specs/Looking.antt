-- What an event of a rack looks at: whether its numbers are in the rack, its slot, its client and its pair.
use Rattle.std.specs.Prelude.{ℕ, Bool, false, ◌&&◌, ltb, get_or, None, Some, Option}
use Rattle.method.specs.declared.Message.{Message}
use Rattle.stamps.specs.declared.Pair.{Pair}
use Rattle.stamps.specs.Stamp.{fresh_pair}
use Rattle.method.specs.declared.Party.{Party}
use Rattle.method.specs.declared.Sight.{Sight}
use Rattle.method.specs.declared.Event.{Event}
use Rattle.method.specs.declared.Event.TheVariants.{StartRead, StartWrite, Deliver, Lose, Copy, Resend, Stop, Off, On, Unknown}
use Rattle.method.specs.About.{client_of}
use Rattle.rack.specs.declared.Settings.{Settings}
use Rattle.rack.specs.declared.Rack.{Rack}
use Rattle.rack.specs.Places.{slot_limit, party_at, pair_place, held_at}
use Rattle.rack.specs.Sound.{quorums_of}

-- whether its numbers are in this rack
unfoldable pub in_rack : Settings → Event → Bool
in_rack z (StartRead client cell) = ltb client.0 z.clients && ltb cell.0 z.cells
in_rack z (StartWrite client cell v) = ltb client.0 z.clients && ltb cell.0 z.cells
in_rack z (Deliver slot) = ltb slot slot_limit
in_rack z (Lose slot) = ltb slot slot_limit
in_rack z (Copy slot) = ltb slot slot_limit
in_rack z (Resend client) = ltb client.0 z.clients
in_rack z (Stop client) = ltb client.0 z.clients
in_rack z (Off replica) = ltb replica.0 z.replicas
in_rack z (On replica) = ltb replica.0 z.replicas
in_rack z Unknown = false

-- its slot; slot 0 where it names none
unfoldable pub slot_of : Event → ℕ
slot_of (StartRead client cell) = 0
slot_of (StartWrite client cell v) = 0
slot_of (Deliver slot) = slot
slot_of (Lose slot) = slot
slot_of (Copy slot) = slot
slot_of (Resend client) = 0
slot_of (Stop client) = 0
slot_of (Off replica) = 0
slot_of (On replica) = 0
slot_of Unknown = 0

-- the place of the pair that a slot's message is about; 0 where it is empty
unfoldable pub place_in : Option Message → ℕ
place_in None = 0
place_in (Some m) = pair_place m.replica.0 m.cell.0

-- what the slot that it names holds
abbrev pub looked_held : Rack → Event → Option Message
looked_held r e = held_at r (slot_of e)

-- its client: the one that it names, else its message's
abbrev pub looked_client : Rack → Event → ℕ
looked_client r e = client_of e (looked_held r e)

-- that client, as it now stands
abbrev pub looked_party : Rack → Event → Party
looked_party r e = party_at r (looked_client r e)

-- the place of the pair that its message is about
abbrev pub looked_place : Rack → Event → ℕ
looked_place r e = place_in (looked_held r e)

-- the pair that its message is about
abbrev pub looked_pair : Rack → Event → Pair
looked_pair r e = get_or r.pairs (looked_place r e) fresh_pair

-- all that it looks at
abbrev pub sight : Rack → Event → Sight
sight r e = record { quorums = quorums_of r.settings; power = r.power; party = looked_party r e; pair = looked_pair r e }
