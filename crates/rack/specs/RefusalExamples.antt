-- The table of refusals by examples: for each number states and events that get it, and beside them what differs in that alone and doesn't.
use Rattle.std.specs.Prelude.{ℕ, ◌-◌, ◌≡◌, Bool, true, false, List, [], ◌∷◌, ◌++◌, map, set, replicate, pos, Some, None}
use Rattle.record.specs.declared.Client.{Client}
use Rattle.record.specs.declared.Replica.{Replica}
use Rattle.record.specs.declared.Cell.{Cell}
use Rattle.record.specs.Record.{entry_limit}
use Rattle.stamps.specs.declared.Pair.{Pair}
use Rattle.stamps.specs.Stamp.{last_number, fresh_pair}
use Rattle.stamps.specs.Examples.{pair_of}
use Rattle.method.specs.declared.Body.{Body}
use Rattle.method.specs.declared.Body.TheVariants.{Ask, Tell, Keep, Kept}
use Rattle.method.specs.declared.Goal.{Goal}
use Rattle.method.specs.declared.Goal.TheVariants.{Read, Write}
use Rattle.method.specs.declared.Phase.TheVariants.{Asking}
use Rattle.method.specs.declared.Party.{Party}
use Rattle.method.specs.declared.Event.{Event}
use Rattle.method.specs.declared.Event.TheVariants.{StartRead, StartWrite, Deliver, Lose, Copy, Resend, Stop, Off, On, Unknown}
use Rattle.method.specs.Plan.{message_of, asked, active_party}
use Rattle.method.specs.Refusals.{last_op}
use Rattle.rack.specs.declared.Slot.{Slot}
use Rattle.rack.specs.declared.Rack.{Rack}
use Rattle.rack.specs.Places.{of_sizes, slot_limit, empty, full, idle}
use Rattle.rack.specs.Refusals.{refusal_of}
use Rattle.rack.specs.Run.{fresh_rack}

-- ---- events

-- client i
abbrev client : ℕ → Client
client i = record { 0 = i }

-- replica k
abbrev replica : ℕ → Replica
replica k = record { 0 = k }

-- cell x
abbrev cell : ℕ → Cell
cell x = record { 0 = x }

-- both starts, by client i at cell x
abbrev starts : ℕ → ℕ → List Event
starts i x = StartRead (client i) (cell x) ∷ StartWrite (client i) (cell x) (pos 5) ∷ []

-- the three events of slot i
abbrev slotted : ℕ → List Event
slotted i = Deliver i ∷ Lose i ∷ Copy i ∷ []

-- replica k is switched off, and on
abbrev switches : ℕ → List Event
switches k = Off (replica k) ∷ On (replica k) ∷ []

-- what a state says to each of these events, one by one
abbrev answers : Rack → List Event → List ℕ
answers r es = map (refusal_of r) es

-- ---- states

-- a fresh rack of three replicas, two clients and one cell
abbrev fresh : Rack
fresh = fresh_rack (of_sizes 3 2 1)

-- that rack, but for the power, the number of entries, client 0, replica 0's pair and the wire
abbrev rack_of : ℕ → ℕ → Party → Pair → List Slot → Rack
rack_of power count party pair wire =
    record {
      settings = fresh.settings;
      power = power;
      count = count;
      parties = set fresh.parties 0 party;
      pairs = set fresh.pairs 0 pair;
      wire = wire;
      lines = fresh.lines;
    }

-- a slot with a message between client 0 and replica k
abbrev between : ℕ → Body → Slot
between k body = full (message_of (client 0) (replica k) (cell 0) 1 body)

-- slots 0 to 3 hold one of each, between client 0 and replica 0
abbrev one_of_each : List Slot
one_of_each = set (set (set (set fresh.wire 0 (between 0 Ask)) 1 (between 0 (Keep fresh_pair))) 2 (between 0 (Tell fresh_pair))) 3 (between 0 Kept)

-- every slot but the last n holds an ask
abbrev all_but : ℕ → List Slot
all_but n = replicate (slot_limit - n) (between 0 Ask) ++ replicate n empty

-- replica 0's pair has this rank
abbrev ranked : ℕ → Rack
ranked rank = rack_of 0b111 0 idle (pair_of 1 rank 5) fresh.wire

-- client 0 is so
abbrev with_client : Party → Rack
with_client party = rack_of 0b111 1 party fresh_pair fresh.wire

-- it has asked to read, and is stopped or not
abbrev reading : Bool → Party
reading stopped = record { stopped = stopped; op = 1; work = Some (asked (cell 0) Read) }

-- these replicas are on
abbrev with_power : ℕ → Rack
with_power power = rack_of power 0 idle fresh_pair one_of_each

-- so many entries, and client 0 is so
abbrev entered : ℕ → Party → Rack
entered count party = rack_of 0b111 count party fresh_pair fresh.wire

-- client 0 has been told a pair with this number by replica 0, and slot 0 of a wire holds what replica 1 tells it
abbrev ending : List Slot → Goal → ℕ → ℕ → Rack
ending wire goal held told =
    rack_of 0b111 1
    (active_party 1 (Some (record { cell = cell 0; goal = goal; phase = Asking (Some (pair_of held 0 5)); set = 0b001 }))) fresh_pair
    (set wire 0 (between 1 (Tell (pair_of told 0 5))))

-- the wire has n free slots, and client 0 reads
abbrev crowded : ℕ → Rack
crowded free = rack_of 0b111 1 (reading false) fresh_pair (all_but free)

-- ---- the table

-- each number with the events that the paper names for it
pub record TableShown : Type 0 where
  -- 2, unsound: of two clients there is no rank 2
  pub gets_2 : refusal_of (ranked 2) (Stop (client 0)) ≡ 2
  pub not_2 : refusal_of (ranked 1) (Stop (client 0)) ≡ 0
  -- 3, not in this rack: a client, a cell, a slot, a replica, a kind; the last slot is there, and empty
  pub gets_3_client : answers fresh (starts 2 0 ++ (Resend (client 2) ∷ Stop (client 2) ∷ [])) ≡ 3 ∷ 3 ∷ 3 ∷ 3 ∷ []
  pub not_3_client : answers fresh (starts 1 0 ++ (Resend (client 1) ∷ Stop (client 1) ∷ [])) ≡ 0 ∷ 0 ∷ 7 ∷ 0 ∷ []
  pub gets_3_cell : answers fresh (starts 0 1) ≡ 3 ∷ 3 ∷ []
  pub not_3_cell : answers fresh (starts 0 0) ≡ 0 ∷ 0 ∷ []
  pub gets_3_slot : answers fresh (slotted slot_limit) ≡ 3 ∷ 3 ∷ 3 ∷ []
  pub not_3_slot : answers fresh (slotted (slot_limit - 1)) ≡ 4 ∷ 4 ∷ 4 ∷ []
  pub gets_3_replica : answers fresh (switches 3) ≡ 3 ∷ 3 ∷ []
  pub not_3_replica : answers fresh (switches 2) ≡ 0 ∷ 9 ∷ []
  pub gets_3_kind : refusal_of fresh Unknown ≡ 3
  -- 4, slot empty
  pub gets_4 : answers (with_power 0b111) (slotted 4) ≡ 4 ∷ 4 ∷ 4 ∷ []
  pub not_4 : answers (with_power 0b111) (slotted 3) ≡ 0 ∷ 0 ∷ 0 ∷ []
  -- 5, client stopped; one that isn't may not start either, as its operation is open
  pub gets_5 : answers (with_client (reading true)) (starts 0 0 ++ (Resend (client 0) ∷ Stop (client 0) ∷ [])) ≡ 5 ∷ 5 ∷ 5 ∷ 5 ∷ []
  pub not_5 : answers (with_client (reading false)) (starts 0 0 ++ (Resend (client 0) ∷ Stop (client 0) ∷ [])) ≡ 6 ∷ 6 ∷ 0 ∷ 0 ∷ []
  -- 6, start while an operation is open
  pub gets_6 : answers (with_client (reading false)) (starts 0 0) ≡ 6 ∷ 6 ∷ []
  pub not_6 : answers (with_client (active_party 1 None)) (starts 0 0) ≡ 0 ∷ 0 ∷ []
  -- 7, resend with none open
  pub gets_7 : refusal_of (with_client (active_party 1 None)) (Resend (client 0)) ≡ 7
  pub not_7 : refusal_of (with_client (reading false)) (Resend (client 0)) ≡ 0
  -- 8, delivery to a replica that is off: an ask and a keep go there, a tell and a kept don't
  pub gets_8 : answers (with_power 0b110) (Deliver 0 ∷ Deliver 1 ∷ Deliver 2 ∷ Deliver 3 ∷ []) ≡ 8 ∷ 8 ∷ 0 ∷ 0 ∷ []
  pub not_8 : answers (with_power 0b111) (Deliver 0 ∷ Deliver 1 ∷ Deliver 2 ∷ Deliver 3 ∷ []) ≡ 0 ∷ 0 ∷ 0 ∷ 0 ∷ []
  -- 9, off when off, on when on
  pub gets_9 : answers (with_power 0b110) (switches 0) ≡ 9 ∷ 0 ∷ []
  pub not_9 : answers (with_power 0b111) (switches 0) ≡ 0 ∷ 9 ∷ []
  -- 10, start at operation number 65,535
  pub gets_10 : answers (with_client (active_party last_op None)) (starts 0 0) ≡ 10 ∷ 10 ∷ []
  pub not_10 : answers (with_client (active_party (last_op - 1) None)) (starts 0 0) ≡ 0 ∷ 0 ∷ []
  -- 11, start, and entries + answers owed + 2 exceeds 2,048; a client that is stopped owes none
  pub gets_11 : answers (entered (entry_limit - 1) idle) (starts 1 0) ≡ 11 ∷ 11 ∷ []
  pub not_11 : answers (entered (entry_limit - 2) idle) (starts 1 0) ≡ 0 ∷ 0 ∷ []
  pub gets_11_owed : answers (entered (entry_limit - 2) (reading false)) (starts 1 0) ≡ 11 ∷ 11 ∷ []
  pub not_11_owed : answers (entered (entry_limit - 2) (reading true)) (starts 1 0) ≡ 0 ∷ 0 ∷ []
  -- 12, a write's ask phase would end with the last number: held so far, or told just now
  pub gets_12_held : refusal_of (ending fresh.wire (Write (pos 5)) last_number 0) (Deliver 0) ≡ 12
  pub gets_12_told : refusal_of (ending fresh.wire (Write (pos 5)) 0 last_number) (Deliver 0) ≡ 12
  pub not_12_held : refusal_of (ending fresh.wire (Write (pos 5)) (last_number - 1) 0) (Deliver 0) ≡ 0
  pub not_12_told : refusal_of (ending fresh.wire (Write (pos 5)) 0 (last_number - 1)) (Deliver 0) ≡ 0
  pub not_12_read : refusal_of (ending fresh.wire Read last_number 0) (Deliver 0) ≡ 0
  -- 13, more to send than free slots: a start, a resend and a keep to three replicas, a copy; a delivered slot counts as free
  pub gets_13 : answers (crowded 2) (starts 1 0 ++ (Resend (client 0) ∷ [])) ≡ 13 ∷ 13 ∷ 13 ∷ []
  pub not_13 : answers (crowded 3) (starts 1 0 ++ (Resend (client 0) ∷ [])) ≡ 0 ∷ 0 ∷ 0 ∷ []
  pub gets_13_copy : answers (crowded 0) (slotted 0) ≡ 0 ∷ 0 ∷ 13 ∷ []
  pub not_13_copy : answers (crowded 1) (slotted 0) ≡ 0 ∷ 0 ∷ 0 ∷ []
  pub gets_13_deliver : refusal_of (ending (all_but 1) Read 1 1) (Deliver 0) ≡ 13
  pub not_13_deliver : refusal_of (ending (all_but 2) Read 1 1) (Deliver 0) ≡ 0
