-- The rack of any words, as many as a rack takes. Words that are no state (a phase 3, a body 4, an operation number above 65,535, ..) give an unsound rack.
use Rattle.std.specs.Prelude.{ℕ, ◌+◌, ◌-◌, min, List, ◌++◌, Bool, false, cond, ◌&&◌, ◌||◌, not, ltb, eqb, drop, replicate, None, Some, Option}
use Rattle.method.specs.declared.Message.{Message}
use Rattle.number.specs.Value.{signed_of}
use Rattle.rows.specs.Row.{entry_of}
use Rattle.record.specs.Entry.{client_limit, cell_limit}
use Rattle.record.specs.Record.{entry_limit}
use Rattle.stamps.specs.declared.Pair.{Pair}
use Rattle.method.specs.declared.Body.{Body}
use Rattle.method.specs.declared.Body.TheVariants.{Ask, Tell, Keep, Kept}
use Rattle.rack.specs.declared.Slot.{Slot}
use Rattle.method.specs.declared.Goal.{Goal}
use Rattle.method.specs.declared.Goal.TheVariants.{Read, Write}
use Rattle.method.specs.declared.Operation.{Operation}
use Rattle.method.specs.declared.Phase.{Phase}
use Rattle.method.specs.declared.Phase.TheVariants.{Asking, Keeping}
use Rattle.method.specs.declared.Party.{Party}
use Rattle.rack.specs.declared.Line.{Line}
use Rattle.rack.specs.declared.Settings.{Settings}
use Rattle.rack.specs.declared.Rack.{Rack}
use Rattle.stamps.specs.Stamp.{fresh_pair}
use Rattle.rack.specs.Places.{slot_limit, pair_limit, blank}
use Rattle.rack.specs.Sound.{all_below}
use Rattle.layout.specs.Layout.{party_place, pair_place, slot_place, entry_place, byte_limit, stray_number, set_limit, op_limit, power_limit, word, firsts}

-- a number that a byte can't hold is read as one that no rack has
unfoldable pub byte_of : ℕ → ℕ
byte_of w = cond (ltb w byte_limit) w stray_number

-- a set of more bits than a set has is read as every bit, which no rack has
unfoldable pub set_of : ℕ → ℕ
set_of w = cond (ltb w set_limit) w (set_limit - 1)

-- the pair at a place
unfoldable pub pair_in : List ℕ → ℕ → Pair
pair_in ws at = record { stamp = record { number = word ws at; rank = byte_of (word ws (at + 1)) }; value = signed_of (word ws (at + 2)) }

-- ---- clients

-- a read, or a write of a value
unfoldable pub goal_of : ℕ → ℕ → Goal
goal_of goal value = cond (eqb goal 0) Read (Write (signed_of value))

-- in the ask phase nothing is held while the set is empty, and then a pair
unfoldable pub holding_of : ℕ → Pair → Option Pair
holding_of set pair = cond (eqb set 0) None (Some pair)

-- the phase by its number, with what is held in it
unfoldable pub phase_of : ℕ → ℕ → Pair → Phase
phase_of phase set pair = cond (eqb phase 1) (Asking (holding_of set pair)) (Keeping pair)

-- an open operation of a phase, a cell, a goal and a set, and the pair after them
unfoldable pub operation_of : ℕ → ℕ → Goal → ℕ → Pair → Operation
operation_of phase cell goal set pair =
    record { cell = record { 0 = byte_of cell }; goal = goal; phase = phase_of phase (set_of set) pair; set = set_of set }

-- the open operation at the place of its phase
unfoldable pub operation_in : List ℕ → ℕ → Operation
operation_in ws at =
    operation_of (word ws at) (word ws (at + 1)) (goal_of (word ws (at + 2)) (word ws (at + 3))) (word ws (at + 4)) (pair_in ws (at + 5))

-- what a client is at, at the place of its phase
unfoldable pub work_in : List ℕ → ℕ → Option Operation
work_in ws at = cond (eqb (word ws at) 0) None (Some (operation_in ws at))

-- stopped is 0 or 1, the operation number at most 65,535, the phase at most 2, and the goal of an open operation 0 or 1
unfoldable pub party_known : ℕ → ℕ → ℕ → ℕ → Bool
party_known stopped op phase goal = (ltb stopped 2 && ltb op op_limit) && (ltb phase 3 && (eqb phase 0 || ltb goal 2))

-- a client that no rack has: its cell is one that none has
abbrev pub stray_party : Party
stray_party =
    record {
      stopped = false;
      op = 0;
      work = Some (record { cell = record { 0 = stray_number }; goal = Read; phase = Keeping fresh_pair; set = 0 });
    }

-- the client at a place; what is none is read as the stray one
unfoldable pub party_in : List ℕ → ℕ → Party
party_in ws at =
    cond (party_known (word ws at) (word ws (at + 1)) (word ws (at + 2)) (word ws (at + 4)))
    (record { stopped = eqb (word ws at) 1; op = word ws (at + 1); work = work_in ws (at + 2) })
    stray_party

-- ---- slots

-- what a message says, by its number
unfoldable pub body_of : ℕ → Pair → Body
body_of body pair = cond (eqb body 0) Ask (cond (eqb body 1) (Tell pair) (cond (eqb body 2) (Keep pair) Kept))

-- a full slot is marked 1, its body is at most 3 and its operation number at most 65,535
unfoldable pub message_known : ℕ → ℕ → ℕ → Bool
message_known mark body op = eqb mark 1 && (ltb body 4 && ltb op op_limit)

-- a message that no rack has: its client is one that none has
abbrev pub stray_held : Option Message
stray_held = Some (record { client = record { 0 = stray_number }; replica = record { 0 = 0 }; cell = record { 0 = 0 }; op = 0; body = Ask })

-- the message of a full slot at a place
unfoldable pub full_in : List ℕ → ℕ → Option Message
full_in ws at =
    Some (record {
      client = record { 0 = byte_of (word ws (at + 2)) };
      replica = record { 0 = byte_of (word ws (at + 3)) };
      cell = record { 0 = byte_of (word ws (at + 4)) };
      op = word ws (at + 5);
      body = body_of (word ws (at + 1)) (pair_in ws (at + 6));
    })

-- what the slot at a place holds; what is no message is read as the stray one
unfoldable pub held_of : List ℕ → ℕ → Option Message
held_of ws at =
    cond (eqb (word ws at) 0) None (cond (message_known (word ws at) (word ws (at + 1)) (word ws (at + 5))) (full_in ws at) stray_held)

-- the slot at a place
unfoldable pub slot_in : List ℕ → ℕ → Slot
slot_in ws at = record { held = held_of ws at }

-- ---- entries

-- the entry at a place
unfoldable pub line_in : List ℕ → ℕ → Line
line_in ws at = record { entry = entry_of (word ws at) (byte_of (word ws (at + 1))) (byte_of (word ws (at + 2))) (word ws (at + 3)) }

-- the kind is at most 3, and a rack can have the client, and the cell of an entry that has one
unfoldable pub entry_known : ℕ → ℕ → ℕ → Bool
entry_known kind client cell = ltb kind 4 && (ltb client client_limit && (not (ltb kind 2) || ltb cell cell_limit))

-- whether an entry stands at a place
unfoldable pub line_known : List ℕ → ℕ → Bool
line_known ws at = entry_known (word ws at) (word ws (at + 1)) (word ws (at + 2))

-- the first n entries, and beyond them what stands in a fresh rack
unfoldable pub lines_in : ℕ → List ℕ → List Line
lines_in n ws = firsts n (λ i. line_in ws (entry_place i)) ++ drop n (replicate entry_limit blank)

-- how many entries there are to look at
unfoldable pub entry_count : List ℕ → ℕ
entry_count ws = min (word ws 4) entry_limit

-- the count of entries: one more than a record holds where it is no count, or where one of them is no entry
unfoldable pub count_in : List ℕ → ℕ
count_in ws = cond (ltb entry_limit (word ws 4) || not (all_below (entry_count ws) (λ i. line_known ws (entry_place i)))) (entry_limit + 1) (word ws 4)

-- ---- the rack

-- one bit of power for each replica that a rack can have; with more of them there are more replicas than any rack has
unfoldable pub power_of : ℕ → ℕ
power_of w = cond (ltb w power_limit) w 0

-- the settings: three sizes
unfoldable pub settings_in : List ℕ → Settings
settings_in ws =
    record {
      replicas = cond (ltb (word ws 3) power_limit) (byte_of (word ws 0)) stray_number;
      clients = byte_of (word ws 1);
      cells = byte_of (word ws 2);
    }

-- the rack that any words are read as
unfoldable pub rack_of : List ℕ → Rack
rack_of ws =
    record {
      settings = settings_in ws;
      power = power_of (word ws 3);
      count = count_in ws;
      parties = firsts client_limit (λ i. party_in ws (party_place i));
      pairs = firsts pair_limit (λ i. pair_in ws (pair_place i));
      wire = firsts slot_limit (λ i. slot_in ws (slot_place i));
      lines = lines_in (entry_count ws) ws;
    }
