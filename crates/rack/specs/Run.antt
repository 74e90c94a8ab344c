-- One event on a rack, and a schedule with an allowance. The paper: "What each event does", "When the rack says no".
use Rattle.std.specs.Prelude.{ℕ, zero, suc, ◌+◌, Bool, true, false, cond, List, [], ◌∷◌, ltb, eqb, set, replicate, Err, Ok}
use Rattle.number.specs.Value.{signed_of}
use Rattle.record.specs.Entry.{client_limit}
use Rattle.record.specs.Record.{entry_limit}
use Rattle.quorum.specs.Sets.{every_replica, members_of}
use Rattle.method.specs.declared.Message.{Message}
use Rattle.rack.specs.declared.Slot.{Slot}
use Rattle.rack.specs.declared.Line.{Line}
use Rattle.rack.specs.declared.Settings.{Settings}
use Rattle.rack.specs.declared.Rack.{Rack}
use Rattle.method.specs.declared.Event.{Event}
use Rattle.method.specs.declared.Event.TheVariants.{StartRead, StartWrite, Deliver, Lose, Copy, Resend, Stop, Off, On, Unknown}
use Rattle.method.specs.declared.Note.{Note}
use Rattle.method.specs.declared.Note.TheVariants.{Nothing, Asked, Ended}
use Rattle.method.specs.declared.Plan.{Plan}
use Rattle.method.specs.Decision.{Decision}
use Rattle.rack.specs.declared.Made.{Made}
use Rattle.rack.specs.declared.Ran.{Ran}
use Rattle.stamps.specs.Stamp.{fresh_pair}
use Rattle.method.specs.Plan.{message_of}
use Rattle.rack.specs.Places.{of_sizes, slot_limit, pair_limit, empty, blank, idle, sent_of}
use Rattle.rack.specs.Sound.{settings_fit}
use Rattle.rack.specs.Looking.{slot_of, looked_client, looked_place}
use Rattle.rack.specs.Refusals.{decided}

-- ---- the maker

-- replicas on, every pair stamp (0, 0) with value 0, clients idle at operation number 0, wire and record empty
unfoldable pub fresh_rack : Settings → Rack
fresh_rack z = record {
  settings = z;
  power = every_replica z.replicas;
  count = 0;
  parties = replicate client_limit idle;
  pairs = replicate pair_limit fresh_pair;
  wire = replicate slot_limit empty;
  lines = replicate entry_limit blank;
}

-- 1: a size out of range, and beside it the fresh rack of sizes 1, 1, 1
unfoldable pub made_of : Settings → Made
made_of z = cond (settings_fit z) (record { refusal = 0; rack = fresh_rack z }) (record { refusal = 1; rack = fresh_rack (of_sizes 1 1 1) })

-- ---- an event in four words: its kind, two fields, the value as in the record

-- a client's, a replica's or a cell's number is a byte; what isn't is no number of any rack
unfoldable pub byte : ℕ → Event → Event
byte a e = cond (ltb a 256) e Unknown

-- 0 start read, 1 start write, 2 deliver, 3 lose, 4 copy, 5 resend, 6 stop, 7 off, 8 on; any other kind is no event
unfoldable pub event_of : ℕ → ℕ → ℕ → ℕ → Event
event_of kind a b value =
    cond (eqb kind 0) (byte a (byte b (StartRead (record { 0 = a }) (record { 0 = b }))))
    (cond (eqb kind 1) (byte a (byte b (StartWrite (record { 0 = a }) (record { 0 = b }) (signed_of value))))
    (cond (eqb kind 2) (Deliver a)
    (cond (eqb kind 3) (Lose a)
    (cond (eqb kind 4) (Copy a)
    (cond (eqb kind 5) (byte a (Resend (record { 0 = a })))
    (cond (eqb kind 6) (byte a (Stop (record { 0 = a })))
    (cond (eqb kind 7) (byte a (Off (record { 0 = a })))
    (cond (eqb kind 8) (byte a (On (record { 0 = a })))
    Unknown))))))))

-- ---- the rack after a plan

-- a message to each replica of a list
unfoldable pub addressed : Message → List ℕ → List Message
addressed m [] = []
addressed m (k ∷ ks) = message_of m.client (record { 0 = k }) m.cell m.op m.body ∷ addressed m ks

-- the wire after the slot became empty, if it does
unfoldable pub cleared : Bool → ℕ → List Slot → List Slot
cleared true slot wire = set wire slot empty
cleared false slot wire = wire

-- the lines after an entry, if there is one, was put at the record's end
unfoldable pub recorded : Note → ℕ → List Line → List Line
recorded Nothing count lines = lines
recorded (Asked e) count lines = set lines count (record { entry = e })
recorded (Ended e) count lines = set lines count (record { entry = e })

-- how many entries the record gets: one where an operation starts or ends
unfoldable pub entries_in : Note → ℕ
entries_in Nothing = 0
entries_in (Asked e) = 1
entries_in (Ended e) = 1

-- client, pair and power as planned; the slot emptied, then messages to the replicas of the set, in replica order; the entry at the record's end
unfoldable pub applied_of : Rack → Event → Plan → Rack
applied_of r e p =
    record {
      settings = r.settings;
      power = p.power;
      count = r.count + entries_in p.note;
      parties = set r.parties (looked_client r e) p.party;
      pairs = set r.pairs (looked_place r e) p.pair;
      wire = sent_of (cleared p.clear (slot_of e) r.wire) (addressed p.message (members_of r.settings.replicas p.to));
      lines = recorded p.note r.count r.lines;
    }

-- ---- a schedule

-- what a run gives: the number done, the refusal that stopped it or 0 for none, and the rack
abbrev pub ran_of : ℕ → ℕ → Rack → Ran
ran_of done refusal r = record { done = done; refusal = refusal; rack = r }

-- a refusal stops the schedule; else it goes on with the rack after the event
unfoldable pub turn : ℕ → Rack → Event → Decision → (Rack → Ran) → Ran
turn done r e (Err k) next = ran_of done k r
turn done r e (Ok p) next = next (applied_of r e p)

-- events are taken in order until the allowance is used, the list ends, or one is refused; words after the last whole event are no event
unfoldable pub run_from : ℕ → Rack → ℕ → List ℕ → Ran
run_from done r zero ws = ran_of done 0 r
run_from done r (suc left) [] = ran_of done 0 r
run_from done r (suc left) (k ∷ []) = ran_of done 0 r
run_from done r (suc left) (k ∷ a ∷ []) = ran_of done 0 r
run_from done r (suc left) (k ∷ a ∷ b ∷ []) = ran_of done 0 r
run_from done r (suc left) (k ∷ a ∷ b ∷ v ∷ ws) =
    turn done r (event_of k a b v) (decided r (event_of k a b v)) (λ q. run_from (done + 1) q left ws)

-- a run begins with no event done: none is tried at allowance 0 or on an empty list
unfoldable pub run_of : Rack → ℕ → List ℕ → Ran
run_of r allowance ws = run_from 0 r allowance ws
