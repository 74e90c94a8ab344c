-- When the rack says no, as far as what an event looks at tells: for each of 3 (as far as it is of no kind), 4 to 10 and 12 when it applies. The paper:
-- "When the rack says no"; the whole table stands in crate rack (`Refusals.antt`).
use Rattle.std.specs.Prelude.{ℕ, Bool, true, false, cond, not, ◌&&◌, eqb, None, Some, Ok, Option}
use Rattle.quorum.specs.Sets.{has_replica, with_replica, asks_enough}
use Rattle.stamps.specs.declared.Pair.{Pair}
use Rattle.stamps.specs.Stamp.{last_number}
use Rattle.method.specs.declared.Body.{Body}
use Rattle.method.specs.declared.Body.TheVariants.{Ask, Tell, Keep, Kept}
use Rattle.method.specs.declared.Message.{Message}
use Rattle.method.specs.declared.Goal.{Goal}
use Rattle.method.specs.declared.Goal.TheVariants.{Read, Write}
use Rattle.method.specs.declared.Phase.{Phase}
use Rattle.method.specs.declared.Phase.TheVariants.{Asking, Keeping}
use Rattle.method.specs.declared.Operation.{Operation}
use Rattle.method.specs.declared.Sight.{Sight}
use Rattle.method.specs.declared.Event.{Event}
use Rattle.method.specs.declared.Event.TheVariants.{StartRead, StartWrite, Deliver, Lose, Copy, Resend, Stop, Off, On, Unknown}
use Rattle.method.specs.Decision.{Decision, refused}
use Rattle.method.specs.Holding.{holds}
use Rattle.method.specs.Plan.{current, plan_of}

-- ---- which events a number is about

-- what is no event
unfoldable pub is_unknown : Event → Bool
is_unknown (StartRead client cell) = false
is_unknown (StartWrite client cell v) = false
is_unknown (Deliver slot) = false
is_unknown (Lose slot) = false
is_unknown (Copy slot) = false
is_unknown (Resend client) = false
is_unknown (Stop client) = false
is_unknown (Off replica) = false
is_unknown (On replica) = false
is_unknown Unknown = true

-- start read, start write
unfoldable pub is_start : Event → Bool
is_start (StartRead client cell) = true
is_start (StartWrite client cell v) = true
is_start (Deliver slot) = false
is_start (Lose slot) = false
is_start (Copy slot) = false
is_start (Resend client) = false
is_start (Stop client) = false
is_start (Off replica) = false
is_start (On replica) = false
is_start Unknown = false

-- deliver, lose, copy
unfoldable pub names_slot : Event → Bool
names_slot (StartRead client cell) = false
names_slot (StartWrite client cell v) = false
names_slot (Deliver slot) = true
names_slot (Lose slot) = true
names_slot (Copy slot) = true
names_slot (Resend client) = false
names_slot (Stop client) = false
names_slot (Off replica) = false
names_slot (On replica) = false
names_slot Unknown = false

-- start, resend, stop
unfoldable pub names_client : Event → Bool
names_client (StartRead client cell) = true
names_client (StartWrite client cell v) = true
names_client (Deliver slot) = false
names_client (Lose slot) = false
names_client (Copy slot) = false
names_client (Resend client) = true
names_client (Stop client) = true
names_client (Off replica) = false
names_client (On replica) = false
names_client Unknown = false

-- resend
unfoldable pub is_resend : Event → Bool
is_resend (StartRead client cell) = false
is_resend (StartWrite client cell v) = false
is_resend (Deliver slot) = false
is_resend (Lose slot) = false
is_resend (Copy slot) = false
is_resend (Resend client) = true
is_resend (Stop client) = false
is_resend (Off replica) = false
is_resend (On replica) = false
is_resend Unknown = false

-- deliver
unfoldable pub is_delivery : Event → Bool
is_delivery (StartRead client cell) = false
is_delivery (StartWrite client cell v) = false
is_delivery (Deliver slot) = true
is_delivery (Lose slot) = false
is_delivery (Copy slot) = false
is_delivery (Resend client) = false
is_delivery (Stop client) = false
is_delivery (Off replica) = false
is_delivery (On replica) = false
is_delivery Unknown = false

-- ---- the tests

-- a slot that holds no message
abbrev pub is_empty : Option Message → Bool
is_empty None = true
is_empty (Some m) = false

-- a client with an open operation
abbrev pub is_open : Option Operation → Bool
is_open None = false
is_open (Some o) = true

-- 4: slot empty (deliver, lose, copy)
unfoldable pub slot_empty : Option Message → Event → Bool
slot_empty held e = names_slot e && is_empty held

-- 5: client stopped (start, resend, stop)
unfoldable pub client_stopped : Sight → Event → Bool
client_stopped s e = names_client e && s.party.stopped

-- 6: start while an operation is open
unfoldable pub already_open : Sight → Event → Bool
already_open s e = is_start e && is_open s.party.work

-- 7: resend with none open
unfoldable pub none_open : Sight → Event → Bool
none_open s e = is_resend e && not (is_open s.party.work)

-- an ask or a keep goes to a replica, a tell or a kept to a client
abbrev pub to_replica : Body → Bool
to_replica Ask = true
to_replica (Tell q) = false
to_replica (Keep q) = true
to_replica Kept = false

-- the slot's message goes to a replica that is off
abbrev pub to_off : Sight → Option Message → Bool
to_off s None = false
to_off s (Some m) = to_replica m.body && not (has_replica s.power m.replica.0)

-- 8: delivery to a replica that is off
unfoldable pub replica_off : Sight → Option Message → Event → Bool
replica_off s held e = is_delivery e && to_off s held

-- 9: off when off, on when on
unfoldable pub switched_so : Sight → Event → Bool
switched_so s (StartRead client cell) = false
switched_so s (StartWrite client cell v) = false
switched_so s (Deliver slot) = false
switched_so s (Lose slot) = false
switched_so s (Copy slot) = false
switched_so s (Resend client) = false
switched_so s (Stop client) = false
switched_so s (Off replica) = not (has_replica s.power replica.0)
switched_so s (On replica) = has_replica s.power replica.0
switched_so s Unknown = false

-- the operation number is at most 65,535
abbrev pub last_op : ℕ
last_op = 65535

-- 10: start at operation number 65,535
unfoldable pub op_spent : Sight → Event → Bool
op_spent s e = is_start e && eqb s.party.op last_op

-- the operation is a write
abbrev pub is_write : Goal → Bool
is_write Read = false
is_write (Write v) = true

-- a tell of q by this replica counts, is enough, and the pair that is then held has the last number
abbrev pub spent_in : Phase → Sight → Message → Operation → Pair → Bool
spent_in (Asking held) s m o q =
    (not (has_replica o.set m.replica.0) && asks_enough s.quorums (with_replica o.set m.replica.0))
    && (is_write o.goal && eqb (holds held q).stamp.number last_number)
spent_in (Keeping held) s m o q = false

-- the same of what the client is at
abbrev pub spent_at : Option Operation → Sight → Message → Pair → Bool
spent_at None s m q = false
spent_at (Some o) s m q = spent_in o.phase s m o q

-- the same of a message's body
abbrev pub spent_by : Body → Sight → Message → Bool
spent_by Ask s m = false
spent_by (Tell q) s m = current s.party m && spent_at s.party.work s m q
spent_by (Keep q) s m = false
spent_by Kept s m = false

-- the same of a slot
abbrev pub spent_slot : Sight → Option Message → Bool
spent_slot s None = false
spent_slot s (Some m) = spent_by m.body s m

-- 12: a write's ask phase would end with held number 4,294,967,295
unfoldable pub number_spent : Sight → Option Message → Event → Bool
number_spent s held e = is_delivery e && spent_slot s held

-- ---- what is decided of an event

-- the least of these numbers that applies; the plan where none does
unfoldable pub decision_of : Sight → Option Message → Event → Decision
decision_of s held e =
    cond (is_unknown e) (refused 3)
    (cond (slot_empty held e) (refused 4)
    (cond (client_stopped s e) (refused 5)
    (cond (already_open s e) (refused 6)
    (cond (none_open s e) (refused 7)
    (cond (replica_off s held e) (refused 8)
    (cond (switched_so s e) (refused 9)
    (cond (op_spent s e) (refused 10)
    (cond (number_spent s held e) (refused 12)
    (Ok (plan_of s held e))))))))))
