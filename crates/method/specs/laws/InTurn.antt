-- The decisions in the order in which the code takes them, each refusal where its event is planned; and that this gives the least number that applies.
use Rattle.std.specs.Prelude.{ℕ, true, cond, eqb, None, Some, Ok, Option}
use Rattle.record.specs.declared.Client.{Client}
use Rattle.record.specs.declared.Replica.{Replica}
use Rattle.record.specs.declared.Cell.{Cell}
use Rattle.quorum.specs.Sets.{has_replica, with_replica, without_replica, asks_enough}
use Rattle.stamps.specs.declared.Pair.{Pair}
use Rattle.stamps.specs.Stamp.{last_number}
use Rattle.method.specs.declared.Body.{Body}
use Rattle.method.specs.declared.Body.TheVariants.{Ask, Tell, Keep, Kept}
use Rattle.method.specs.declared.Message.{Message}
use Rattle.method.specs.declared.Goal.{Goal}
use Rattle.method.specs.declared.Goal.TheVariants.{Read, Write}
use Rattle.method.specs.declared.Phase.{Phase}
use Rattle.method.specs.declared.Phase.TheVariants.{Asking, Keeping}
use Rattle.method.specs.declared.Operation.{Operation}
use Rattle.method.specs.declared.Sight.{Sight}
use Rattle.method.specs.declared.Event.{Event}
use Rattle.method.specs.declared.Event.TheVariants.{StartRead, StartWrite, Deliver, Lose, Copy, Resend, Stop, Off, On, Unknown}
use Rattle.method.specs.declared.Note.TheVariants.{Nothing}
use Rattle.method.specs.Decision.{Decision, refused}
use Rattle.method.specs.Holding.{holds}
use Rattle.method.specs.Plan.{active_party, planned, used_up, powered, asking, start_of, ask_of, keep_of, current, written, keeps_of}
use Rattle.method.specs.Plan.{kept_of}
use Rattle.method.specs.Plan.{copy_of, resend_of, stop_of}
use Rattle.method.specs.Refusals.{last_op}

-- ---- a start

-- 6: an operation is open; 10: operation number 65,535
unfoldable pub start_in : Option Operation → Sight → Client → Cell → Goal → Decision
start_in None s client cell goal = cond (eqb s.party.op last_op) (refused 10) (Ok (start_of s client cell goal))
start_in (Some o) s client cell goal = refused 6

-- 5: client stopped
unfoldable pub start_turn : Sight → Client → Cell → Goal → Decision
start_turn s client cell goal = cond s.party.stopped (refused 5) (start_in s.party.work s client cell goal)

-- ---- deliver

-- 8: the replica is off
unfoldable pub if_on : Sight → Message → Decision → Decision
if_on s m d = cond (has_replica s.power m.replica.0) d (refused 8)

-- 12: the held number is 4,294,967,295
unfoldable pub phase_ends : Goal → Sight → Message → Operation → Pair → Decision
phase_ends Read s m o held = Ok (keeps_of s m o held)
phase_ends (Write v) s m o held = cond (eqb held.stamp.number last_number) (refused 12) (Ok (keeps_of s m o (written m.client v held)))

-- a tell that counts
unfoldable pub tell_enough : Sight → Message → Operation → ℕ → Pair → Decision
tell_enough s m o set held =
    cond (asks_enough s.quorums set) (phase_ends o.goal s m o held)
    (Ok (planned s (active_party s.party.op (Some (asking o set held))) true Nothing m 0))

-- a tell in a phase
unfoldable pub tell_phase : Phase → Sight → Message → Operation → Pair → Decision
tell_phase (Asking held) s m o q =
    cond (has_replica o.set m.replica.0) (Ok (used_up s m)) (tell_enough s m o (with_replica o.set m.replica.0) (holds held q))
tell_phase (Keeping held) s m o q = Ok (used_up s m)

-- a tell to a client that is at this
unfoldable pub tell_work : Option Operation → Sight → Message → Pair → Decision
tell_work None s m q = Ok (used_up s m)
tell_work (Some o) s m q = tell_phase o.phase s m o q

-- a tell
unfoldable pub tell_turn : Sight → Message → Pair → Decision
tell_turn s m q = cond (current s.party m) (tell_work s.party.work s m q) (Ok (used_up s m))

-- a message, by its body
unfoldable pub deliver_turn : Body → Sight → Message → Decision
deliver_turn Ask s m = if_on s m (Ok (ask_of s m))
deliver_turn (Tell q) s m = tell_turn s m q
deliver_turn (Keep q) s m = if_on s m (Ok (keep_of s m q))
deliver_turn Kept s m = Ok (kept_of s m)

-- ---- resend, stop, power

-- 7: none is open
unfoldable pub resend_in : Option Operation → Sight → Client → Decision
resend_in None s client = refused 7
resend_in (Some o) s client = Ok (resend_of (Some o) s client)

-- 5: client stopped
unfoldable pub resend_turn : Sight → Client → Decision
resend_turn s client = cond s.party.stopped (refused 5) (resend_in s.party.work s client)

-- 5: client stopped
unfoldable pub stop_turn : Sight → Decision
stop_turn s = cond s.party.stopped (refused 5) (Ok (stop_of s))

-- 9: off when off
unfoldable pub off_turn : Sight → Replica → Decision
off_turn s replica = cond (has_replica s.power replica.0) (Ok (powered s (without_replica s.power replica.0))) (refused 9)

-- 9: on when on
unfoldable pub on_turn : Sight → Replica → Decision
on_turn s replica = cond (has_replica s.power replica.0) (refused 9) (Ok (powered s (with_replica s.power replica.0)))

-- ---- every event

-- 4: slot empty
unfoldable pub slot_turn : (Message → Decision) → Option Message → Decision
slot_turn f None = refused 4
slot_turn f (Some m) = f m

-- 3: no event of these kinds
unfoldable pub turn_of : Sight → Option Message → Event → Decision
turn_of s held (StartRead client cell) = start_turn s client cell Read
turn_of s held (StartWrite client cell v) = start_turn s client cell (Write v)
turn_of s held (Deliver slot) = slot_turn (λ m. deliver_turn m.body s m) held
turn_of s held (Lose slot) = slot_turn (λ m. Ok (used_up s m)) held
turn_of s held (Copy slot) = slot_turn (λ m. Ok (copy_of s m)) held
turn_of s held (Resend client) = resend_turn s client
turn_of s held (Stop client) = stop_turn s
turn_of s held (Off replica) = off_turn s replica
turn_of s held (On replica) = on_turn s replica
turn_of s held Unknown = refused 3
