-- What each event does, from the few things that it looks at: the quorums, the power, the client, the pair and the slot. The paper: "What each event
-- does". A plan has no refusal in it: it is what is done of an event that isn't refused (`Refusals.antt` here and in crate rack).
use Rattle.std.specs.Prelude.{ℕ, ◌+◌, Bool, true, false, cond, not, ◌&&◌, eqb, ℤ, None, Some, Option}
use Rattle.record.specs.declared.Client.{Client}
use Rattle.record.specs.declared.Replica.{Replica}
use Rattle.record.specs.declared.Cell.{Cell}
use Rattle.quorum.specs.Sets.{has_replica, with_replica, asks_enough, keeps_enough, without_replica, every_replica, others}
use Rattle.stamps.specs.declared.Pair.{Pair}
use Rattle.stamps.specs.Stamp.{raised}
use Rattle.method.specs.Holding.{holds, first_entry, last_entry}
use Rattle.method.specs.declared.Body.{Body}
use Rattle.method.specs.declared.Body.TheVariants.{Ask, Tell, Keep, Kept}
use Rattle.method.specs.declared.Message.{Message}
use Rattle.method.specs.declared.Goal.{Goal}
use Rattle.method.specs.declared.Goal.TheVariants.{Read, Write}
use Rattle.method.specs.declared.Phase.{Phase}
use Rattle.method.specs.declared.Phase.TheVariants.{Asking, Keeping}
use Rattle.method.specs.declared.Operation.{Operation}
use Rattle.method.specs.declared.Party.{Party}
use Rattle.method.specs.declared.Sight.{Sight}
use Rattle.method.specs.declared.Event.{Event}
use Rattle.method.specs.declared.Event.TheVariants.{StartRead, StartWrite, Deliver, Lose, Copy, Resend, Stop, Off, On, Unknown}
use Rattle.method.specs.declared.Note.{Note}
use Rattle.method.specs.declared.Note.TheVariants.{Nothing, Asked, Ended}
use Rattle.method.specs.declared.Plan.{Plan}

-- ---- plans

-- a message between a client and a replica, about a cell, for an operation number
abbrev pub message_of : Client → Replica → Cell → ℕ → Body → Message
message_of client replica cell op body = record { client = client; replica = replica; cell = cell; op = op; body = body }

-- a client's message to replicas: each of them is put in for replica 0
abbrev pub to_replicas : Client → Cell → ℕ → Body → Message
to_replicas client cell op body = message_of client (record { 0 = 0 }) cell op body

-- a message that is no message: what a plan that sends nothing names
abbrev pub no_message : Message
no_message = to_replicas (record { 0 = 0 }) (record { 0 = 0 }) 0 Ask

-- a client that isn't stopped, at its operation op and this work
abbrev pub active_party : ℕ → Option Operation → Party
active_party op work = record { stopped = false; op = op; work = work }

-- all stays as it was, but for a client, whether the slot becomes empty, an entry, and what is sent
abbrev pub planned : Sight → Party → Bool → Note → Message → ℕ → Plan
planned s party clear note message to =
    record { party = party; pair = s.pair; power = s.power; clear = clear; note = note; message = message; to = to }

-- all stays as it was, and nothing is sent
abbrev pub unchanged : Sight → Plan
unchanged s = planned s s.party false Nothing no_message 0

-- the message is used up and nothing else happens
abbrev pub used_up : Sight → Message → Plan
used_up s m = planned s s.party true Nothing m 0

-- the replica's pair after the event, and its answer
abbrev pub answered : Sight → Pair → Message → Body → Plan
answered s pair m body =
    record {
      party = s.party;
      pair = pair;
      power = s.power;
      clear = true;
      note = Nothing;
      message = message_of m.client m.replica m.cell m.op body;
      to = with_replica 0 m.replica.0;
    }

-- a replica is switched: its pairs stay
abbrev pub powered : Sight → ℕ → Plan
powered s power =
    record { party = s.party; pair = s.pair; power = power; clear = false; note = Nothing; message = no_message; to = 0 }

-- ---- open operations

-- one that has just started has an empty set and holds nothing
abbrev pub asked : Cell → Goal → Operation
asked cell goal = record { cell = cell; goal = goal; phase = Asking None; set = 0 }

-- in the ask phase, with this set and this pair held
abbrev pub asking : Operation → ℕ → Pair → Operation
asking o set held = record { cell = o.cell; goal = o.goal; phase = Asking (Some held); set = set }

-- in the keep phase, with this set and this pair held
abbrev pub keeping : Operation → ℕ → Pair → Operation
keeping o set held = record { cell = o.cell; goal = o.goal; phase = Keeping held; set = set }

-- ---- start read, start write

-- the operation number rises by one, the record gets an entry, an ask goes to every replica
unfoldable pub start_of : Sight → Client → Cell → Goal → Plan
start_of s client cell goal =
    planned s (active_party (s.party.op + 1) (Some (asked cell goal))) false (Asked (first_entry goal client cell))
    (to_replicas client cell (s.party.op + 1) Ask) (every_replica s.quorums.replicas)

-- ---- deliver: an ask or a keep, to a replica

-- the replica answers tell with its pair for that cell
unfoldable pub ask_of : Sight → Message → Plan
ask_of s m = answered s s.pair m (Tell s.pair)

-- the replica takes stamp and value if the stamp is greater than its own; it answers kept either way
unfoldable pub keep_of : Sight → Message → Pair → Plan
keep_of s m q = answered s (raised s.pair q) m Kept

-- ---- deliver: a tell or a kept, to a client

-- the client isn't stopped, and the operation number is that of its present operation
unfoldable pub current : Party → Message → Bool
current party m = not party.stopped && eqb party.op m.op

-- the pair of a write: (held number + 1, own rank) and the new value
abbrev pub written : Client → ℤ → Pair → Pair
written client v held = record { stamp = record { number = held.stamp.number + 1; rank = client.0 }; value = v }

-- the pair that is kept: for a read the held one, for a write the written one
unfoldable pub chosen : Goal → Client → Pair → Pair
chosen Read client held = held
chosen (Write v) client held = written client v held

-- the ask phase ends: the set is emptied and keep goes to every replica, with the pair that is then held
unfoldable pub keeps_of : Sight → Message → Operation → Pair → Plan
keeps_of s m o held =
    planned s (active_party s.party.op (Some (keeping o 0 held))) true Nothing
    (to_replicas m.client o.cell s.party.op (Keep held)) (every_replica s.quorums.replicas)

-- a tell that counts: at a majority the phase ends in that same delivery
unfoldable pub tell_counts : Sight → Message → Operation → ℕ → Pair → Plan
tell_counts s m o set held =
    cond (asks_enough s.quorums set) (keeps_of s m o (chosen o.goal m.client held))
    (planned s (active_party s.party.op (Some (asking o set held))) true Nothing m 0)

-- a tell counts only in the ask phase, and if this replica isn't yet in the set
unfoldable pub tell_in : Phase → Sight → Message → Operation → Pair → Plan
tell_in (Asking held) s m o q =
    cond (has_replica o.set m.replica.0) (used_up s m) (tell_counts s m o (with_replica o.set m.replica.0) (holds held q))
tell_in (Keeping held) s m o q = used_up s m

-- a tell counts only for an open operation
unfoldable pub tell_at : Option Operation → Sight → Message → Pair → Plan
tell_at None s m q = used_up s m
tell_at (Some o) s m q = tell_in o.phase s m o q

-- a tell counts only if the client isn't stopped and the operation number is that of its open operation; else it is used up
unfoldable pub tell_of : Sight → Message → Pair → Plan
tell_of s m q = cond (current s.party m) (tell_at s.party.work s m q) (used_up s m)

-- a kept that counts: at a majority the operation ends, the record gets its entry, the client is idle
unfoldable pub kept_counts : Sight → Message → Operation → ℕ → Pair → Plan
kept_counts s m o set held =
    cond (keeps_enough s.quorums set)
    (planned s (active_party s.party.op None) true (Ended (last_entry o.goal m.client held)) m 0)
    (planned s (active_party s.party.op (Some (keeping o set held))) true Nothing m 0)

-- a kept counts only in the keep phase, and if this replica isn't yet in the set
unfoldable pub kept_in : Phase → Sight → Message → Operation → Plan
kept_in (Asking held) s m o = used_up s m
kept_in (Keeping held) s m o =
    cond (has_replica o.set m.replica.0) (used_up s m) (kept_counts s m o (with_replica o.set m.replica.0) held)

-- a kept counts only for an open operation
unfoldable pub kept_at : Option Operation → Sight → Message → Plan
kept_at None s m = used_up s m
kept_at (Some o) s m = kept_in o.phase s m o

-- a kept counts only if the client isn't stopped and the operation number is that of its open operation; else it is used up
unfoldable pub kept_of : Sight → Message → Plan
kept_of s m = cond (current s.party m) (kept_at s.party.work s m) (used_up s m)

-- the message is acted on: an ask or a keep by the replica, a tell or a kept by the client
unfoldable pub deliver_in : Body → Sight → Message → Plan
deliver_in Ask s m = ask_of s m
deliver_in (Tell q) s m = tell_of s m q
deliver_in (Keep q) s m = keep_of s m q
deliver_in Kept s m = kept_of s m

-- deliver a slot: the message is taken out, then acted on
unfoldable pub deliver_of : Sight → Message → Plan
deliver_of s m = deliver_in m.body s m

-- ---- copy, resend, stop

-- the same message also in the lowest free slot
unfoldable pub copy_of : Sight → Message → Plan
copy_of s m = planned s s.party false Nothing m (with_replica 0 m.replica.0)

-- the present request: an ask, or a keep with the pair that is held
abbrev pub request : Phase → Body
request (Asking held) = Ask
request (Keeping held) = Keep held

-- the present request goes again to each replica not in the set; where none is open, that is refused
unfoldable pub resend_of : Option Operation → Sight → Client → Plan
resend_of None s client = unchanged s
resend_of (Some o) s client =
    planned s s.party false Nothing (to_replicas client o.cell s.party.op (request o.phase)) (others s.quorums.replicas o.set)

-- it never acts again; its operation stays open
unfoldable pub stop_of : Sight → Plan
stop_of s = planned s (record { stopped = true; op = s.party.op; work = s.party.work }) false Nothing no_message 0

-- ---- every event

-- what is done with the slot's message; where it is empty, that is refused
unfoldable pub of_slot : Sight → (Message → Plan) → Option Message → Plan
of_slot s f None = unchanged s
of_slot s f (Some m) = f m

-- an event, with what its slot holds; what is no event is refused
unfoldable pub plan_of : Sight → Option Message → Event → Plan
plan_of s held (StartRead client cell) = start_of s client cell Read
plan_of s held (StartWrite client cell v) = start_of s client cell (Write v)
plan_of s held (Deliver slot) = of_slot s (deliver_of s) held
plan_of s held (Lose slot) = of_slot s (used_up s) held
plan_of s held (Copy slot) = of_slot s (copy_of s) held
plan_of s held (Resend client) = resend_of s.party.work s client
plan_of s held (Stop client) = stop_of s
plan_of s held (Off replica) = powered s (without_replica s.power replica.0)
plan_of s held (On replica) = powered s (with_replica s.power replica.0)
plan_of s held Unknown = unchanged s
