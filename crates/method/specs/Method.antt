-- The method: what an event that is done leaves of its client, its pair, the power, its slot and the record, and what it sends to whom; kind by kind, with
-- what then was so before. All that holds of plans follows from this. The paper: "What each event does".
use Rattle.std.specs.Prelude.{ℕ, ◌+◌, ◌≡◌, ◌≢◌, Bool, true, false, not, ◌&&◌, ℤ, None, Some, Option}
use Rattle.record.specs.declared.Client.{Client}
use Rattle.record.specs.declared.Replica.{Replica}
use Rattle.record.specs.declared.Cell.{Cell}
use Rattle.quorum.specs.Sets.{has_replica, with_replica, without_replica, asks_enough, keeps_enough, every_replica, others}
use Rattle.stamps.specs.declared.Stamp.{Stamp}
use Rattle.stamps.specs.declared.Pair.{Pair}
use Rattle.stamps.specs.Stamp.{last_number, raised}
use Rattle.method.specs.Holding.{holds, first_entry, last_entry}
use Rattle.method.specs.declared.Body.{Body}
use Rattle.method.specs.declared.Body.TheVariants.{Ask, Tell, Keep, Kept}
use Rattle.method.specs.declared.Message.{Message}
use Rattle.method.specs.declared.Goal.{Goal}
use Rattle.method.specs.declared.Goal.TheVariants.{Read, Write}
use Rattle.method.specs.declared.Phase.{Phase}
use Rattle.method.specs.declared.Phase.TheVariants.{Asking, Keeping}
use Rattle.method.specs.declared.Operation.{Operation}
use Rattle.method.specs.declared.Sight.{Sight}
use Rattle.method.specs.declared.Event.{Event}
use Rattle.method.specs.declared.Event.TheVariants.{StartRead, StartWrite, Deliver, Lose, Copy, Resend, Stop, Off, On, Unknown}
use Rattle.method.specs.declared.Note.TheVariants.{Nothing, Asked, Ended}
use Rattle.method.specs.declared.Plan.{Plan}
use Rattle.method.specs.Plan.{current, to_replicas, no_message, active_party, planned, used_up, answered, powered, asked, asking, keeping, request}
use Rattle.method.specs.Refusals.{last_op, to_replica, is_write}

-- ---- pairs

-- the stamp t of a write of client c that holds the stamp s: (held number + 1, own rank)
pub record Follows (c : ℕ) (s t : Stamp) : Type 0 where
  pub number : t.number ≡ s.number + 1
  pub rank : t.rank ≡ c

-- the pair of a write: that stamp and the new value
pub record Written (client : ℕ) (v : ℤ) (held chosen : Pair) : Type 0 where
  pub stamp : Follows client held.stamp chosen.stamp
  pub value : chosen.value ≡ v

-- the pair that is kept: for a read the held one
abbrev pub Chosen : Goal → ℕ → Pair → Pair → Type 0
Chosen Read client held chosen = chosen ≡ held
Chosen (Write v) client held chosen = Written client v held chosen

-- ---- start read, start write

-- a client that is idle asks: its operation number rises by one, the record gets an entry, an ask goes to every replica
pub record Starts (s : Sight) (client : Client) (cell : Cell) (goal : Goal) (p : Plan) : Type 0 where
  pub acts : s.party.stopped ≡ false
  pub before : s.party.work ≡ None
  pub next : s.party.op ≢ last_op
  pub plan : p
      ≡ planned s (active_party (s.party.op + 1) (Some (asked cell goal))) false (Asked (first_entry goal client cell))
      (to_replicas client cell (s.party.op + 1) Ask) (every_replica s.quorums.replicas)

-- ---- deliver: to a replica that is on

-- a replica answers an ask: it tells its pair
pub record Tells (s : Sight) (m : Message) (p : Plan) : Type 0 where
  pub body : m.body ≡ Ask
  pub on : has_replica s.power m.replica.0 ≡ true
  pub plan : p ≡ answered s s.pair m (Tell s.pair)

-- a replica is given a keep: its pair is raised, and it answers kept either way
pub record Takes (s : Sight) (m : Message) (p : Plan) : Type 0 where
  pub given : Pair
  pub body : m.body ≡ Keep given
  pub on : has_replica s.power m.replica.0 ≡ true
  pub plan : p ≡ answered s (raised s.pair given) m Kept

-- ---- deliver: to a client

-- a tell that counts: the client isn't stopped, it is for the present operation, in the ask phase, of a replica not yet in the set
pub record Heard (s : Sight) (m : Message) : Type 0 where
  pub told : Pair
  pub body : m.body ≡ Tell told
  pub acts : s.party.stopped ≡ false
  pub op : s.party.op ≡ m.op
  pub operation : Operation
  pub before : s.party.work ≡ Some operation
  pub held : Option Pair
  pub phase : operation.phase ≡ Asking held
  pub new : has_replica operation.set m.replica.0 ≡ false

-- the set with the replica that told
abbrev pub heard_set : {s : Sight} {m : Message} → Heard s m → ℕ
heard_set {s} {m} h = with_replica h.operation.set m.replica.0

-- the pair that is then held
abbrev pub heard_pair : {s : Sight} {m : Message} → Heard s m → Pair
heard_pair h = holds h.held h.told

-- the ask phase goes on
pub record Hears (s : Sight) (m : Message) (p : Plan) : Type 0 where
  pub heard : Heard s m
  pub few : asks_enough s.quorums (heard_set heard) ≡ false
  pub plan : p ≡ planned s (active_party s.party.op (Some (asking heard.operation (heard_set heard) (heard_pair heard)))) true Nothing m 0

-- the ask phase ends with enough: the set is emptied, and a keep of the pair that is then held goes to every replica
pub record Chooses (s : Sight) (m : Message) (p : Plan) : Type 0 where
  pub heard : Heard s m
  pub enough : asks_enough s.quorums (heard_set heard) ≡ true
  pub chosen : Pair
  pub choice : Chosen heard.operation.goal m.client.0 (heard_pair heard) chosen
  pub next : is_write heard.operation.goal ≡ true → (heard_pair heard).stamp.number ≢ last_number
  pub plan : p
      ≡ planned s (active_party s.party.op (Some (keeping heard.operation 0 chosen))) true Nothing
      (to_replicas m.client heard.operation.cell s.party.op (Keep chosen)) (every_replica s.quorums.replicas)

-- a kept that counts: the client isn't stopped, it is for the present operation, in the keep phase, of a replica not yet in the set
pub record Counted (s : Sight) (m : Message) : Type 0 where
  pub body : m.body ≡ Kept
  pub acts : s.party.stopped ≡ false
  pub op : s.party.op ≡ m.op
  pub operation : Operation
  pub before : s.party.work ≡ Some operation
  pub held : Pair
  pub phase : operation.phase ≡ Keeping held
  pub new : has_replica operation.set m.replica.0 ≡ false

-- the set with the replica that kept
abbrev pub counted_set : {s : Sight} {m : Message} → Counted s m → ℕ
counted_set {s} {m} h = with_replica h.operation.set m.replica.0

-- the keep phase goes on
pub record Counts (s : Sight) (m : Message) (p : Plan) : Type 0 where
  pub counted : Counted s m
  pub few : keeps_enough s.quorums (counted_set counted) ≡ false
  pub plan : p ≡ planned s (active_party s.party.op (Some (keeping counted.operation (counted_set counted) counted.held))) true Nothing m 0

-- the operation ends, a read as well as a write, with enough that kept: the record gets its entry, the client is idle
pub record Ends (s : Sight) (m : Message) (p : Plan) : Type 0 where
  pub counted : Counted s m
  pub enough : keeps_enough s.quorums (counted_set counted) ≡ true
  pub plan : p
      ≡ planned s (active_party s.party.op None) true (Ended (last_entry counted.operation.goal m.client counted.held)) m 0

-- the phase fits an answer: a tell in the ask phase, a kept in the keep phase
abbrev pub fits_phase : Body → Phase → Bool
fits_phase Ask ph = false
fits_phase (Tell q) (Asking held) = true
fits_phase (Tell q) (Keeping held) = false
fits_phase (Keep q) ph = false
fits_phase Kept (Asking held) = false
fits_phase Kept (Keeping held) = true

-- an answer counts for what the client is at: the phase fits, and this replica isn't yet in the set
abbrev pub counts_for : Option Operation → Message → Bool
counts_for None m = false
counts_for (Some o) m = fits_phase m.body o.phase && not (has_replica o.set m.replica.0)

-- an answer counts: the client isn't stopped, and the operation number is that of its open operation
abbrev pub counting : Sight → Message → Bool
counting s m = current s.party m && counts_for s.party.work m

-- a tell or a kept that doesn't count is used up
pub record Spends (s : Sight) (m : Message) (p : Plan) : Type 0 where
  pub answer : to_replica m.body ≡ false
  pub late : counting s m ≡ false
  pub plan : p ≡ used_up s m

-- what delivering the message m may do
pub data Delivers (s : Sight) (m : Message) (p : Plan) : Type 0 where
  tells : Tells s m p → Delivers s m p
  takes : Takes s m p → Delivers s m p
  hears : Hears s m p → Delivers s m p
  chooses : Chooses s m p → Delivers s m p
  counts : Counts s m p → Delivers s m p
  ends : Ends s m p → Delivers s m p
  spends : Spends s m p → Delivers s m p

-- ---- the other events

-- the same message also in the lowest free slot
abbrev pub Copies : Sight → Message → Plan → Type 0
Copies s m p = p ≡ planned s s.party false Nothing m (with_replica 0 m.replica.0)

-- the present request goes again to each replica not in the set
pub record Resends (s : Sight) (client : Client) (p : Plan) : Type 0 where
  pub acts : s.party.stopped ≡ false
  pub operation : Operation
  pub before : s.party.work ≡ Some operation
  pub plan : p
      ≡ planned s s.party false Nothing (to_replicas client operation.cell s.party.op (request operation.phase))
      (others s.quorums.replicas operation.set)

-- the client never acts again; its operation stays open
pub record Stops (s : Sight) (p : Plan) : Type 0 where
  pub acts : s.party.stopped ≡ false
  pub plan : p ≡ planned s (record { stopped = true; op = s.party.op; work = s.party.work }) false Nothing no_message 0

-- a replica that is on is switched off
pub record SwitchesOff (s : Sight) (replica : Replica) (p : Plan) : Type 0 where
  pub on : has_replica s.power replica.0 ≡ true
  pub plan : p ≡ powered s (without_replica s.power replica.0)

-- a replica that is off is switched on
pub record SwitchesOn (s : Sight) (replica : Replica) (p : Plan) : Type 0 where
  pub off : has_replica s.power replica.0 ≡ false
  pub plan : p ≡ powered s (with_replica s.power replica.0)

-- ---- every event

-- of the message that the slot holds
abbrev pub OfSlot : (Message → Type 0) → Option Message → Type 0
OfSlot P None = ⊥
OfSlot P (Some m) = P m

-- what an event does that saw s and what its slot held
abbrev pub Does : Sight → Option Message → Event → Plan → Type 0
Does s held (StartRead client cell) p = Starts s client cell Read p
Does s held (StartWrite client cell v) p = Starts s client cell (Write v) p
Does s held (Deliver slot) p = OfSlot (λ m. Delivers s m p) held
Does s held (Lose slot) p = OfSlot (λ m. p ≡ used_up s m) held
Does s held (Copy slot) p = OfSlot (λ m. Copies s m p) held
Does s held (Resend client) p = Resends s client p
Does s held (Stop client) p = Stops s p
Does s held (Off replica) p = SwitchesOff s replica p
Does s held (On replica) p = SwitchesOn s replica p
Does s held Unknown p = ⊥
