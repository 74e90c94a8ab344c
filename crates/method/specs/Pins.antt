-- What the laws of errors that look healthy speak of. The paper: "Floating pins".
use Rattle.std.specs.Prelude.{ℕ, ◌≡◌, ◌⊎◌, false, None, Some, Err, Ok, Option}
use Rattle.quorum.specs.Sets.{with_replica}
use Rattle.stamps.specs.declared.Pair.{Pair}
use Rattle.stamps.specs.Stamp.{stamp_less}
use Rattle.method.specs.declared.Body.{Body}
use Rattle.method.specs.declared.Body.TheVariants.{Ask, Tell, Keep, Kept}
use Rattle.method.specs.declared.Message.{Message}
use Rattle.method.specs.declared.Goal.{Goal}
use Rattle.method.specs.declared.Goal.TheVariants.{Read}
use Rattle.method.specs.declared.Phase.{Phase}
use Rattle.method.specs.declared.Phase.TheVariants.{Asking, Keeping}
use Rattle.method.specs.declared.Operation.{Operation}
use Rattle.method.specs.declared.Note.TheVariants.{Nothing}
use Rattle.method.specs.declared.Plan.{Plan}
use Rattle.method.specs.Decision.{Decision}
use Rattle.method.specs.Plan.{message_of, asking, keeping}

-- the event isn't refused, and its plan is such
abbrev pub IsDone : Decision → (Plan → Type 0) → Type 0
IsDone (Err k) P = ⊥
IsDone (Ok p) P = P p

-- if the event isn't refused, its plan is such
abbrev pub IfDone : Decision → (Plan → Type 0) → Type 0
IfDone (Err k) P = Unit {0}
IfDone (Ok p) P = P p

-- ---- a replica that is given a message

-- an ask or a keep: its delivery is to a replica
abbrev pub ToReplica : Body → Type 0
ToReplica Ask = Unit {0}
ToReplica (Tell q) = ⊥
ToReplica (Keep q) = Unit {0}
ToReplica Kept = ⊥

-- the replica that m went to answers it with this body: to m's client, about its cell, for its operation number
pub record Answers (m : Message) (b : Body) (p : Plan) : Type 0 where
  pub message : p.message ≡ message_of m.client m.replica m.cell m.op b
  pub to : p.to ≡ with_replica 0 m.replica.0

-- ---- a client that is given an answer

-- two answers of one kind, whatever pairs they tell
pub data SameKind (a b : Body) : Type 0 where
  tells : (p q : Pair) → a ≡ Tell p → b ≡ Tell q → SameKind a b
  kepts : a ≡ Kept → b ≡ Kept → SameKind a b

-- n is one more answer of m's replica to m's request: a copy, or an answer to a copy or a resend
pub record OneMore (m n : Message) : Type 0 where
  pub replica : n.replica.0 ≡ m.replica.0
  pub op : n.op ≡ m.op
  pub kind : SameKind m.body n.body

-- the ask phase of o goes on: nothing is sent or recorded, and these have told
pub record AsksOn (o : Operation) (set : ℕ) (p : Plan) : Type 0 where
  pub held : Pair
  pub work : p.party.work ≡ Some (asking o set held)
  pub to : p.to ≡ 0
  pub note : p.note ≡ Nothing

-- the client of o is keeping, nobody is in its set, what it sends is a keep, and nothing is recorded
pub record KeepsFirst (o : Operation) (p : Plan) : Type 0 where
  pub held : Pair
  pub kept : Pair
  pub work : p.party.work ≡ Some (keeping o 0 held)
  pub sends : p.message.body ≡ Keep kept
  pub note : p.note ≡ Nothing

-- what is held in a phase
abbrev pub held_in : Phase → Option Pair
held_in (Asking held) = held
held_in (Keeping held) = Some held

-- what a client holds
abbrev pub held_by : Option Operation → Option Pair
held_by None = None
held_by (Some o) = held_in o.phase

-- what is held after a tell is a pair, and the greatest so far: its stamp isn't below the one just told, nor below the one held before, if any was; a read's
-- is one of those two
pub record Greatest (goal : Goal) (held : Option Pair) (told : Pair) (after : Option Pair) : Type 0 where
  pub pair : Pair
  pub holds : after ≡ Some pair
  pub now : stamp_less pair.stamp told.stamp ≡ false
  pub before : (h : Pair) → held ≡ Some h → stamp_less pair.stamp h.stamp ≡ false
  pub whole : goal ≡ Read → (pair ≡ told) ⊎ (held ≡ Some pair)
