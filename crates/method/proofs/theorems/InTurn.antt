-- The decisions in the order in which the code takes them, each refusal where its event is planned; and that this gives the least number that applies.
use Rattle.std.specs.Prelude.{◌≡◌, refl, Bool, true, false, cond, not, ◌&&◌, eqb, None, Some, Ok, Option}
use Rattle.std.proofs.Common.{ap}
use Rattle.record.specs.declared.Client.{Client}
use Rattle.record.specs.declared.Cell.{Cell}
use Rattle.quorum.specs.Sets.{has_replica, with_replica, asks_enough}
use Rattle.stamps.specs.declared.Pair.{Pair}
use Rattle.stamps.specs.Stamp.{last_number}
use Rattle.method.specs.declared.Body.{Body}
use Rattle.method.specs.declared.Body.TheVariants.{Ask, Tell, Keep, Kept}
use Rattle.method.specs.declared.Message.{Message}
use Rattle.method.specs.declared.Goal.{Goal}
use Rattle.method.specs.declared.Goal.TheVariants.{Read, Write}
use Rattle.method.specs.declared.Phase.{Phase}
use Rattle.method.specs.declared.Phase.TheVariants.{Asking, Keeping}
use Rattle.method.specs.declared.Operation.{Operation}
use Rattle.method.specs.declared.Sight.{Sight}
use Rattle.method.specs.declared.Event.{Event}
use Rattle.method.specs.declared.Event.TheVariants.{StartRead, StartWrite, Deliver, Lose, Copy, Resend, Stop, Off, On, Unknown}
use Rattle.method.specs.declared.Note.TheVariants.{Nothing}
use Rattle.method.specs.Decision.{Decision, refused}
use Rattle.method.specs.Holding.{holds}
use Rattle.method.specs.Plan.{active_party, planned, used_up, asking, start_of, current, chosen, keeps_of, tell_counts, tell_in, tell_at, tell_of}
use Rattle.method.specs.Plan.{deliver_in, deliver_of, resend_of, of_slot, plan_of}
use Rattle.method.specs.Refusals.{is_unknown, is_start, names_slot, names_client, is_resend, is_delivery, is_open, to_replica, last_op, is_write, spent_in, spent_at, spent_by}
use Rattle.method.specs.Refusals.{slot_empty, client_stopped}
use Rattle.method.specs.Refusals.{already_open, none_open, replica_off, switched_so, op_spent, number_spent, decision_of}
use Rattle.method.specs.laws.InTurn.{start_in, start_turn, if_on, phase_ends, tell_enough, tell_phase, tell_work, tell_turn, deliver_turn, resend_in, resend_turn, stop_turn, off_turn, on_turn, slot_turn, turn_of}

-- ---- it is the table's answer

-- a test the other way about
swapped : {A : Type 0} (t : Bool) (a b : A) → cond t a b ≡ cond (not t) b a
swapped true a b = refl
swapped false a b = refl

start_turn_lem : (s : Sight) (client : Client) (cell : Cell) (goal : Goal)
    → start_turn s client cell goal
    ≡ cond s.party.stopped (refused 5) (cond (is_open s.party.work) (refused 6) (cond (eqb s.party.op last_op) (refused 10) (Ok (start_of s client cell goal))))
unfolding start_turn start_in
start_turn_lem s client cell goal = ap (cond s.party.stopped (refused 5)) (go s.party.work)
  where
    go : (w : Option Operation) → start_in w s client cell goal ≡ cond (is_open w) (refused 6) (cond (eqb s.party.op last_op) (refused 10) (Ok (start_of s client cell goal)))
    go None = refl
    go (Some o) = refl

phase_turn : (goal : Goal) (s : Sight) (m : Message) (o : Operation) (held : Pair)
    → phase_ends goal s m o held ≡ cond (is_write goal && eqb held.stamp.number last_number) (refused 12) (Ok (keeps_of s m o (chosen goal m.client held)))
unfolding phase_ends chosen
phase_turn Read s m o held = refl
phase_turn (Write v) s m o held = refl

tell_phase_lem : (ph : Phase) (s : Sight) (m : Message) (o : Operation) (q : Pair)
    → tell_phase ph s m o q ≡ cond (spent_in ph s m o q) (refused 12) (Ok (tell_in ph s m o q))
unfolding tell_phase tell_enough tell_in tell_counts
tell_phase_lem (Keeping held) s m o q = refl
tell_phase_lem (Asking held) s m o q = go (has_replica o.set m.replica.0) (asks_enough s.quorums (with_replica o.set m.replica.0))
  where
    next : Pair
    next = holds held q

    on : Decision
    on = Ok (planned s (active_party s.party.op (Some (asking o (with_replica o.set m.replica.0) next))) true Nothing m 0)

    go : (t u : Bool)
        → cond t (Ok (used_up s m)) (cond u (phase_ends o.goal s m o next) on)
        ≡ cond ((not t && u) && (is_write o.goal && eqb next.stamp.number last_number)) (refused 12)
        (Ok (cond t (used_up s m) (cond u (keeps_of s m o (chosen o.goal m.client next))
        (planned s (active_party s.party.op (Some (asking o (with_replica o.set m.replica.0) next))) true Nothing m 0))))
    go true u = refl
    go false true = phase_turn o.goal s m o next
    go false false = refl

tell_turn_lem : (s : Sight) (m : Message) (q : Pair) → tell_turn s m q ≡ cond (spent_by (Tell q) s m) (refused 12) (Ok (tell_of s m q))
unfolding tell_turn tell_work tell_of tell_at
tell_turn_lem s m q = go (current s.party m) s.party.work
  where
    go : (t : Bool) (w : Option Operation) → cond t (tell_work w s m q) (Ok (used_up s m)) ≡ cond (t && spent_at w s m q) (refused 12) (Ok (cond t (tell_at w s m q) (used_up s m)))
    go false w = refl
    go true None = refl
    go true (Some o) = tell_phase_lem o.phase s m o q

deliver_turn_lem : (s : Sight) (m : Message) (b : Body)
    → deliver_turn b s m
    ≡ cond (to_replica b && not (has_replica s.power m.replica.0)) (refused 8) (cond (spent_by b s m) (refused 12) (Ok (deliver_in b s m)))
unfolding deliver_turn deliver_in if_on
deliver_turn_lem s m Ask = swapped (has_replica s.power m.replica.0) _ _
deliver_turn_lem s m (Tell q) = tell_turn_lem s m q
deliver_turn_lem s m (Keep q) = swapped (has_replica s.power m.replica.0) _ _
deliver_turn_lem s m Kept = refl

resend_turn_lem : (s : Sight) (client : Client)
    → resend_turn s client ≡ cond s.party.stopped (refused 5) (cond (not (is_open s.party.work)) (refused 7) (Ok (resend_of s.party.work s client)))
unfolding resend_turn resend_in
resend_turn_lem s client = ap (cond s.party.stopped (refused 5)) (go s.party.work)
  where
    go : (w : Option Operation) → resend_in w s client ≡ cond (not (is_open w)) (refused 7) (Ok (resend_of w s client))
    go None = refl
    go (Some o) = refl

pub in_turn : (s : Sight) (held : Option Message) (e : Event) → turn_of s held e ≡ decision_of s held e
unfolding turn_of slot_turn stop_turn off_turn on_turn decision_of is_unknown is_start names_slot names_client is_resend is_delivery slot_empty client_stopped already_open none_open
    replica_off switched_so op_spent number_spent plan_of of_slot deliver_of
in_turn s held (StartRead client cell) = start_turn_lem s client cell Read
in_turn s held (StartWrite client cell v) = start_turn_lem s client cell (Write v)
in_turn s None (Deliver slot) = refl
in_turn s (Some m) (Deliver slot) = deliver_turn_lem s m m.body
in_turn s None (Lose slot) = refl
in_turn s (Some m) (Lose slot) = refl
in_turn s None (Copy slot) = refl
in_turn s (Some m) (Copy slot) = refl
in_turn s held (Resend client) = resend_turn_lem s client
in_turn s held (Stop client) = refl
in_turn s held (Off replica) = swapped (has_replica s.power replica.0) _ _
in_turn s held (On replica) = refl
in_turn s held Unknown = refl
