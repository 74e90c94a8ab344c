-- Every plan is of the method: what is done of an event is what the method says of its kind. What stands on plans goes by this, and not by their text.
use Rattle.std.specs.Prelude.{◌≡◌, ◌≢◌, ◌⊎◌, true, not, eqb, None, Some, Err, Ok, Option}
use Rattle.std.proofs.Math.Path.{refl}
use Rattle.std.proofs.Common.{ap, sym, ◌∙◌, subst, inl, inr}
use Rattle.std.proofs.Math.Bool.{false}
use borrow.Author.Tests.{eqb-true, eqb-false, not-true}
use Rattle.record.specs.declared.Client.{Client}
use Rattle.record.specs.declared.Cell.{Cell}
use Rattle.quorum.specs.Sets.{has_replica, asks_enough, keeps_enough}
use Rattle.stamps.specs.declared.Pair.{Pair}
use Rattle.stamps.specs.Stamp.{last_number}
use Rattle.method.specs.declared.Body.{Body}
use Rattle.method.specs.declared.Body.TheVariants.{Ask, Tell, Keep, Kept}
use Rattle.method.specs.declared.Message.{Message}
use Rattle.method.specs.declared.Goal.{Goal}
use Rattle.method.specs.declared.Goal.TheVariants.{Read, Write}
use Rattle.method.specs.declared.Phase.{Phase}
use Rattle.method.specs.declared.Phase.TheVariants.{Asking, Keeping}
use Rattle.method.specs.declared.Operation.{Operation}
use Rattle.method.specs.declared.Sight.{Sight}
use Rattle.method.specs.declared.Event.{Event}
use Rattle.method.specs.declared.Event.TheVariants.{StartRead, StartWrite, Deliver, Lose, Copy, Resend, Stop, Off, On, Unknown}
use Rattle.method.specs.declared.Plan.{Plan}
use Rattle.method.specs.Decision.{Decision}
use Rattle.method.specs.Plan.{used_up, start_of, ask_of, keep_of, current, written, keeps_of, kept_counts, kept_in, kept_at, kept_of, copy_of, resend_of, stop_of}
use Rattle.method.specs.Refusals.{last_op, to_replica, is_write, decision_of}
use Rattle.method.specs.About.{client_in, client_of}
use Rattle.method.specs.Method.{Chosen, Starts, Resends, Stops, SwitchesOff, SwitchesOn, Heard, heard_set, heard_pair, Counted, counted_set, counting, Delivers, Does}
use Rattle.method.specs.Method.Delivers.{tells, takes, hears, chooses, counts, ends, spends}
use Rattle.method.specs.laws.Tests.{never, and_left, and_right, either}
use Rattle.method.specs.laws.InTurn.{start_in, start_turn, if_on, phase_ends, tell_enough, tell_phase, tell_work, tell_turn, deliver_turn, resend_in, resend_turn, stop_turn, off_turn}
use Rattle.method.specs.laws.InTurn.{on_turn}
use Rattle.method.specs.laws.InTurn.{slot_turn, turn_of}
use Rattle.method.proofs.theorems.InTurn.{in_turn}

-- what is done, if anything is, is such
abbrev IfGo : (Plan → Type 0) → Decision → Type 0
IfGo P (Err k) = Unit {0}
IfGo P (Ok p) = P p

module _ (s : Sight) where
  -- ---- a start

  start_does : (client : Client) (cell : Cell) (goal : Goal) → IfGo (Starts s client cell goal) (start_turn s client cell goal)
  unfolding start_turn start_in start_of
  start_does client cell goal = either (IfGo (Starts s client cell goal)) s.party.stopped _ _ (λ a. tt) (λ a. go a s.party.work refl)
    where
      go : s.party.stopped ≡ false → (w : Option Operation) → s.party.work ≡ w → IfGo (Starts s client cell goal) (start_in w s client cell goal)
      go a None q =
          either (IfGo (Starts s client cell goal)) (eqb s.party.op last_op) _ _ (λ b. tt)
          (λ b. record { acts = a; before = q; next = eqb-false s.party.op last_op b; plan = refl })
      go a (Some o) q = tt

  -- ---- a slot's message

  module _ (m : Message) where
    -- what is done with the message m, if anything is, is of the method
    abbrev It : Decision → Type 0
    It = IfGo (Delivers s m)

    -- an answer that doesn't count
    spent : to_replica m.body ≡ false → counting s m ≡ false → Delivers s m (used_up s m)
    spent a l = spends (record { answer = a; late = l; plan = refl })

    ask_does : m.body ≡ Ask → It (if_on s m (Ok (ask_of s m)))
    unfolding if_on ask_of
    ask_does b = either It (has_replica s.power m.replica.0) _ _ (λ e. tells (record { body = b; on = e; plan = refl })) (λ e. tt)

    keep_does : (q : Pair) → m.body ≡ Keep q → It (if_on s m (Ok (keep_of s m q)))
    unfolding if_on keep_of
    keep_does q b =
        either It (has_replica s.power m.replica.0) _ _ (λ e. takes (record { given = q; body = b; on = e; plan = refl })) (λ e. tt)

    -- ---- a tell

    module _ (h : Heard s m) where
      keeps_does : asks_enough s.quorums (heard_set h) ≡ true → (chosen : Pair) → Chosen h.operation.goal m.client.0 (heard_pair h) chosen
          → (is_write h.operation.goal ≡ true → (heard_pair h).stamp.number ≢ last_number) → Delivers s m (keeps_of s m h.operation chosen)
      unfolding keeps_of
      keeps_does e chosen k n = chooses (record { heard = h; enough = e; chosen = chosen; choice = k; next = n; plan = refl })

      phase_does : asks_enough s.quorums (heard_set h) ≡ true → (goal : Goal) → h.operation.goal ≡ goal → It (phase_ends goal s m h.operation (heard_pair h))
      unfolding phase_ends
      phase_does e Read q = keeps_does e (heard_pair h) (rw q refl) (λ w. never (sym (ap is_write q) ∙ w))
      phase_does e (Write v) q =
          either It (eqb (heard_pair h).stamp.number last_number) _ _ (λ z. tt)
          (λ z. keeps_does e (written m.client v (heard_pair h)) (rw q (record { stamp = record { number = refl; rank = refl }; value = refl }))
          (λ w. eqb-false (heard_pair h).stamp.number last_number z))

      tell_counts_does : It (tell_enough s m h.operation (heard_set h) (heard_pair h))
      unfolding tell_enough
      tell_counts_does =
          either It (asks_enough s.quorums (heard_set h)) _ _ (λ e. phase_does e h.operation.goal refl)
          (λ e. hears (record { heard = h; few = e; plan = refl }))

    -- the client isn't stopped
    active : current s.party m ≡ true → s.party.stopped ≡ false
    unfolding current
    active e = not-true s.party.stopped (and_left (not s.party.stopped) (eqb s.party.op m.op) e)

    -- the operation number is that of the present operation
    present : current s.party m ≡ true → s.party.op ≡ m.op
    unfolding current
    present e = eqb-true s.party.op m.op (and_right (not s.party.stopped) (eqb s.party.op m.op) e)

    tell_does : (q : Pair) → m.body ≡ Tell q → It (tell_turn s m q)
    unfolding tell_turn tell_work tell_phase
    tell_does q b = either It (current s.party m) _ _ (λ c. go c s.party.work refl) (λ c. spent told (rw c))
      where
        told : to_replica m.body ≡ false
        told = rw b

        in_phase : current s.party m ≡ true → (o : Operation) → s.party.work ≡ Some o → (ph : Phase) → o.phase ≡ ph → It (tell_phase ph s m o q)
        in_phase c o w (Keeping held) p = spent told (rw (c, w, b, p))
        in_phase c o w (Asking held) p =
            either It (has_replica o.set m.replica.0) _ _ (λ z. spent told (rw (c, w, b, p, z)))
            (λ z. tell_counts_does (record {
              told = q;
              body = b;
              acts = active c;
              op = present c;
              operation = o;
              before = w;
              held = held;
              phase = p;
              new = z;
            }))

        go : current s.party m ≡ true → (w : Option Operation) → s.party.work ≡ w → It (tell_work w s m q)
        go c None e = spent told (rw (c, e))
        go c (Some o) e = in_phase c o e o.phase refl

    -- ---- a kept

    kept_counts_does : (h : Counted s m) → Delivers s m (kept_counts s m h.operation (counted_set h) h.held)
    unfolding kept_counts
    kept_counts_does h =
        either (Delivers s m) (keeps_enough s.quorums (counted_set h)) _ _
        (λ e. ends (record { counted = h; enough = e; plan = refl }))
        (λ e. counts (record { counted = h; few = e; plan = refl }))

    kept_does : m.body ≡ Kept → Delivers s m (kept_of s m)
    unfolding kept_of kept_at kept_in
    kept_does b = either (Delivers s m) (current s.party m) _ _ (λ c. go c s.party.work refl) (λ c. spent kept (rw c))
      where
        kept : to_replica m.body ≡ false
        kept = rw b

        in_phase : current s.party m ≡ true → (o : Operation) → s.party.work ≡ Some o → (ph : Phase) → o.phase ≡ ph → Delivers s m (kept_in ph s m o)
        in_phase c o w (Asking held) p = spent kept (rw (c, w, b, p))
        in_phase c o w (Keeping held) p =
            either (Delivers s m) (has_replica o.set m.replica.0) _ _ (λ z. spent kept (rw (c, w, b, p, z)))
            (λ z. kept_counts_does (record {
              body = b;
              acts = active c;
              op = present c;
              operation = o;
              before = w;
              held = held;
              phase = p;
              new = z;
            }))

        go : current s.party m ≡ true → (w : Option Operation) → s.party.work ≡ w → Delivers s m (kept_at w s m)
        go c None e = spent kept (rw (c, e))
        go c (Some o) e = in_phase c o e o.phase refl

    deliver_does : (b : Body) → m.body ≡ b → It (deliver_turn b s m)
    unfolding deliver_turn
    deliver_does Ask e = ask_does e
    deliver_does (Tell q) e = tell_does q e
    deliver_does (Keep q) e = keep_does q e
    deliver_does Kept e = kept_does e

  -- ---- resend, stop

  resend_does : (client : Client) → IfGo (Resends s client) (resend_turn s client)
  unfolding resend_turn resend_in resend_of
  resend_does client = either (IfGo (Resends s client)) s.party.stopped _ _ (λ a. tt) (λ a. go a s.party.work refl)
    where
      go : s.party.stopped ≡ false → (w : Option Operation) → s.party.work ≡ w → IfGo (Resends s client) (resend_in w s client)
      go a None e = tt
      go a (Some o) e = record { acts = a; operation = o; before = e; plan = refl }

  stop_does : IfGo (Stops s) (stop_turn s)
  unfolding stop_turn stop_of
  stop_does = either (IfGo (Stops s)) s.party.stopped _ _ (λ a. tt) (λ a. record { acts = a; plan = refl })

  -- ---- every event

  event_does : (held : Option Message) (e : Event) → IfGo (Does s held e) (turn_of s held e)
  unfolding turn_of slot_turn copy_of off_turn on_turn
  event_does held (StartRead client cell) = start_does client cell Read
  event_does held (StartWrite client cell v) = start_does client cell (Write v)
  event_does None (Deliver slot) = tt
  event_does (Some m) (Deliver slot) = deliver_does m m.body refl
  event_does None (Lose slot) = tt
  event_does (Some m) (Lose slot) = refl
  event_does None (Copy slot) = tt
  event_does (Some m) (Copy slot) = refl
  event_does held (Resend client) = resend_does client
  event_does held (Stop client) = stop_does
  event_does held (Off replica) =
      either (IfGo (SwitchesOff s replica)) (has_replica s.power replica.0) _ _ (λ e. record { on = e; plan = refl }) (λ e. tt)
  event_does held (On replica) =
      either (IfGo (SwitchesOn s replica)) (has_replica s.power replica.0) _ _ (λ e. tt) (λ e. record { off = e; plan = refl })
  event_does held Unknown = tt

  -- The law of plans: what is decided to be done of an event is what the method says.
  pub method : (held : Option Message) (e : Event) (p : Plan) → decision_of s held e ≡ Ok p → Does s held e p
  method held e p q = subst (IfGo (Does s held e)) (in_turn s held e ∙ q) (event_does held e)

-- ---- what is sent

-- What a done event sends is of the client that the event is about.
pub own_messages : (s : Sight) (held : Option Message) (e : Event) (p : Plan) → Does s held e p → (p.to ≡ 0) ⊎ (p.message.client.0 ≡ client_of e held)
unfolding client_of client_in
own_messages s held (StartRead client cell) p d = rw d.plan (inr refl)
own_messages s held (StartWrite client cell v) p d = rw d.plan (inr refl)
own_messages s None (Deliver slot) p d = absurd d
own_messages s (Some m) (Deliver slot) p d = go d
  where
    go : Delivers s m p → (p.to ≡ 0) ⊎ (p.message.client.0 ≡ m.client.0)
    go (tells c) = rw c.plan (inr refl)
    go (takes c) = rw c.plan (inr refl)
    go (hears c) = rw c.plan (inl refl)
    go (chooses c) = rw c.plan (inr refl)
    go (counts c) = rw c.plan (inl refl)
    go (ends c) = rw c.plan (inl refl)
    go (spends c) = rw c.plan (inl refl)
own_messages s None (Lose slot) p d = absurd d
own_messages s (Some m) (Lose slot) p d = rw d (inl refl)
own_messages s None (Copy slot) p d = absurd d
own_messages s (Some m) (Copy slot) p d = rw d (inr refl)
own_messages s held (Resend client) p d = rw d.plan (inr refl)
own_messages s held (Stop client) p d = rw d.plan (inl refl)
own_messages s held (Off replica) p d = rw d.plan (inl refl)
own_messages s held (On replica) p d = rw d.plan (inl refl)
own_messages s held Unknown p d = absurd d
