-- Errors that look healthy, and what refuses each: laws of every sight, message and set, proved of the definitions alone. The paper: "Floating pins".
use Rattle.std.specs.Prelude.{ℕ, ◌+◌, ◌*◌, ◌≤◌, ◌<◌, ◌≡◌, refl, Bool, true, false, cond, not, ◌&&◌, ◌||◌, ltb, eqb, ℤ, Some, None, Err, Ok, Option}
use Rattle.std.proofs.Common.{ap, sym, ◌∙◌, inl, inr, arith, lt-ltb, le-ltb, eq-eqb, ne_eqb, ltb-true, ltb-false, eqb-true}
use Rattle.record.specs.declared.Client.{Client}
use Rattle.quorum.specs.Sets.{set_bits, has_replica, with_replica, count_of, majority, asks_enough, keeps_enough, every_replica}
use Rattle.quorum.proofs.theorems.SetLaws.{with_has}
use Rattle.stamps.specs.declared.Stamp.{Stamp}
use Rattle.stamps.specs.declared.Pair.{Pair}
use Rattle.stamps.specs.Stamp.{last_number, stamp_less, raised}
use Rattle.method.specs.declared.Body.{Body}
use Rattle.method.specs.declared.Body.TheVariants.{Ask, Tell, Keep, Kept}
use Rattle.method.specs.declared.Message.{Message}
use Rattle.method.specs.declared.Goal.{Goal}
use Rattle.method.specs.declared.Goal.TheVariants.{Read, Write}
use Rattle.method.specs.declared.Phase.{Phase}
use Rattle.method.specs.declared.Phase.TheVariants.{Asking, Keeping}
use Rattle.method.specs.declared.Operation.{Operation}
use Rattle.method.specs.declared.Sight.{Sight}
use Rattle.method.specs.declared.Event.TheVariants.{Deliver, Resend}
use Rattle.method.specs.declared.Plan.{Plan}
use Rattle.method.specs.Decision.{Decision, refused}
use Rattle.method.specs.Holding.{holds}
use Rattle.method.specs.Plan.{used_up, keep_of, current, written, chosen, keeps_of, tell_counts, tell_in, tell_at, tell_of, kept_counts, kept_in, kept_at, kept_of}
use Rattle.method.specs.Plan.{deliver_in, deliver_of, resend_of, of_slot, plan_of}
use Rattle.method.specs.Refusals.{is_unknown, is_start, names_slot, names_client, is_resend, is_delivery, is_open, to_replica, spent_in, spent_at, spent_by, slot_empty, client_stopped}
use Rattle.method.specs.Refusals.{already_open, none_open, replica_off, switched_so, op_spent, number_spent, decision_of}
use Rattle.method.specs.Method.{Heard, heard_set, heard_pair}
use Rattle.method.specs.Pins.{IsDone, IfDone, ToReplica, Answers, SameKind, OneMore, AsksOn, KeepsFirst, held_by, Greatest}
use Rattle.method.specs.Pins.SameKind.{tells, kepts}
use Rattle.method.specs.laws.Tests.{never, either}

-- what is decided of an event that is done as this plan says
abbrev as_planned : Plan → Decision
as_planned p = Ok p

-- ---- the refusals that are about a kind of event

delivered : (s : Sight) (m : Message) (slot : ℕ) (b : Body) → m.body ≡ b
    → decision_of s (Some m) (Deliver slot)
    ≡ cond (to_replica b && not (has_replica s.power m.replica.0)) (refused 8) (cond (spent_by b s m) (refused 12) (Ok (deliver_in b s m)))
unfolding decision_of is_unknown is_start names_slot names_client is_resend is_delivery slot_empty client_stopped already_open none_open replica_off switched_so op_spent number_spent
    plan_of of_slot deliver_of
delivered s m slot b e =
    ap (λ (x : Body). cond (to_replica x && not (has_replica s.power m.replica.0)) (refused 8) (cond (spent_by x s m) (refused 12) (Ok (deliver_in x s m)))) e

resent : (s : Sight) (slot : Option Message) (client : Client)
    → decision_of s slot (Resend client)
    ≡ cond s.party.stopped (refused 5) (cond (not (is_open s.party.work)) (refused 7) (Ok (resend_of s.party.work s client)))
unfolding decision_of is_unknown is_start names_slot names_client is_resend is_delivery slot_empty client_stopped already_open none_open replica_off switched_so op_spent number_spent
    plan_of
resent s slot client = refl

-- a plan that is such, where it may be refused
if_done : (P : Plan → Type 0) (t : Bool) (k : ℕ) (p : Plan) → P p → IfDone (cond t (Err k) (Ok p)) P
if_done P true k p x = tt
if_done P false k p x = x

-- ---- a replica that is given a message

-- whatever the stamps: a keep that is delivered to a replica that is on is answered kept
pub kept_either_way : (s : Sight) (m : Message) (q : Pair) (slot : ℕ) → m.body ≡ Keep q → has_replica s.power m.replica.0 ≡ true
    → IsDone (decision_of s (Some m) (Deliver slot)) (Answers m Kept)
unfolding deliver_in keep_of
kept_either_way s m q slot b on = rw (delivered s m slot (Keep q) b, on) (record { message = refl; to = refl })

-- a replica that is off answers nothing: the delivery is refused 8
pub off_is_silent : (s : Sight) (m : Message) (slot : ℕ) → ToReplica m.body → has_replica s.power m.replica.0 ≡ false
    → decision_of s (Some m) (Deliver slot) ≡ refused 8
off_is_silent s m slot k off = rw (delivered s m slot m.body refl, off) (go m.body k)
  where
    go : (b : Body) → ToReplica b → cond (to_replica b && true) (refused 8) (cond (spent_by b s m) (refused 12) (Ok (deliver_in b s m))) ≡ refused 8
    go Ask k = refl
    go (Tell q) k = absurd k
    go (Keep q) k = refl
    go Kept k = absurd k

-- ---- a client that is told

-- what is decided of a tell that counts
tell_counts_lem : (s : Sight) (m : Message) (t : Heard s m) (slot : ℕ)
    → decision_of s (Some m) (Deliver slot)
    ≡ cond (spent_in (Asking t.held) s m t.operation t.told) (refused 12) (Ok (tell_counts s m t.operation (heard_set t) (heard_pair t)))
unfolding deliver_in tell_of current tell_at tell_in
tell_counts_lem s m t slot =
    rw (delivered s m slot (Tell t.told) t.body, t.acts, eq-eqb s.party.op m.op t.op, t.before, t.phase, t.new)

-- while no more than half of all replicas, on or off, have told, the ask phase goes on: a tell that is missing isn't taken as stamp (0, 0) and value 0
pub silence_is_no_answer : (s : Sight) (m : Message) (t : Heard s m) (slot : ℕ) → 2 * count_of (heard_set t) ≤ s.quorums.replicas
    → IsDone (decision_of s (Some m) (Deliver slot)) (AsksOn t.operation (heard_set t))
unfolding tell_counts asks_enough majority
silence_is_no_answer s m t slot few =
    rw (tell_counts_lem s m t slot, t.new, le-ltb s.quorums.replicas (2 * count_of (heard_set t)) few)
    (record { held = heard_pair t; work = refl; to = refl; note = refl })

-- a write whose ask phase would end with held number 4,294,967,295 is refused 12
pub last_number_is_refused : (s : Sight) (m : Message) (t : Heard s m) (slot : ℕ) (v : ℤ) → s.quorums.replicas < 2 * count_of (heard_set t)
    → t.operation.goal ≡ Write v → (heard_pair t).stamp.number ≡ last_number → decision_of s (Some m) (Deliver slot) ≡ refused 12
unfolding asks_enough majority
last_number_is_refused s m t slot v most w e =
    rw (tell_counts_lem s m t slot, t.new, lt-ltb s.quorums.replicas (2 * count_of (heard_set t)) most, w, e) refl

-- what holds of the plan of a tell that counts holds of it where it isn't refused
tell_leaves : (P : Plan → Type 0) (s : Sight) (m : Message) (t : Heard s m) (slot : ℕ) → P (tell_counts s m t.operation (heard_set t) (heard_pair t))
    → IfDone (decision_of s (Some m) (Deliver slot)) P
tell_leaves P s m t slot x =
    rw (tell_counts_lem s m t slot)
    (if_done P (spent_in (Asking t.held) s m t.operation t.told) 12 (tell_counts s m t.operation (heard_set t) (heard_pair t)) x)

-- a read keeps before it gives its value, as a write does: when the ask phase ends, what is sent is a keep and nothing is recorded
pub read_keeps_first : (s : Sight) (m : Message) (t : Heard s m) (slot : ℕ) → s.quorums.replicas < 2 * count_of (heard_set t)
    → IfDone (decision_of s (Some m) (Deliver slot)) (KeepsFirst t.operation)
unfolding tell_counts asks_enough majority keeps_of
read_keeps_first s m t slot most =
    tell_leaves (KeepsFirst t.operation) s m t slot (rw (lt-ltb s.quorums.replicas (2 * count_of (heard_set t)) most)
    (record { held = _; kept = _; work = refl; sends = refl; note = refl }))

-- that keep goes to every replica, not to a majority only
pub keep_goes_to_every_replica : (s : Sight) (m : Message) (t : Heard s m) (slot : ℕ) → s.quorums.replicas < 2 * count_of (heard_set t)
    → IfDone (decision_of s (Some m) (Deliver slot)) (λ (p : Plan). p.to ≡ every_replica s.quorums.replicas)
unfolding tell_counts asks_enough majority keeps_of
keep_goes_to_every_replica s m t slot most =
    tell_leaves (λ (p : Plan). p.to ≡ every_replica s.quorums.replicas) s m t slot
    (rw (lt-ltb s.quorums.replicas (2 * count_of (heard_set t)) most) refl)

-- ---- a resend

-- the stamp isn't chosen anew: what is sent again in the keep phase is a keep of the pair that is held
pub resend_keeps_its_stamp : (s : Sight) (slot : Option Message) (client : Client) (o : Operation) (held : Pair)
    → s.party.work ≡ Some o → o.phase ≡ Keeping held → IfDone (decision_of s slot (Resend client)) (λ (p : Plan). p.message.body ≡ Keep held)
unfolding resend_of
resend_keeps_its_stamp s slot client o held w k =
    rw (resent s slot client) (either (λ (d : Decision). IfDone d Same) s.party.stopped _ _ (λ e. tt)
    (λ e. if_done Same (not (is_open s.party.work)) 7 (resend_of s.party.work s client) (rw (w, k) refl)))
  where
    Same : Plan → Type 0
    Same p = p.message.body ≡ Keep held

-- ---- the greatest pair

not_below_itself : (a : Stamp) → stamp_less a a ≡ false
unfolding stamp_less
not_below_itself a = rw (le-ltb a.number a.number (omega arith), eq-eqb a.number a.number refl, le-ltb a.rank a.rank (omega arith))

not_both_below : (a b : Stamp) → stamp_less a b ≡ true → stamp_less b a ≡ false
unfolding stamp_less
not_both_below a b = go (ltb a.number b.number) refl (eqb a.number b.number) refl (ltb a.rank b.rank) refl
  where
    go : (x : Bool) → ltb a.number b.number ≡ x → (y : Bool) → eqb a.number b.number ≡ y → (z : Bool) → ltb a.rank b.rank ≡ z
        → (x || (y && z)) ≡ true → stamp_less b a ≡ false
    go true p y q z r e =
        let l = ltb-true a.number b.number p in
        rw (le-ltb b.number a.number (omega arith), ne_eqb b.number a.number (λ k. omega arith))
    go false p true q true r e =
        let n = eqb-true a.number b.number q in
        let l = ltb-true a.rank b.rank r in
        rw (le-ltb b.number a.number (omega arith), eq-eqb b.number a.number (sym n), le-ltb b.rank a.rank (omega arith))
    go false p true q false r e = never e
    go false p false q z r e = never e

-- a stamp with the next number isn't below what this one isn't below
next_not_below : (a b : Stamp) (rank : ℕ) → stamp_less a b ≡ false → stamp_less (record { number = a.number + 1; rank = rank }) b ≡ false
unfolding stamp_less
next_not_below a b rank = go (ltb a.number b.number) refl
  where
    go : (x : Bool) → ltb a.number b.number ≡ x → (x || (eqb a.number b.number && ltb a.rank b.rank)) ≡ false
        → stamp_less (record { number = a.number + 1; rank = rank }) b ≡ false
    go true p e = never (sym e)
    go false p e =
        let l = ltb-false a.number b.number p in
        rw (le-ltb (a.number + 1) b.number (omega arith), ne_eqb (a.number + 1) b.number (λ k. omega arith))

-- the pair of a write
written_greatest : (client : Client) (v : ℤ) (held : Option Pair) (told q : Pair) → Greatest (Write v) held told (Some q)
    → Greatest (Write v) held told (Some (written client v q))
written_greatest client v held told q g =
    let e : g.pair ≡ q = cc in
    record {
      pair = written client v q;
      holds = refl;
      now = next_not_below q.stamp told.stamp client.0 (rw (sym e) g.now);
      before = λ h b. next_not_below q.stamp h.stamp client.0 (rw (sym e) (g.before h b));
      whole = λ r. absurd (let z : ◌≡◌ {A = ℕ} 0 1 = cc in omega arith);
    }

-- after a tell that counts the client holds the greatest pair, not the replica's own nor the one told last: no stamp told so far is above the one held
pub greatest_is_held : (s : Sight) (m : Message) (t : Heard s m) (slot : ℕ)
    → IfDone (decision_of s (Some m) (Deliver slot)) (λ (p : Plan). Greatest t.operation.goal t.held t.told (held_by p.party.work))
unfolding tell_counts keeps_of chosen holds raised
greatest_is_held s m t slot =
    tell_leaves Left s m t slot
    (either Left (asks_enough s.quorums (heard_set t)) (keeps_of s m t.operation (chosen t.operation.goal m.client (heard_pair t))) _
    (λ e. ends t.operation.goal) (λ e. goes_on t.operation.goal t.held))
  where
    Left : Plan → Type 0
    Left p = Greatest t.operation.goal t.held t.told (held_by p.party.work)

    goes_on : (goal : Goal) (held : Option Pair) → Greatest goal held t.told (Some (holds held t.told))
    goes_on goal None =
        record {
          pair = t.told;
          holds = refl;
          now = not_below_itself t.told.stamp;
          before = λ h b. absurd (let z : ◌≡◌ {A = ℕ} 0 1 = cc in omega arith);
          whole = λ r. inl refl;
        }
    goes_on goal (Some held) =
        either (λ (q : Pair). Greatest goal (Some held) t.told (Some q)) (stamp_less held.stamp t.told.stamp) t.told held
        (λ l. record {
          pair = t.told;
          holds = refl;
          now = not_below_itself t.told.stamp;
          before = λ h b. let e : held ≡ h = cc in rw (sym e) (not_both_below held.stamp t.told.stamp l);
          whole = λ r. inl refl;
        })
        (λ l. record {
          pair = held;
          holds = refl;
          now = l;
          before = λ h b. let e : held ≡ h = cc in rw (sym e) (not_below_itself held.stamp);
          whole = λ r. inr refl;
        })

    ends : (goal : Goal) → Greatest goal t.held t.told (Some (chosen goal m.client (heard_pair t)))
    ends Read = goes_on Read t.held
    ends (Write v) = written_greatest m.client v t.held t.told (heard_pair t) (goes_on (Write v) t.held)

-- ---- one more answer of the same replica

-- an open operation at which a kept of replica k is used up whatever its operation number
abbrev KeptSpentIn : ℕ → ℕ → Phase → Type 0
KeptSpentIn k set (Asking held) = Unit {0}
KeptSpentIn k set (Keeping held) = has_replica set k ≡ true

-- the same of what a client is at
abbrev KeptSpent : ℕ → Option Operation → Type 0
KeptSpent k None = Unit {0}
KeptSpent k (Some o) = KeptSpentIn k o.set o.phase

-- the same of a tell
abbrev TellSpentIn : ℕ → ℕ → Phase → Type 0
TellSpentIn k set (Asking held) = has_replica set k ≡ true
TellSpentIn k set (Keeping held) = Unit {0}

abbrev TellSpent : ℕ → Option Operation → Type 0
TellSpent k None = Unit {0}
TellSpent k (Some o) = TellSpentIn k o.set o.phase

-- one answer and one more for the same operation number: where the first leaves the client at what spends it, one more is used up
module _ (s t : Sight) (m n : Message) (same : n.op ≡ m.op) (Spent : Option Operation → Type 0) where
  same_stale : t.party ≡ s.party → current s.party m ≡ false → current t.party n ≡ false
  unfolding current
  same_stale e c = rw (e, same) c

  -- what is decided of an answer for the present operation, which x may refuse
  abbrev once : Sight → Message → Bool → Plan → Decision
  once u a x p = cond (current u.party a && x) (refused 12) (Ok (cond (current u.party a) p (used_up u a)))

  used_again : (x y : Bool) (one more : Plan) → Spent one.party.work → (Spent t.party.work → cond y (refused 12) (Ok more) ≡ Ok (used_up t n))
      → IfDone (once s m x one) (λ (p : Plan). t.party ≡ p.party → once t n y more ≡ Ok (used_up t n))
  used_again x y one more u used = first (current s.party m) refl
    where
      Used : Plan → Type 0
      Used p = t.party ≡ p.party → once t n y more ≡ Ok (used_up t n)

      then : (c : Bool) → Spent t.party.work → cond (c && y) (refused 12) (Ok (cond c more (used_up t n))) ≡ Ok (used_up t n)
      then true v = used v
      then false v = refl

      first : (c : Bool) → current s.party m ≡ c → IfDone (cond (c && x) (refused 12) (Ok (cond c one (used_up s m)))) Used
      first true c = if_done Used x 12 one (λ e. then (current t.party n) (rw e u))
      first false c = λ e. rw (same_stale e c) refl

tell_delivered : (s : Sight) (m : Message) (q : Pair) (slot : ℕ) → m.body ≡ Tell q
    → decision_of s (Some m) (Deliver slot)
    ≡ cond (current s.party m && spent_at s.party.work s m q) (refused 12) (Ok (cond (current s.party m) (tell_at s.party.work s m q) (used_up s m)))
unfolding deliver_in tell_of
tell_delivered s m q slot b = delivered s m slot (Tell q) b

kept_delivered : (s : Sight) (m : Message) (slot : ℕ) → m.body ≡ Kept
    → decision_of s (Some m) (Deliver slot)
    ≡ cond (current s.party m && false) (refused 12) (Ok (cond (current s.party m) (kept_at s.party.work s m) (used_up s m)))
unfolding deliver_in kept_of
kept_delivered s m slot b = delivered s m slot Kept b ∙ go (current s.party m)
  where
    go : (c : Bool) → Ok (cond c (kept_at s.party.work s m) (used_up s m)) ≡ cond (c && false) (refused 12) (Ok (cond c (kept_at s.party.work s m) (used_up s m)))
    go true = refl
    go false = refl

-- a client counts replicas and not answers: once an answer of a replica is delivered, one more of its answers to that request is used up and nothing else happens
pub counts_replicas_not_answers : (s t : Sight) (m n : Message) (i j : ℕ) → OneMore m n → m.replica.0 < set_bits
    → IfDone (decision_of s (Some m) (Deliver i)) (λ (p : Plan). t.party ≡ p.party → decision_of t (Some n) (Deliver j) ≡ Ok (used_up t n))
unfolding tell_at tell_in tell_counts keeps_of kept_at kept_in kept_counts
counts_replicas_not_answers s t m n i j o h = go o.kind
  where
    k : ℕ
    k = m.replica.0

    TellLeft : Plan → Type 0
    TellLeft p = TellSpent k p.party.work

    tell_left_in : (q : Pair) (a : Operation) → s.party.work ≡ Some a → (ph : Phase) → a.phase ≡ ph → TellLeft (tell_in ph s m a q)
    tell_left_in q a w (Keeping held) e = rw (w, e) tt
    tell_left_in q a w (Asking held) e =
        either TellLeft (has_replica a.set k) _ _ (λ u. rw (w, e) u)
        (λ u. either TellLeft (asks_enough s.quorums (with_replica a.set k)) _ _ (λ z. tt) (λ z. with_has a.set k h))

    tell_left : (q : Pair) (w : Option Operation) → s.party.work ≡ w → TellLeft (tell_at w s m q)
    tell_left q None e = rw e tt
    tell_left q (Some a) e = tell_left_in q a e a.phase refl

    tell_used_in : (q : Pair) (a : Operation) (ph : Phase) → TellSpentIn n.replica.0 a.set ph
        → cond (spent_in ph t n a q) (refused 12) (Ok (tell_in ph t n a q)) ≡ Ok (used_up t n)
    tell_used_in q a (Asking held) u = rw u
    tell_used_in q a (Keeping held) u = refl

    tell_used : (q : Pair) (w : Option Operation) → TellSpent n.replica.0 w → cond (spent_at w t n q) (refused 12) (Ok (tell_at w t n q)) ≡ Ok (used_up t n)
    tell_used q None u = refl
    tell_used q (Some a) u = tell_used_in q a a.phase u

    KeptLeft : Plan → Type 0
    KeptLeft p = KeptSpent k p.party.work

    kept_left_in : (a : Operation) → s.party.work ≡ Some a → (ph : Phase) → a.phase ≡ ph → KeptLeft (kept_in ph s m a)
    kept_left_in a w (Asking held) e = rw (w, e) tt
    kept_left_in a w (Keeping held) e =
        either KeptLeft (has_replica a.set k) _ _ (λ u. rw (w, e) u)
        (λ u. either KeptLeft (keeps_enough s.quorums (with_replica a.set k)) _ _ (λ z. tt) (λ z. with_has a.set k h))

    kept_left : (w : Option Operation) → s.party.work ≡ w → KeptLeft (kept_at w s m)
    kept_left None e = rw e tt
    kept_left (Some a) e = kept_left_in a e a.phase refl

    kept_used_in : (a : Operation) (ph : Phase) → KeptSpentIn n.replica.0 a.set ph → as_planned (kept_in ph t n a) ≡ as_planned (used_up t n)
    kept_used_in a (Asking held) u = refl
    kept_used_in a (Keeping held) u = rw u

    kept_used : (w : Option Operation) → KeptSpent n.replica.0 w → as_planned (kept_at w t n) ≡ as_planned (used_up t n)
    kept_used None u = refl
    kept_used (Some a) u = kept_used_in a a.phase u

    go : SameKind m.body n.body
        → IfDone (decision_of s (Some m) (Deliver i)) (λ (p : Plan). t.party ≡ p.party → decision_of t (Some n) (Deliver j) ≡ Ok (used_up t n))
    go (tells p q a b) =
        rw (tell_delivered s m p i a, tell_delivered t n q j b)
        (used_again s t m n o.op (TellSpent k) (spent_at s.party.work s m p) (spent_at t.party.work t n q) (tell_at s.party.work s m p) (tell_at t.party.work t n q)
        (tell_left p s.party.work refl) (λ u. tell_used q t.party.work (rw o.replica u)))
    go (kepts a b) =
        rw (kept_delivered s m i a, kept_delivered t n j b)
        (used_again s t m n o.op (KeptSpent k) false false (kept_at s.party.work s m) (kept_at t.party.work t n)
        (kept_left s.party.work refl) (λ u. kept_used t.party.work (rw o.replica u)))
