-- Events that no move stands for: what loses, copies, sends again, stops, switches or answers an ask leaves the view as it was.
use Rattle.std.specs.Prelude.{ℕ, ◌≡◌, refl, Some}
use Rattle.std.proofs.Common.{ap, ◌∙◌, subst, arith}
use Rattle.record.specs.declared.Client.{Client}
use Rattle.quorum.specs.Sets.{members_of}
use Rattle.law.specs.Order.{In}
use Rattle.method.specs.declared.Body.TheVariants.{Ask, Tell}
use Rattle.method.specs.declared.Message.{Message}
use Rattle.method.specs.declared.Phase.{Phase}
use Rattle.method.specs.declared.Phase.TheVariants.{Asking, Keeping}
use Rattle.method.specs.declared.Operation.{Operation}
use Rattle.method.specs.declared.Event.{Event}
use Rattle.method.specs.declared.Note.TheVariants.{Nothing}
use Rattle.method.specs.declared.Plan.{Plan}
use Rattle.method.specs.Plan.{answered, request}
use Rattle.method.specs.Method.{Copies, Resends}
use Rattle.rack.specs.declared.Rack.{Rack}
use Rattle.rack.specs.Sound.{quorums_of}
use Rattle.rack.specs.laws.Decided.{Looked}
use Rattle.rack.specs.Looking.{looked_held, looked_client, looked_party, looked_pair, sight}
use Rattle.protocol.specs.View.{Setting, View}
use Rattle.protocol.specs.Message.{Tell as Told}
use Rattle.protocol.proofs.theorems.Stays.{tell_true}
use Rattle.protocol.proofs.theorems.Atomic.{reached_keeps}
use Rattle.promise.specs.Setting.{setting_of}
use Rattle.promise.proofs.theorems.SettingLaws.{only, nobody}
use Rattle.promise.specs.Tie.{pair_of, open_phase, Stands, At, Means, op_of}
use Rattle.promise.proofs.theorems.Tied.{Tie}
use Rattle.promise.specs.laws.Record.{none_added, record_same}
use Rattle.promise.proofs.theorems.Next.{Sends, says_sends, at_still, Next}
use Rattle.promise.proofs.theorems.Slot.{Found, found, pairs_same}

module _ (r : Rack) (e : Event) (v : View) (name : ℕ → ℕ → ℕ) (t : Tie r v name) (l : Looked r e) where
  -- the setting of this rack: its sets of replicas, its quorums and its stamps
  abbrev S : Setting
  S = setting_of (quorums_of r.settings)

  -- the client that the event is about
  abbrev client : ℕ
  client = looked_client r e

  -- the client's operation number and work, the pair and the record stay, and what is sent is true
  quiet : (p : Plan) → p.party.op ≡ op_of r client → p.party.work ≡ (looked_party r e).work → p.note ≡ Nothing → p.pair ≡ looked_pair r e
      → ((k : ℕ) → In k (members_of r.settings.replicas p.to) → Sends S v name client p k) → Next r e p v name v name
  quiet p op work note pair new =
      record {
        reached = t.reached;
        now = omega (arith, none_added p.note note, t.now);
        op = omega (arith, op);
        old = λ m h k. k;
        new = new;
        this = at_still v.ops name client (looked_party r e) p.party op work (t.clients client l.client);
        others = λ c h d. t.clients c h;
        pairs = pairs_same r e p v name t pair;
        book = rw (record_same r e p note) t.book;
      }

  -- nothing is sent
  pub rests_next : (p : Plan) → p.party.op ≡ op_of r client → p.party.work ≡ (looked_party r e).work → p.note ≡ Nothing → p.pair ≡ looked_pair r e → p.to ≡ 0
      → Next r e p v name v name
  rests_next p op work note pair to = quiet p op work note pair (λ k i. absurd (nobody r.settings.replicas p.to k to i))

  -- ---- the slot's message once more

  module _ (m : Message) (here : looked_held r e ≡ Some m) (own : m.client.0 ≡ client) where
    pub copies_next : (p : Plan) → Copies (sight r e) m p → Next r e p v name v name
    copies_next p c =
        quiet p (ap (λ (q : Plan). q.party.op) c) (ap (λ (q : Plan). q.party.work) c) (ap (λ (q : Plan). q.note) c) (ap (λ (q : Plan). q.pair) c)
        (λ k i.
        let j : k ≡ m.replica.0 = only r.settings.replicas p.to m.replica.0 k (ap (λ (q : Plan). q.to) c) i in
        let f : Found r e v name m m.body = found r e v name m m.body t l (record { here = here; client = own; body = refl }) in
        let s = ap (λ (q : Plan). q.message) c in
        let o : p.party.op ≡ op_of r client = ap (λ (q : Plan). q.party.op) c in
        says_sends S v name client p k m.cell.0 m.op m.body
        (record { client = rw s own; cell = rw s refl; op = rw s refl; body = rw s refl })
        (omega (arith, f.op))
        (rw j f.means))

    -- a replica that answers an ask tells the pair that the view gives it
    pub tells_next : m.body ≡ Ask → Next r e (answered (sight r e) (looked_pair r e) m (Tell (looked_pair r e))) v name v name
    tells_next b = quiet p refl refl refl refl told
      where
        p : Plan
        p = answered (sight r e) (looked_pair r e) m (Tell (looked_pair r e))

        f : Found r e v name m Ask
        f = found r e v name m Ask t l (record { here = here; client = own; body = b })

        tells : Told S v (name client m.op) m.replica.0 (pair_of (looked_pair r e))
        tells =
            subst (Told S v (name client m.op) m.replica.0) (ap (v.pair m.replica.0) f.means.1 ∙ f.pair)
            (tell_true S v (reached_keeps S t.reached) (name client m.op) m.replica.0 f.means.0)

        told : (k : ℕ) → In k (members_of r.settings.replicas p.to) → Sends S v name client p k
        told k i =
            let j : k ≡ m.replica.0 = only r.settings.replicas p.to m.replica.0 k refl i in
            says_sends S v name client p k m.cell.0 m.op (Tell (looked_pair r e)) (record { client = own; cell = refl; op = refl; body = refl })
            (omega (arith, f.op)) (rw j tells)

  -- ---- the present request once more

  request_means : (o k : ℕ) (x : Operation) (ph : Phase) → Stands v.ops client o (open_phase ph o client x) → Means S v o k x.cell.0 (request ph)
  request_means o k x (Asking held) (a, h) = rw a (omega arith, refl)
  request_means o k x (Keeping held) (a, h) = record { chosen = rw a (omega arith); cell = rw a refl; held = rw a refl }

  pub resends_next : (who : Client) → who.0 ≡ client → (p : Plan) → Resends (sight r e) who p → Next r e p v name v name
  resends_next who own p q =
      let c = q.plan in
      let x : Operation = q.operation in
      let o : p.party.op ≡ op_of r client = ap (λ (a : Plan). a.party.op) c in
      let s = ap (λ (a : Plan). a.message) c in
      quiet p o (ap (λ (a : Plan). a.party.work) c) (ap (λ (a : Plan). a.note) c) (ap (λ (a : Plan). a.pair) c)
      (λ k i. says_sends S v name client p k x.cell.0 (op_of r client) (request x.phase)
      (record { client = rw s own; cell = rw s refl; op = rw s refl; body = rw s refl })
      (omega arith)
      (request_means (name client (op_of r client)) k x x.phase
      (subst (At v.ops client (name client (op_of r client))) q.before (t.clients client l.client))))
