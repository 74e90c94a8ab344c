-- The present operation of the event's client moves on: all others stay, and the tie with them.
use Rattle.std.specs.Prelude.{ℕ, ◌+◌, ◌≤◌, ◌≡◌}
use Rattle.std.proofs.Common.{sym, ap, ◌∙◌, subst, arith}
use Rattle.quorum.specs.Sets.{members_of}
use Rattle.law.specs.Operation.{operations}
use Rattle.law.specs.Order.{In}
use Rattle.rack.specs.declared.Rack.{Rack}
use Rattle.rack.specs.Sound.{quorums_of}
use Rattle.method.specs.declared.Event.{Event}
use Rattle.method.specs.declared.Note.TheVariants.{Nothing}
use Rattle.method.specs.declared.Plan.{Plan}
use Rattle.rack.specs.Places.{party_at, record_of}
use Rattle.rack.specs.Run.{entries_in, applied_of}
use Rattle.rack.specs.Looking.{looked_client, looked_pair}
use Rattle.protocol.specs.View.{Setting, Op, View}
use Rattle.promise.specs.Setting.{setting_of}
use Rattle.promise.proofs.theorems.SettingLaws.{nobody}
use Rattle.promise.specs.Tie.{At, op_of, shown, Book}
use Rattle.promise.proofs.theorems.Tied.{Tie}
use Rattle.promise.specs.laws.Record.{record_same, book_same}
use Rattle.promise.specs.laws.Clients.{at_other}
use Rattle.promise.proofs.theorems.Next.{Sends, Next}
use Rattle.promise.proofs.theorems.Slot.{pairs_same}
use Rattle.promise.specs.laws.Moves.{Moved}

module _ (r : Rack) (e : Event) (p : Plan) (v : View) (name : ℕ → ℕ → ℕ) (t : Tie r v name) where
  -- the setting of this rack: its sets of replicas, its majorities and its stamps
  abbrev S : Setting
  S = setting_of (quorums_of r.settings)

  -- the client that the event is about
  abbrev client : ℕ
  client = looked_client r e

  -- the client's present operation
  abbrev o : ℕ
  o = name client (op_of r client)

  -- it was x and is y
  module _ (w : View) (x y : Op) (time : ℕ) (was : v.ops o ≡ x) (m : Moved S v w o y time) where
    pub advance : x.call.client ≡ client → y.call.client ≡ client → p.party.op ≡ op_of r client → p.pair ≡ looked_pair r e → time ≡ r.count + entries_in p.note
        → At w.ops client o p.party.work → Book w.ops (operations (record_of (applied_of r e p)))
        → ((k : ℕ) → In k (members_of r.settings.replicas p.to) → Sends S w name client p k) → Next r e p v name w name
    advance cx cy eo ep et at book new =
        record {
          reached = m.reached;
          now = m.now ∙ et;
          op = omega (arith, eo);
          old = λ n b. m.stays (name n.client.0 n.op) n.replica.0 n.cell.0 n.body;
          new = new;
          this = subst (λ (i : ℕ). At w.ops client (name client i) p.party.work) (sym eo) at;
          others = λ c h d.
              at_other v.ops w.ops o m.other client c (ap (λ (a : Op). a.call.client) m.here ∙ cy) (λ b. ap (λ (a : Op). a.call.client) was ∙ cx) d
              (name c (op_of r c)) (party_at r c).work (t.clients c h);
          pairs = λ k a hk ha. m.pair k a ∙ pairs_same r e p v name t ep k a hk ha;
          book = book;
        }

    -- the record shows the same
    pub book_on : 1 ≤ x.phase → 1 ≤ y.phase → shown o y ≡ shown o x → Book w.ops (operations (record_of r))
    book_on hx hy q =
        book_same v.ops w.ops o m.other (operations (record_of r)) t.book (rw was hx) (rw m.here hy)
        (ap (shown o) m.here ∙ (q ∙ ap (shown o) (sym was)))

  pub no_note : (ops : ℕ → Op) → p.note ≡ Nothing → Book ops (operations (record_of r)) → Book ops (operations (record_of (applied_of r e p)))
  no_note ops q = subst (λ es. Book ops (operations es)) (sym (record_same r e p q))

  pub sends_none : (w : View) → p.to ≡ 0 → (k : ℕ) → In k (members_of r.settings.replicas p.to) → Sends S w name client p k
  sends_none w q k i = absurd (nobody r.settings.replicas p.to k q i)
