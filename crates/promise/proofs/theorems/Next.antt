-- One event: what the view after it owes, so that the tie stays.
use Rattle.std.specs.Prelude.{ℕ, ◌+◌, ◌≤◌, ◌<◌, ◌≡◌, refl, ◌≢◌, List, get_or, set, length, None, Some, Option}
use Rattle.std.proofs.Common.{ap, ◌∙◌, arith, get_or-set_same, get_or-set_other}
use Rattle.std.proofs.Math.Decide.{ℕ_discrete}
use Rattle.std.proofs.Math.ListN.{length-set}
use Rattle.quorum.specs.Sets.{members_of}
use Rattle.law.specs.Operation.{operations}
use Rattle.law.specs.Order.{In}
use Rattle.method.specs.declared.Body.{Body}
use Rattle.method.specs.declared.Message.{Message}
use Rattle.method.specs.declared.Party.{Party}
use Rattle.rack.specs.declared.Line.{Line}
use Rattle.record.specs.Entry.{client_limit}
use Rattle.rack.specs.declared.Rack.{Rack}
use Rattle.rack.specs.Sound.{quorums_of}
use Rattle.stamps.specs.Stamp.{fresh_pair}
use Rattle.method.specs.declared.Event.{Event}
use Rattle.method.specs.declared.Note.{Note}
use Rattle.method.specs.declared.Note.TheVariants.{Nothing, Asked, Ended}
use Rattle.method.specs.declared.Plan.{Plan}
use Rattle.method.specs.Plan.{message_of}
use Rattle.rack.specs.Places.{idle, party_at, pair_place, held_in, record_of}
use Rattle.rack.specs.Run.{entries_in, recorded, addressed, cleared, applied_of}
use Rattle.rack.specs.Looking.{slot_of}
use Rattle.rack.specs.Looking.{looked_client, looked_party, looked_place}
use Rattle.protocol.specs.View.{Setting, Op, View}
use Rattle.protocol.specs.Move.{Reached}
use Rattle.promise.specs.Setting.{setting_of}
use Rattle.promise.specs.Tie.{pair_of, At, Means, OnWire, Holding, op_of, Book}
use Rattle.promise.proofs.theorems.Tied.{Tie}
use Rattle.promise.specs.laws.Wire.{cleared_all, sent_all, addressed_of}

-- what the plan sends, whoever it goes to: of client c, about cell x, for operation number o, with body b
pub record Says (p : Plan) (c x o : ℕ) (b : Body) : Type 0 where
  pub client : p.message.client.0 ≡ c
  pub cell : p.message.cell.0 ≡ x
  pub op : p.message.op ≡ o
  pub body : p.message.body ≡ b

-- what is sent to replica k: it is the event's client's, of an operation number that this client has had, and it means something true
pub record Sends (S : Setting) (w : View) (name : ℕ → ℕ → ℕ) (c : ℕ) (p : Plan) (k : ℕ) : Type 0 where
  pub client : p.message.client.0 ≡ c
  pub op : p.message.op ≤ p.party.op
  pub means : Means S w (name p.message.client.0 p.message.op) k p.message.cell.0 p.message.body

pub says_sends : (S : Setting) (w : View) (name : ℕ → ℕ → ℕ) (c : ℕ) (p : Plan) (k x o : ℕ) (b : Body) → Says p c x o b → o ≤ p.party.op → Means S w (name c o) k x b
    → Sends S w name c p k
says_sends S w name c p k x o b q h m = record { client = q.client; op = rw q.op h; means = rw (q.client, q.op, q.cell, q.body) m }

-- a client whose work and operation number stay is at what it was at
pub at_still : (ops : ℕ → Op) (name : ℕ → ℕ → ℕ) (c : ℕ) (a b : Party) → b.op ≡ a.op → b.work ≡ a.work
    → At ops c (name c a.op) a.work → At ops c (name c b.op) b.work
at_still ops name c a b eo ew h = rw (eo, ew) h

-- The event e, done as planned on a rack that the view v stands for, leaves the view w.
pub record Next (r : Rack) (e : Event) (p : Plan) (v : View) (name : ℕ → ℕ → ℕ) (w : View) (name' : ℕ → ℕ → ℕ) : Type 0 where
  pub reached : Reached (setting_of (quorums_of r.settings)) w
  pub now : w.now ≡ r.count + entries_in p.note
  -- operation numbers don't fall
  pub op : (looked_party r e).op ≤ p.party.op
  -- what is true of the messages on the wire stays true
  pub old : (m : Message) → m.op ≤ op_of r m.client.0
      → Means (setting_of (quorums_of r.settings)) v (name m.client.0 m.op) m.replica.0 m.cell.0 m.body
      → Means (setting_of (quorums_of r.settings)) w (name' m.client.0 m.op) m.replica.0 m.cell.0 m.body
  -- what is sent is true
  pub new : (k : ℕ) → In k (members_of r.settings.replicas p.to) → Sends (setting_of (quorums_of r.settings)) w name' (looked_client r e) p k
  -- the event's client, and the others
  pub this : At w.ops (looked_client r e) (name' (looked_client r e) p.party.op) p.party.work
  pub others : (c : ℕ) → c < r.settings.clients → c ≢ looked_client r e → At w.ops c (name' c (op_of r c)) (party_at r c).work
  pub pairs : (k x : ℕ) → k < r.settings.replicas → x < r.settings.cells
      → w.pair k x ≡ pair_of (get_or (set r.pairs (looked_place r e) p.pair) (pair_place k x) fresh_pair)
  pub book : Book w.ops (operations (record_of (applied_of r e p)))

-- ---- the tie stays

slot_map : (P Q : Message → Type 0) → ((m : Message) → P m → Q m) → (h : Option Message) → Holding P h → Holding Q h
slot_map P Q f None t = t
slot_map P Q f (Some m) t = f m t

recorded_long : (n : Note) (count : ℕ) (lines : List Line) → length (recorded n count lines) ≡ length lines
unfolding recorded
recorded_long Nothing count lines = refl
recorded_long (Asked x) count lines = length-set lines count (record { entry = x })
recorded_long (Ended x) count lines = length-set lines count (record { entry = x })

module _ (r : Rack) (e : Event) (p : Plan) (v : View) (name : ℕ → ℕ → ℕ) (t : Tie r v name) (there : looked_client r e < client_limit)
    (w : View) (name' : ℕ → ℕ → ℕ) (n : Next r e p v name w name') where
  -- the setting of this rack: its sets of replicas, its majorities and its stamps
  abbrev S : Setting
  S = setting_of (quorums_of r.settings)

  -- the client that the event is about
  abbrev client : ℕ
  client = looked_client r e

  -- a client after the event
  abbrev party_after : ℕ → Party
  party_after c = get_or (set r.parties client p.party) c idle

  this_party : party_after client ≡ p.party
  this_party = get_or-set_same r.parties client p.party idle (omega (arith, t.long.parties))

  other_party : (c : ℕ) → c ≢ client → party_after c ≡ party_at r c
  other_party c d = get_or-set_other r.parties client c p.party idle d

  rises : (c : ℕ) → Dec (c ≡ client) → op_of r c ≤ (party_after c).op
  rises c (yes q) = let a = ap (λ (x : Party). x.op) this_party in let h = n.op in rw q (omega arith)
  rises c (no q) = let a = ap (λ (x : Party). x.op) (other_party c q) in omega arith

  stays : (c : ℕ) → c < r.settings.clients → Dec (c ≡ client) → At w.ops c (name' c (party_after c).op) (party_after c).work
  stays c h (yes q) = rw (q, this_party) n.this
  stays c h (no q) = rw (other_party c q) (n.others c h q)

  -- true of a message after the event
  abbrev True : Message → Type 0
  True = OnWire S w name' (λ c. (party_after c).op)

  old_true : (m : Message) → OnWire S v name (op_of r) m → True m
  old_true m (h, k) = (omega (arith, rises m.client.0 (ℕ_discrete m.client.0 client)), n.old m h k)

  new_true : (k : ℕ) → In k (members_of r.settings.replicas p.to)
      → True (message_of p.message.client (record { 0 = k }) p.message.cell p.message.op p.message.body)
  new_true k i =
      let s = n.new k i in
      let a : (party_after p.message.client.0).op ≡ p.party.op = ap (λ (c : ℕ). (party_after c).op) s.client ∙ ap (λ (x : Party). x.op) this_party in
      (omega (arith, s.op), s.means)

  sent_true : (m : Message) → In m (addressed p.message (members_of r.settings.replicas p.to)) → True m
  sent_true m i = let a = addressed_of p.message (members_of r.settings.replicas p.to) m i in rw a.1.1 (new_true a.0 a.1.0)

  pub tie_next : Tie (applied_of r e p) w name'
  unfolding applied_of
  tie_next =
      record {
        long = record {
          parties = length-set r.parties client p.party ∙ t.long.parties;
          pairs = length-set r.pairs (looked_place r e) p.pair ∙ t.long.pairs;
          lines = recorded_long p.note r.count r.lines ∙ t.long.lines;
        };
        reached = n.reached;
        now = n.now;
        clients = λ c h. stays c h (ℕ_discrete c client);
        pairs = n.pairs;
        wire = sent_all True (addressed p.message (members_of r.settings.replicas p.to)) (cleared p.clear (slot_of e) r.wire) sent_true
            (cleared_all True p.clear (slot_of e) r.wire (λ i. slot_map (OnWire S v name (op_of r)) True old_true (held_in r.wire i) (t.wire i)));
        book = n.book;
      }
