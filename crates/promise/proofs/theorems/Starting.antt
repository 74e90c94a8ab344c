-- A client starts an operation: it gets the number of its start entry.
use Rattle.std.specs.Prelude.{ℕ, zero, suc, ◌+◌, ◌≤◌, ◌<◌, ◌≡◌, refl, ◌≢◌, false, length, None, Some}
use Rattle.std.proofs.Common.{sym, ap, ◌∙◌, subst, arith}
use Rattle.record.specs.declared.Client.{Client}
use Rattle.record.specs.declared.Cell.{Cell}
use Rattle.record.specs.declared.Entry.{Entry}
use Rattle.record.specs.Record.{entry_limit}
use Rattle.quorum.specs.Sets.{members_of, every_replica}
use Rattle.law.specs.Operation.{note, operations}
use Rattle.law.specs.Order.{In}
use Rattle.law.proofs.theorems.Operations.{numbered}
use Rattle.method.specs.declared.Body.TheVariants.{Ask}
use Rattle.method.specs.declared.Message.{Message}
use Rattle.rack.specs.declared.Rack.{Rack}
use Rattle.rack.specs.Sound.{quorums_of}
use Rattle.method.specs.declared.Event.{Event}
use Rattle.method.specs.declared.Goal.{Goal}
use Rattle.method.specs.declared.Note.TheVariants.{Asked}
use Rattle.method.specs.declared.Plan.{Plan}
use Rattle.rack.specs.Places.{party_at, record_of}
use Rattle.rack.specs.Run.{applied_of}
use Rattle.rack.specs.laws.SoundLaws.{Sized}
use Rattle.rack.specs.laws.Decided.{Looked}
use Rattle.rack.specs.Looking.{looked_client, sight}
use Rattle.protocol.specs.View.{Setting, Op, View}
use Rattle.protocol.specs.Move.{start, changed}
use Rattle.promise.proofs.theorems.SettingLaws.{client_rank}
use Rattle.promise.specs.Setting.{setting_of}
use Rattle.method.specs.Plan.{to_replicas, active_party, planned, asked}
use Rattle.method.specs.Holding.{first_entry}
use Rattle.promise.specs.Tie.{writes, value_of, open_at, Past, At, Means, op_of, Book}
use Rattle.promise.proofs.theorems.Tied.{Tie}
use Rattle.promise.specs.laws.Record.{asked_added, record_length, record_asked, operations_after, begun_below, book_start}
use Rattle.promise.specs.laws.Clients.{at_other, stands_on}
use Rattle.promise.specs.laws.Wire.{named, named_here, named_else}
use Rattle.promise.proofs.theorems.Next.{Sends, says_sends, Next}
use Rattle.promise.proofs.theorems.Slot.{pairs_same}
use Rattle.promise.specs.laws.Moves.{Moved, moved}

module _ (r : Rack) (e : Event) (cell : Cell) (goal : Goal) (v : View) (name : ℕ → ℕ → ℕ) (t : Tie r v name) (l : Looked r e) (z : Sized r.settings)
    (room : r.count < entry_limit) (before : (party_at r (looked_client r e)).work ≡ None) where
  -- the setting of this rack: its sets of replicas, its majorities and its stamps
  abbrev S : Setting
  S = setting_of (quorums_of r.settings)

  -- the client that the event is about
  abbrev client : ℕ
  client = looked_client r e

  -- the number of its entry
  abbrev o : ℕ
  o = v.now

  -- the client's operation number
  abbrev k : ℕ
  k = op_of r client + 1

  -- the operation that starts: it asks, its set is empty and it holds nothing
  abbrev new : Op
  new = open_at o client (asked cell goal)

  -- the client, as messages and entries name it
  abbrev named_client : Client
  named_client = record { 0 = client }

  -- the entry that the record gets
  abbrev entry : Entry
  entry = first_entry goal named_client cell

  -- the plan of the start
  abbrev pub start_plan : Plan
  start_plan = planned (sight r e) (active_party k (Some (asked cell goal))) false (Asked entry) (to_replicas named_client cell k Ask) (every_replica r.settings.replicas)

  -- the view after the start: the record has one entry more
  abbrev pub started_view : View
  started_view = changed v o new (suc o)

  -- the client's new operation number names the operation that starts; all other names stay
  abbrev pub started_name : ℕ → ℕ → ℕ
  started_name = named name client k o

  -- ---- the move is legal

  entries : length (record_of r) ≡ o
  entries = record_length r (omega (arith, room, t.long.lines)) ∙ sym t.now

  unused : (v.ops o).phase ≡ 0
  unused = go (v.ops o).phase refl
    where
      go : (n : ℕ) → (v.ops o).phase ≡ n → n ≡ 0
      go zero i = refl
      go (suc n) i = absurd (omega (arith, begun_below v.ops (record_of r) t.book o (omega arith), entries))

  free : (i : ℕ) → Past v.ops client i
  free = subst (At v.ops client (name client (op_of r client))) before (t.clients client l.client)

  starting : Moved S v started_view o new (suc o)
  starting =
      moved S v t.reached (start o client cell.0 (writes goal) (value_of goal)) (unused, (client_rank r.settings z client l.client, free)) o _ new
      (suc o) refl refl

  -- ---- the messages

  old : (m : Message) → m.op ≤ op_of r m.client.0 → Means S v (name m.client.0 m.op) m.replica.0 m.cell.0 m.body
      → Means S started_view (started_name m.client.0 m.op) m.replica.0 m.cell.0 m.body
  old m h a =
      subst (λ (i : ℕ). Means S started_view i m.replica.0 m.cell.0 m.body)
      (sym (named_else name client k o m.client.0 m.op (λ c d. let b = ap (op_of r) c in omega arith)))
      (starting.stays (name m.client.0 m.op) m.replica.0 m.cell.0 m.body a)

  asks : (j : ℕ) → In j (members_of r.settings.replicas start_plan.to) → Sends S started_view started_name client start_plan j
  asks j i =
      let a : started_view.ops o ≡ new = starting.here in
      let b : Means S started_view o j cell.0 Ask = (rw a (omega arith), rw a refl) in
      says_sends S started_view started_name client start_plan j cell.0 k Ask (record { client = refl; cell = refl; op = refl; body = refl }) (omega arith)
      (subst (λ (n : ℕ). Means S started_view n j cell.0 Ask) (sym (named_here name client k o)) b)

  -- ---- the clients

  this : At started_view.ops client (started_name client k) (Some (asked cell goal))
  this =
      subst (λ (i : ℕ). At started_view.ops client i (Some (asked cell goal))) (sym (named_here name client k o))
      (stands_on v.ops started_view.ops o starting.other client new starting.here (λ i d. free i))

  others : (c : ℕ) → c < r.settings.clients → c ≢ client → At started_view.ops c (started_name c (op_of r c)) (party_at r c).work
  others c h d =
      subst (λ (i : ℕ). At started_view.ops c i (party_at r c).work) (sym (named_else name client k o c (op_of r c) (λ i. absurd (d i))))
      (at_other v.ops started_view.ops o starting.other client c (ap (λ (a : Op). a.call.client) starting.here) (λ b. absurd (omega (arith, unused))) d
      (name c (op_of r c)) (party_at r c).work (t.clients c h))

  -- ---- the record

  after : operations (record_of (applied_of r e start_plan)) ≡ note o entry (operations (record_of r))
  after = operations_after (record_of r) (record_of (applied_of r e start_plan)) entry o (record_asked r e start_plan entry (omega (arith, room, t.long.lines)) refl) entries

  shows : Book started_view.ops (operations (record_of (applied_of r e start_plan)))
  shows =
      subst (Book started_view.ops) (sym after)
      (book_start v.ops started_view.ops o starting.other (operations (record_of r)) t.book client cell goal starting.here
      (λ x m. omega (arith, ((numbered (record_of r)).timed x m).below, entries)))

  pub starts_next : Next r e start_plan v name started_view started_name
  starts_next =
      record {
        reached = starting.reached;
        now = omega (arith, asked_added (Asked entry) entry refl, t.now);
        op = omega arith;
        old = old;
        new = asks;
        this = this;
        others = others;
        pairs = pairs_same r e start_plan v name t refl;
        book = shows;
      }
