-- A client counts a kept: its operation counts it, and with enough kept it ends.
use Rattle.std.specs.Prelude.{ℕ, suc, ◌<◌, ◌≡◌, refl, ◌≢◌, true, Some, None, Option}
use Rattle.std.proofs.Common.{sym, ap, ◌∙◌, subst, arith}
use Rattle.record.specs.declared.Entry.{Entry}
use Rattle.record.specs.Record.{entry_limit}
use Rattle.quorum.specs.Sets.{keeps_enough}
use Rattle.law.specs.Operation.{note, operations}
use Rattle.method.specs.declared.Body.TheVariants.{Kept}
use Rattle.method.specs.declared.Message.{Message}
use Rattle.method.specs.declared.Phase.{Phase}
use Rattle.method.specs.declared.Operation.{Operation}
use Rattle.method.specs.declared.Event.{Event}
use Rattle.method.specs.declared.Note.TheVariants.{Nothing, Ended}
use Rattle.method.specs.declared.Plan.{Plan}
use Rattle.method.specs.Plan.{active_party, planned, keeping}
use Rattle.method.specs.Holding.{last_entry}
use Rattle.method.specs.Method.{Counted, counted_set}
use Rattle.rack.specs.declared.Rack.{Rack}
use Rattle.rack.specs.Places.{record_of}
use Rattle.rack.specs.Sound.{work_fits, quorums_of}
use Rattle.rack.specs.Run.{applied_of}
use Rattle.rack.specs.laws.SoundLaws.{Opened, opened}
use Rattle.rack.specs.laws.Decided.{Looked}
use Rattle.rack.specs.Looking.{looked_held, looked_client, sight}
use Rattle.protocol.specs.View.{Setting, Op, View}
use Rattle.protocol.specs.Message.{Kept as Has}
use Rattle.protocol.specs.Move.{count, finish, counted, ended, changed}
use Rattle.promise.specs.Setting.{setting_of}
use Rattle.promise.proofs.theorems.SettingLaws.{keep_enough}
use Rattle.promise.specs.Tie.{pair_of, open_with, open_phase, Past, Stands, At, op_of, Book}
use Rattle.promise.proofs.theorems.Tied.{Tie}
use Rattle.promise.specs.laws.Record.{none_added, ended_added, record_length, record_ended, operations_after, book_end}
use Rattle.promise.specs.laws.Clients.{stands_on, idle_now}
use Rattle.promise.proofs.theorems.Next.{Next}
use Rattle.promise.proofs.theorems.Slot.{Found, found}
use Rattle.promise.specs.laws.Moves.{Moved, moved, moved_on}
use Rattle.promise.proofs.theorems.Advance.{advance, book_on, no_note, sends_none}

module _ (r : Rack) (e : Event) (m : Message) (v : View) (name : ℕ → ℕ → ℕ) (t : Tie r v name) (l : Looked r e)
    (here : looked_held r e ≡ Some m) (own : m.client.0 ≡ looked_client r e) (h : Counted (sight r e) m) where
  -- the setting of this rack: its sets of replicas, its quorums and its stamps
  abbrev S : Setting
  S = setting_of (quorums_of r.settings)

  -- the client that the event is about
  abbrev client : ℕ
  client = looked_client r e

  -- the client's present operation
  abbrev o : ℕ
  o = name client (op_of r client)

  -- what it has open
  abbrev x : Operation
  x = h.operation

  -- the operation before the kept
  abbrev before : Op
  before = open_with 2 o client x.cell x.goal x.set (pair_of h.held)

  -- the operation after the kept: this replica is in its set
  abbrev kept : Op
  kept = open_with 2 o client x.cell x.goal (counted_set h) (pair_of h.held)

  stood : Stands v.ops client o before
  stood =
      subst (λ (ph : Phase). Stands v.ops client o (open_phase ph o client x)) h.phase (subst (At v.ops client o) h.before (t.clients client l.client))

  fits : Opened r.settings x
  fits = opened r.settings x (subst (λ (w : Option Operation). work_fits r.settings w ≡ true) h.before l.work)

  f : Found r e v name m Kept
  f = found r e v name m Kept t l (record { here = here; client = own; body = h.body })

  means : Has v o m.replica.0
  means = subst (λ (i : ℕ). Has v (name client i) m.replica.0) (sym h.op) f.means

  -- ---- the kept is counted

  -- the view after the operation has counted the kept
  abbrev pub counted_view : View
  counted_view = changed v o (counted S (v.ops o) m.replica.0) v.now

  counting : Moved S v counted_view o kept v.now
  counting =
      moved S v t.reached (count o m.replica.0) (rw stood.0 refl, means) o _ kept v.now refl
      (ap (λ (a : Op). counted S a m.replica.0) stood.0)

  -- ---- the keep phase goes on

  -- the plan of the kept
  abbrev pub count_plan : Plan
  count_plan = planned (sight r e) (active_party (op_of r client) (Some (keeping x (counted_set h) h.held))) true Nothing m 0

  -- the record shows the same after the kept
  book : (p : Plan) → Book counted_view.ops (operations (record_of r))
  book p = book_on r e p v name t counted_view before kept v.now stood.0 counting (omega arith) (omega arith) refl

  pub counts_next : Next r e count_plan v name counted_view name
  counts_next =
      advance r e count_plan v name t counted_view before kept v.now stood.0 counting refl refl refl refl (omega (arith, none_added Nothing refl, t.now))
      (stands_on v.ops counted_view.ops o counting.other client kept counting.here stood.1)
      (no_note r e count_plan v name t counted_view.ops refl (book count_plan))
      (sends_none r e count_plan v name t counted_view refl)

  -- ---- enough have kept, and it ends

  module _ (enough : keeps_enough (quorums_of r.settings) (counted_set h) ≡ true) (room : r.count < entry_limit) where
    -- the view after the operation has then ended, at the place of its end entry
    abbrev pub ended_view : View
    ended_view = changed counted_view o (ended (counted_view.ops o) v.now) (suc v.now)

    -- the operation then
    abbrev over : Op
    over = ended kept v.now

    are_enough : S.KeepEnough (counted_view.ops o).set
    are_enough =
        subst S.KeepEnough (sym (ap (λ (a : Op). a.set) counting.here))
        (keep_enough (quorums_of r.settings) x.set m.replica.0 fits.set f.named.replica enough)

    ending : Moved S counted_view ended_view o over (suc v.now)
    ending =
        moved S counted_view counting.reached (finish o) (ap (λ (a : Op). a.phase) counting.here, are_enough) o _ over (suc v.now) refl
        (ap (λ (a : Op). ended a v.now) counting.here)

    -- what the client began before has ended
    past : (i : ℕ) → i ≢ o → Past counted_view.ops client i
    past = (stands_on v.ops counted_view.ops o counting.other client kept counting.here stood.1).1

    -- the entry that the record gets
    abbrev entry : Entry
    entry = last_entry x.goal m.client h.held

    -- the plan of the kept
    abbrev pub end_plan : Plan
    end_plan = planned (sight r e) (active_party (op_of r client) None) true (Ended entry) m 0

    after : operations (record_of (applied_of r e end_plan)) ≡ note v.now entry (operations (record_of r))
    after =
        operations_after (record_of r) (record_of (applied_of r e end_plan)) entry v.now (record_ended r e end_plan entry (omega (arith, room, t.long.lines)) refl)
        (record_length r (omega (arith, room, t.long.lines)) ∙ sym t.now)

    noted : Book ended_view.ops (note v.now (last_entry x.goal (record { 0 = client }) h.held) (operations (record_of r)))
    noted =
        book_end counted_view.ops ended_view.ops o ending.other (operations (record_of r)) (book end_plan) client v.now x.cell x.goal (counted_set h) h.held
        counting.here ending.here past

    shows : Book ended_view.ops (operations (record_of (applied_of r e end_plan)))
    shows =
        subst (Book ended_view.ops) (sym after)
        (subst (λ (c : ℕ). Book ended_view.ops (note v.now (last_entry x.goal (record { 0 = c }) h.held) (operations (record_of r)))) (sym own) noted)

    pub ends_next : Next r e end_plan v name ended_view name
    ends_next =
        advance r e end_plan v name t ended_view before over (suc v.now) stood.0
        (moved_on S v counted_view ended_view o kept over v.now (suc v.now) counting ending) refl refl refl refl
        (omega (arith, ended_added (Ended entry) entry refl, t.now))
        (idle_now counted_view.ops ended_view.ops o ending.other client (rw ending.here (omega arith)) past)
        shows
        (sends_none r e end_plan v name t ended_view refl)
