-- A client counts a tell: its operation hears it, and with enough told it chooses its pair.
use Rattle.std.specs.Prelude.{ℕ, ◌≡◌, refl, true, Some, None, Option}
use Rattle.std.proofs.Common.{sym, ap, ◌∙◌, subst, arith}
use Rattle.quorum.specs.Sets.{asks_enough, every_replica, members_of}
use Rattle.law.specs.Order.{In}
use Rattle.stamps.specs.declared.Pair.{Pair}
use Rattle.stamps.specs.StampOrder.{Ranked}
use Rattle.method.specs.declared.Body.TheVariants.{Tell, Keep}
use Rattle.method.specs.declared.Message.{Message}
use Rattle.method.specs.declared.Phase.{Phase}
use Rattle.method.specs.declared.Phase.TheVariants.{Asking}
use Rattle.method.specs.declared.Operation.{Operation}
use Rattle.method.specs.declared.Event.{Event}
use Rattle.method.specs.declared.Note.TheVariants.{Nothing}
use Rattle.method.specs.declared.Plan.{Plan}
use Rattle.method.specs.Plan.{to_replicas, active_party, planned, asking, keeping}
use Rattle.method.specs.Method.{Chosen, Heard, heard_set, heard_pair}
use Rattle.rack.specs.declared.Settings.{Settings}
use Rattle.rack.specs.declared.Rack.{Rack}
use Rattle.rack.specs.Sound.{body_fits, work_fits, quorums_of}
use Rattle.rack.specs.laws.SoundLaws.{Sized, HoldingFits, PhaseFits, Opened, opened}
use Rattle.rack.specs.laws.Decided.{Looked}
use Rattle.rack.specs.Looking.{looked_held, looked_client, sight}
use Rattle.protocol.specs.View.{Setting, Op, View}
use Rattle.protocol.specs.Message.{Tell as Told, Keep as Chose}
use Rattle.protocol.specs.Move.{hear, choose, heard, keeping as chose, changed}
use Rattle.promise.proofs.theorems.SettingLaws.{fits_ranked, ask_enough}
use Rattle.promise.specs.Setting.{setting_of}
use Rattle.promise.specs.Tie.{pair_of, held_in, open_with, open_phase, Stands, At, op_of}
use Rattle.promise.proofs.theorems.Tied.{Tie}
use Rattle.promise.proofs.theorems.Pairs.{HeldRanked, holds_seen, holds_rank, chosen_seen}
use Rattle.promise.specs.laws.Record.{none_added}
use Rattle.promise.specs.laws.Clients.{stands_on}
use Rattle.promise.proofs.theorems.Next.{Sends, says_sends, Next}
use Rattle.promise.proofs.theorems.Slot.{Found, found}
use Rattle.promise.specs.laws.Moves.{Moved, moved, moved_on}
use Rattle.promise.proofs.theorems.Advance.{advance, book_on, no_note, sends_none}

-- what fits a rack has a rank that a client has
held_ranked : (z : Settings) → Sized z → (set : ℕ) (held : Option Pair) → HoldingFits z set held → HeldRanked set held
held_ranked z n set None h = h
held_ranked z n set (Some p) h = (h.0, fits_ranked z n p h.1)

module _ (r : Rack) (e : Event) (m : Message) (v : View) (name : ℕ → ℕ → ℕ) (t : Tie r v name) (l : Looked r e) (z : Sized r.settings)
    (here : looked_held r e ≡ Some m) (own : m.client.0 ≡ looked_client r e) (h : Heard (sight r e) m) where
  -- the setting of this rack: its sets of replicas, its quorums and its stamps
  abbrev S : Setting
  S = setting_of (quorums_of r.settings)

  -- the client that the event is about
  abbrev client : ℕ
  client = looked_client r e

  -- the client's present operation
  abbrev o : ℕ
  o = name client (op_of r client)

  -- what it has open
  abbrev x : Operation
  x = h.operation

  -- the operation before the tell
  abbrev before : Op
  before = open_with 1 o client x.cell x.goal x.set (held_in h.held)

  -- the operation after the tell: this replica is in its set, and it holds the pair that is then held
  abbrev told : Op
  told = open_with 1 o client x.cell x.goal (heard_set h) (pair_of (heard_pair h))

  stood : Stands v.ops client o before
  stood =
      subst (λ (ph : Phase). Stands v.ops client o (open_phase ph o client x)) h.phase (subst (At v.ops client o) h.before (t.clients client l.client))

  fits : Opened r.settings x
  fits = opened r.settings x (subst (λ (w : Option Operation). work_fits r.settings w ≡ true) h.before l.work)

  held_rank : HeldRanked x.set h.held
  held_rank =
      let ph : PhaseFits r.settings x.set (Asking h.held) = subst (PhaseFits r.settings x.set) h.phase fits.phase in
      held_ranked r.settings z x.set h.held ph.0

  f : Found r e v name m (Tell h.told)
  f = found r e v name m (Tell h.told) t l (record { here = here; client = own; body = h.body })

  told_rank : Ranked h.told.stamp
  unfolding body_fits
  told_rank = fits_ranked r.settings z h.told f.fits

  means : Told S v o m.replica.0 (pair_of h.told)
  means = subst (λ (i : ℕ). Told S v (name client i) m.replica.0 (pair_of h.told)) (sym h.op) f.means

  -- ---- the tell is counted

  -- the view after the operation has counted the tell
  abbrev pub heard_view : View
  heard_view = changed v o (heard S (v.ops o) m.replica.0 (pair_of h.told)) v.now

  hearing : Moved S v heard_view o told v.now
  hearing =
      moved S v t.reached (hear o m.replica.0 (pair_of h.told)) (rw stood.0 refl, means) o _ told v.now refl
      (ap (λ (a : Op). heard S a m.replica.0 (pair_of h.told)) stood.0
      ∙ ap (open_with 1 o client x.cell x.goal (heard_set h)) (holds_seen o client x.cell x.goal x.set h.held h.told held_rank told_rank))

  -- ---- the ask phase goes on

  -- the plan of the tell
  abbrev pub hear_plan : Plan
  hear_plan = planned (sight r e) (active_party (op_of r client) (Some (asking x (heard_set h) (heard_pair h)))) true Nothing m 0

  pub hears_next : Next r e hear_plan v name heard_view name
  hears_next =
      advance r e hear_plan v name t heard_view before told v.now stood.0 hearing refl refl refl refl (omega (arith, none_added Nothing refl, t.now))
      (stands_on v.ops heard_view.ops o hearing.other client told hearing.here stood.1)
      (no_note r e hear_plan v name t heard_view.ops refl
      (book_on r e hear_plan v name t heard_view before told v.now stood.0 hearing (omega arith) (omega arith) refl))
      (sends_none r e hear_plan v name t heard_view refl)

  -- ---- enough have told, and it ends

  module _ (enough : asks_enough (quorums_of r.settings) (heard_set h) ≡ true) (chosen : Pair) (choice : Chosen x.goal m.client.0 (heard_pair h) chosen) where
    -- the view after the operation has then chosen the pair that it sends to be kept
    abbrev pub chose_view : View
    chose_view = changed heard_view o (chose S (heard_view.ops o)) v.now

    -- the operation then
    abbrev kept : Op
    kept = open_with 2 o client x.cell x.goal 0 (pair_of chosen)

    are_enough : S.AskEnough (heard_view.ops o).set
    are_enough =
        subst S.AskEnough (sym (ap (λ (a : Op). a.set) hearing.here))
        (ask_enough (quorums_of r.settings) x.set m.replica.0 fits.set f.named.replica enough)

    choosing : Moved S v chose_view o kept v.now
    choosing =
        moved_on S v heard_view chose_view o told kept v.now v.now hearing
        (moved S heard_view hearing.reached (choose o) (ap (λ (a : Op). a.phase) hearing.here, are_enough) o _ kept v.now refl
        (ap (chose S) hearing.here
        ∙ ap (open_with 2 o client x.cell x.goal 0)
        (chosen_seen (quorums_of r.settings) o client x.cell x.goal (heard_set h) (heard_pair h) chosen
        (holds_rank x.set h.held h.told held_rank told_rank) (subst (λ (c : ℕ). Chosen x.goal c (heard_pair h) chosen) own choice))))

    -- the plan of the tell
    abbrev pub choose_plan : Plan
    choose_plan =
        planned (sight r e) (active_party (op_of r client) (Some (keeping x 0 chosen))) true Nothing
        (to_replicas m.client x.cell (op_of r client) (Keep chosen)) (every_replica r.settings.replicas)

    keep_true : Chose chose_view o x.cell.0 (pair_of chosen)
    keep_true = let a : chose_view.ops o ≡ kept = choosing.here in record { chosen = rw a (omega arith); cell = rw a refl; held = rw a refl }

    sends : (k : ℕ) → In k (members_of r.settings.replicas choose_plan.to) → Sends S chose_view name client choose_plan k
    sends k i =
        says_sends S chose_view name client choose_plan k x.cell.0 (op_of r client) (Keep chosen) (record { client = own; cell = refl; op = refl; body = refl })
        (omega arith) keep_true

    pub chooses_next : Next r e choose_plan v name chose_view name
    chooses_next =
        advance r e choose_plan v name t chose_view before kept v.now stood.0 choosing refl refl refl refl (omega (arith, none_added Nothing refl, t.now))
        (stands_on v.ops chose_view.ops o choosing.other client kept choosing.here stood.1)
        (no_note r e choose_plan v name t chose_view.ops refl
        (book_on r e choose_plan v name t chose_view before kept v.now stood.0 choosing (omega arith) (omega arith) refl))
        sends
