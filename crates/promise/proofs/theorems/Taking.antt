-- A replica is given a keep: the move that raises its pair.
use Rattle.std.specs.Prelude.{ℕ, ◌<◌, ◌≡◌, ◌≢◌, get_or, set}
use Rattle.std.proofs.Math.Path.{refl, ap}
use Rattle.std.proofs.Common.{sym, ◌∙◌, arith, get_or-set_same, get_or-set_other}
use Rattle.quorum.specs.Sets.{members_of}
use Rattle.law.specs.Order.{In}
use Rattle.method.specs.declared.Body.TheVariants.{Keep, Kept}
use Rattle.method.specs.declared.Message.{Message}
use Rattle.rack.specs.declared.Rack.{Rack}
use Rattle.stamps.specs.declared.Pair.{Pair}
use Rattle.stamps.specs.Stamp.{fresh_pair, raised}
use Rattle.method.specs.declared.Event.{Event}
use Rattle.method.specs.declared.Note.TheVariants.{Nothing}
use Rattle.method.specs.declared.Plan.{Plan}
use Rattle.rack.specs.Places.{pair_place}
use Rattle.rack.specs.Sound.{body_fits, quorums_of}
use Rattle.rack.specs.laws.SoundLaws.{Sized}
use Rattle.rack.specs.laws.Decided.{Looked}
use Rattle.rack.specs.Looking.{looked_held, looked_client, looked_place, looked_pair, sight}
use Rattle.protocol.specs.View.{Setting, Pair as Seen, View}
use Rattle.protocol.specs.Message.{Keep as Chose}
use Rattle.protocol.specs.Move.{Move, take, put, newer_of, stored, then}
use Rattle.protocol.specs.Invariant.{Invariant}
use Rattle.protocol.specs.laws.Place.{put_one}
use Rattle.protocol.proofs.theorems.Steps.{step}
use Rattle.protocol.proofs.theorems.Stays.{kept_true}
use Rattle.protocol.proofs.theorems.Atomic.{reached_keeps}
use Rattle.promise.proofs.theorems.SettingLaws.{fits_ranked, only}
use Rattle.promise.specs.Setting.{setting_of}
use Rattle.method.specs.Plan.{answered}
use Rattle.promise.specs.Tie.{pair_of}
use Rattle.promise.proofs.theorems.Tied.{Tie}
use Rattle.promise.proofs.theorems.Pairs.{raised_seen}
use Rattle.promise.specs.laws.Record.{none_added, record_same}
use Rattle.promise.specs.laws.Wire.{means_stays}
use Rattle.promise.proofs.theorems.Next.{Sends, says_sends, Next}
use Rattle.promise.proofs.theorems.Slot.{Got, Found, found}

module _ (r : Rack) (e : Event) (m : Message) (given : Pair) (v : View) (name : ℕ → ℕ → ℕ) (t : Tie r v name) (l : Looked r e) (z : Sized r.settings)
    (got : Got (looked_client r e) (looked_held r e) m (Keep given)) where
  -- the setting of this rack: its sets of replicas, its majorities and its stamps
  abbrev S : Setting
  S = setting_of (quorums_of r.settings)

  -- the client that the event is about
  abbrev client : ℕ
  client = looked_client r e

  -- the plan of its delivery
  abbrev pub take_plan : Plan
  take_plan = answered (sight r e) (raised (looked_pair r e) given) m Kept

  -- the operation of the keep
  abbrev o : ℕ
  o = name client m.op

  -- the replica that is given the keep
  abbrev k : ℕ
  k = m.replica.0

  -- the cell that the keep is about
  abbrev x : ℕ
  x = m.cell.0

  f : Found r e v name m (Keep given)
  f = found r e v name m (Keep given) t l got

  legal : Chose v o x (pair_of given)
  legal = f.means

  inv : Invariant S v
  inv = reached_keeps S t.reached

  -- the replica's pair for that cell, raised by the one given
  abbrev moved : Seen
  moved = newer_of (v.pair k x) (pair_of given)

  -- the view after the replica has that pair
  abbrev pub taken : View
  taken = stored v k x moved

  -- the view's pair is the rack's
  moved_is : moved ≡ pair_of take_plan.pair
  unfolding body_fits
  moved_is =
      ap (λ (q : Seen). newer_of q (pair_of given)) f.pair
      ∙ raised_seen (looked_pair r e) given take_plan.pair (fits_ranked r.settings z (looked_pair r e) l.pair)
      (fits_ranked r.settings z given f.fits) refl

  -- the pair of replica j for cell y after the event
  abbrev after : ℕ → ℕ → Seen
  after j y = pair_of (get_or (set r.pairs (looked_place r e) take_plan.pair) (pair_place j y) fresh_pair)

  here : moved ≡ after k x
  here =
      moved_is
      ∙ sym (ap (λ (i : ℕ). pair_of (get_or (set r.pairs (looked_place r e) take_plan.pair) i fresh_pair)) (sym f.place)
      ∙ ap pair_of (get_or-set_same r.pairs (looked_place r e) take_plan.pair fresh_pair (omega (arith, l.place, t.long.pairs))))

  else : (j y : ℕ) → pair_place j y ≢ pair_place k x → j < r.settings.replicas → y < r.settings.cells → v.pair j y ≡ after j y
  else j y d hj hy =
      t.pairs j y hj hy ∙ ap pair_of (sym (get_or-set_other r.pairs (looked_place r e) (pair_place j y) take_plan.pair fresh_pair (λ q. d (q ∙ f.place))))

  pairs : (j y : ℕ) → j < r.settings.replicas → y < r.settings.cells → taken.pair j y ≡ after j y
  pairs j y =
      put_one (λ q g. q < r.settings.replicas → y < r.settings.cells → g y ≡ after q y) v.pair k (put (v.pair k) x moved)
      (put_one (λ q s. k < r.settings.replicas → q < r.settings.cells → s ≡ after k q) (v.pair k) x moved (λ a b. here)
      (λ q d a b. else k q (λ i. d (omega arith)) a b) y)
      (λ q d a b. else q y (λ i. d (omega (arith, f.named.cell, z.cells))) a b) j

  kept : (j : ℕ) → In j (members_of r.settings.replicas take_plan.to) → Sends S taken name client take_plan j
  kept j i =
      let q : j ≡ k = only r.settings.replicas take_plan.to k j refl i in
      says_sends S taken name client take_plan j x m.op Kept (record { client = got.client; cell = refl; op = refl; body = refl }) (omega (arith, f.op))
      (rw q (kept_true v o k x (pair_of given) legal))

  pub takes_next : Next r e take_plan v name taken name
  takes_next =
      let move : Move = take o k x (pair_of given) in
      record {
        reached = then t.reached move legal;
        now = omega (arith, none_added Nothing refl, t.now);
        op = omega arith;
        old = λ n b. means_stays S v taken inv (step S v inv move legal).later (name n.client.0 n.op) n.replica.0 n.cell.0 n.body;
        new = kept;
        this = t.clients client l.client;
        others = λ c a d. t.clients c a;
        pairs = pairs;
        book = rw (record_same r e take_plan refl) t.book;
      }
