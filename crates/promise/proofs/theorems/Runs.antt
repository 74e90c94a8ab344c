-- Every run from a fresh rack has a view: each event that is done is some legal moves, and the tie stays.
use Rattle.std.specs.Prelude.{ℕ, zero, suc, ◌+◌, ◌≤◌, ◌<◌, ◌≡◌, refl, true, false, List, [], ◌∷◌, get_or, replicate, None, Some, Err, Ok, Option}
use Rattle.std.proofs.Common.{ap, sym, ◌∙◌, subst, arith}
use mathlib.Core.List.Memᴰ.{not-nil as no_mem}
use Rattle.std.proofs.Math.Decide.{dec_lt}
use Rattle.std.proofs.lemmas.List.{length-replicate, get_or-replicate}
use Rattle.std.proofs.Math.ListN.{get_or-eq_default}
use Rattle.record.specs.declared.Client.{Client}
use Rattle.record.specs.declared.Cell.{Cell}
use Rattle.record.specs.declared.Entry.TheVariants.{Done}
use Rattle.record.specs.Entry.{client_limit}
use Rattle.record.specs.Record.{entry_limit}
use Rattle.law.specs.Operation.{operations, notes}
use Rattle.quorum.specs.Sets.{every_replica}
use Rattle.stamps.specs.Stamp.{fresh_pair}
use Rattle.method.specs.declared.Body.TheVariants.{Ask}
use Rattle.method.specs.declared.Message.{Message}
use Rattle.method.specs.declared.Goal.{Goal}
use Rattle.method.specs.declared.Goal.TheVariants.{Read, Write}
use Rattle.method.specs.declared.Event.{Event}
use Rattle.method.specs.declared.Event.TheVariants.{StartRead, StartWrite, Deliver, Lose, Copy, Resend, Stop, Off, On, Unknown}
use Rattle.method.specs.declared.Note.TheVariants.{Nothing, Asked}
use Rattle.method.specs.declared.Plan.{Plan}
use Rattle.method.specs.Decision.{Decision}
use Rattle.method.specs.Plan.{to_replicas, active_party, planned, used_up, asked}
use Rattle.method.specs.Holding.{first_entry}
use Rattle.method.specs.About.{client_in, client_of}
use Rattle.method.specs.Method.{Starts, Delivers, Copies, OfSlot}
use Rattle.method.specs.Method.Delivers.{tells, takes, hears, chooses, counts, ends, spends}
use Rattle.rack.specs.declared.Line.{Line}
use Rattle.rack.specs.declared.Rack.{Rack}
use Rattle.rack.specs.Places.{of_sizes, slot_limit, pair_limit, empty, idle, pair_place, record_of}
use Rattle.rack.specs.Sound.{sound_of}
use Rattle.rack.specs.Run.{fresh_rack, entries_in, applied_of, event_of, turn, run_from, run_of}
use Rattle.rack.specs.Refusals.{decided}
use Rattle.rack.specs.Looking.{looked_held, looked_client, looked_party, looked_pair, sight}
use Rattle.rack.specs.laws.SoundLaws.{Sized, Sound, sound_of_lem}
use Rattle.rack.specs.laws.Decided.{Looked, Decided}
use Rattle.rack.proofs.theorems.Decided.{decided_sound, decided_fits}
use Rattle.runs.specs.laws.Stays.{stays}
use Rattle.protocol.specs.View.{View}
use Rattle.protocol.specs.Move.{fresh, first}
use Rattle.promise.specs.laws.Record.{asked_added, ended_added}
use Rattle.promise.proofs.theorems.Next.{Next, tie_next}
use Rattle.promise.proofs.theorems.Quiet.{rests_next, copies_next, tells_next, resends_next}
use Rattle.promise.proofs.theorems.Taking.{takes_next}
use Rattle.promise.proofs.theorems.Hearing.{hears_next, chooses_next}
use Rattle.promise.proofs.theorems.Counting.{counts_next, ends_next}
use Rattle.promise.proofs.theorems.Starting.{start_plan, starts_next}
use Rattle.promise.specs.Tie.{op_of}
use Rattle.promise.proofs.theorems.Tied.{Tied}

-- ---- an event

-- the view and the names after the event
abbrev Onward : Rack → Event → Plan → View → (ℕ → ℕ → ℕ) → Type 0
Onward r e p v name = (w : View) × ((name' : ℕ → ℕ → ℕ) × Next r e p v name w name')

module _ (r : Rack) (e : Event) (p : Plan) (k : Tied r) (z : Sized r.settings) (c : Decided r e p) (room : r.count + entries_in p.note ≤ entry_limit) where
  -- the view, and its names
  abbrev v : View
  v = k.view

  -- which operation a client's operation number is
  abbrev name : ℕ → ℕ → ℕ
  name = k.name

  -- what is so of another plan that is the same is so of p
  as_planned : (q : Plan) → p ≡ q → Onward r e q v name → Onward r e p v name
  as_planned q s n = subst (λ (x : Plan). Onward r e x v name) (sym s) n

  start_next : (who : Client) (cell : Cell) (goal : Goal) → who.0 ≡ looked_client r e → Starts (sight r e) who cell goal p → Onward r e p v name
  start_next who cell goal own q =
      let place : r.count < entry_limit = omega (arith, room, asked_added p.note _ (ap (λ (x : Plan). x.note) q.plan)) in
      let same : who ≡ record { 0 = looked_client r e } = λ i. record { 0 = own i } in
      as_planned (start_plan r e cell goal v name k.tie c.looked z place q.before)
      (q.plan
      ∙ ap (λ (w : Client). planned (sight r e) (active_party ((looked_party r e).op + 1) (Some (asked cell goal))) false (Asked (first_entry goal w cell))
      (to_replicas w cell ((looked_party r e).op + 1) Ask) (every_replica r.settings.replicas)) same)
      (_, (_, starts_next r e cell goal v name k.tie c.looked z place q.before))

  deliver_next : (m : Message) → looked_held r e ≡ Some m → m.client.0 ≡ looked_client r e → Delivers (sight r e) m p → Onward r e p v name
  deliver_next m here own (tells q) = as_planned _ q.plan (_, (_, tells_next r e v name k.tie c.looked m here own q.body))
  deliver_next m here own (takes q) =
      as_planned _ q.plan (_, (_, takes_next r e m q.given v name k.tie c.looked z (record { here = here; client = own; body = q.body })))
  deliver_next m here own (hears q) = as_planned _ q.plan (_, (_, hears_next r e m v name k.tie c.looked z here own q.heard))
  deliver_next m here own (chooses q) =
      as_planned _ q.plan (_, (_, chooses_next r e m v name k.tie c.looked z here own q.heard q.enough q.chosen q.choice))
  deliver_next m here own (counts q) = as_planned _ q.plan (_, (_, counts_next r e m v name k.tie c.looked here own q.counted))
  deliver_next m here own (ends q) =
      as_planned _ q.plan (
        _,
        (
          _,
          ends_next r e m v name k.tie c.looked here own q.counted q.enough
              (omega (arith, room, ended_added p.note _ (ap (λ (x : Plan). x.note) q.plan))),
        ),
      )
  deliver_next m here own (spends q) =
      as_planned _ q.plan (_, (_, rests_next r e v name k.tie c.looked (used_up (sight r e) m) refl refl refl refl refl))

-- a plan that changes nothing of what the view sees, and sends nothing
still_next : (r : Rack) (e : Event) (p : Plan) (k : Tied r) → Looked r e → p.party.op ≡ op_of r (looked_client r e) → p.party.work ≡ (looked_party r e).work
    → p.note ≡ Nothing → p.pair ≡ looked_pair r e → p.to ≡ 0 → Onward r e p k.view k.name
still_next r e p k l op work note pair to = (_, (_, rests_next r e k.view k.name k.tie l p op work note pair to))

event_next : (r : Rack) (e : Event) (p : Plan) (k : Tied r) → Sized r.settings → Decided r e p → r.count + entries_in p.note ≤ entry_limit
    → Onward r e p k.view k.name
unfolding client_of client_in
event_next r (StartRead client cell) p k z c room = start_next r (StartRead client cell) p k z c room client cell Read refl c.does
event_next r (StartWrite client cell v) p k z c room = start_next r (StartWrite client cell v) p k z c room client cell (Write v) refl c.does
event_next r (Deliver slot) p k z c room = go (looked_held r (Deliver slot)) refl c.does
  where
    go : (held : Option Message) → looked_held r (Deliver slot) ≡ held → OfSlot (λ m. Delivers (sight r (Deliver slot)) m p) held → Onward r (Deliver slot) p k.view k.name
    go None q x = absurd x
    go (Some m) q x = deliver_next r (Deliver slot) p k z c room m q (ap client_in (sym q)) x
event_next r (Lose slot) p k z c room = go (looked_held r (Lose slot)) refl c.does
  where
    go : (held : Option Message) → looked_held r (Lose slot) ≡ held → OfSlot (λ m. p ≡ used_up (sight r (Lose slot)) m) held → Onward r (Lose slot) p k.view k.name
    go None q x = absurd x
    go (Some m) q x =
        still_next r (Lose slot) p k c.looked (ap (λ (a : Plan). a.party.op) x) (ap (λ (a : Plan). a.party.work) x) (ap (λ (a : Plan). a.note) x)
        (ap (λ (a : Plan). a.pair) x) (ap (λ (a : Plan). a.to) x)
event_next r (Copy slot) p k z c room = go (looked_held r (Copy slot)) refl c.does
  where
    go : (held : Option Message) → looked_held r (Copy slot) ≡ held → OfSlot (λ m. Copies (sight r (Copy slot)) m p) held → Onward r (Copy slot) p k.view k.name
    go None q x = absurd x
    go (Some m) q x = (_, (_, copies_next r (Copy slot) k.view k.name k.tie c.looked m q (ap client_in (sym q)) p x))
event_next r (Resend client) p k z c room = (_, (_, resends_next r (Resend client) k.view k.name k.tie c.looked client refl p c.does))
event_next r (Stop client) p k z c room =
    let x = c.does.plan in
    still_next r (Stop client) p k c.looked (ap (λ (a : Plan). a.party.op) x) (ap (λ (a : Plan). a.party.work) x) (ap (λ (a : Plan). a.note) x)
    (ap (λ (a : Plan). a.pair) x) (ap (λ (a : Plan). a.to) x)
event_next r (Off replica) p k z c room =
    let x = c.does.plan in
    still_next r (Off replica) p k c.looked (ap (λ (a : Plan). a.party.op) x) (ap (λ (a : Plan). a.party.work) x) (ap (λ (a : Plan). a.note) x)
    (ap (λ (a : Plan). a.pair) x) (ap (λ (a : Plan). a.to) x)
event_next r (On replica) p k z c room =
    let x = c.does.plan in
    still_next r (On replica) p k c.looked (ap (λ (a : Plan). a.party.op) x) (ap (λ (a : Plan). a.party.work) x) (ap (λ (a : Plan). a.note) x)
    (ap (λ (a : Plan). a.pair) x) (ap (λ (a : Plan). a.to) x)
event_next r Unknown p k z c room = absurd c.does

-- the entry that an event adds has its place
has_room : (r : Rack) (e : Event) (p : Plan) → Sound (applied_of r e p) → r.count + entries_in p.note ≤ entry_limit
unfolding applied_of
has_room r e p s = omega (arith, s.entries)

pub event_tied : (r : Rack) (e : Event) (p : Plan) → sound_of r ≡ true → decided r e ≡ Ok p → Tied r → Tied (applied_of r e p)
event_tied r e p h d k = next (event_next r e p k (sound_of_lem r h).settings (decided_fits r e p h d) (has_room r e p (stays r e p h d)))
  where
    next : Onward r e p k.view k.name → Tied (applied_of r e p)
    next (w, (name, n)) =
        record {
          view = w;
          name = name;
          tie = tie_next r e p k.view k.name k.tie (omega (arith, (decided_fits r e p h d).looked.client, (sound_of_lem r h).settings.clients)) w name n;
        }

-- ---- a schedule

from_tied : (done : ℕ) (r : Rack) (left : ℕ) (ws : List ℕ) → Tied r → Tied (run_from done r left ws).rack
unfolding run_from turn
from_tied done r zero ws k = k
from_tied done r (suc left) [] k = k
from_tied done r (suc left) (x ∷ []) k = k
from_tied done r (suc left) (x ∷ a ∷ []) k = k
from_tied done r (suc left) (x ∷ a ∷ b ∷ []) k = k
from_tied done r (suc left) (x ∷ a ∷ b ∷ y ∷ ws) k = go (decided r (event_of x a b y)) refl (λ q. from_tied (done + 1) q left ws)
  where
    go : (o : Decision) → decided r (event_of x a b y) ≡ o → ((q : Rack) → Tied q → Tied (run_from (done + 1) q left ws).rack)
        → Tied (turn done r (event_of x a b y) o (λ q. run_from (done + 1) q left ws)).rack
    go (Err n) e ih = k
    go (Ok p) e ih = ih (applied_of r (event_of x a b y) p) (event_tied r (event_of x a b y) p (decided_sound r (event_of x a b y) p e) e k)

pub run_tied : (r : Rack) (allowance : ℕ) (ws : List ℕ) → Tied r → Tied (run_of r allowance ws).rack
unfolding run_of
run_tied r allowance ws k = from_tied 0 r allowance ws k

-- ---- the fresh rack

-- a place of equal elements, there or not
all_same : {A : Type 0} (n i : ℕ) (a : A) → get_or (replicate n a) i a ≡ a
all_same n i a = go (dec_lt i n)
  where
    go : Dec (i < n) → get_or (replicate n a) i a ≡ a
    go (yes h) = get_or-replicate n i a a h
    go (no h) = get_or-eq_default (replicate n a) a (omega (arith, h, length-replicate n a))

pub fresh_tied : (replicas clients cells : ℕ) → Tied (fresh_rack (of_sizes replicas clients cells))
unfolding fresh_rack record_of operations notes
fresh_tied replicas clients cells =
    record {
      view = fresh;
      name = λ c k. 0;
      tie = record {
        long = record {
          parties = length-replicate client_limit idle;
          pairs = length-replicate pair_limit fresh_pair;
          lines = length-replicate {A = Line} entry_limit (record { entry = Done (record { 0 = 0 }) });
        };
        reached = first;
        now = refl;
        clients = λ c h. rw (all_same client_limit c idle) (λ i q b. absurd (omega arith));
        pairs = λ k x hk hx. rw (all_same pair_limit (pair_place k x) fresh_pair);
        wire = λ i. rw (all_same slot_limit i empty) tt;
        book = record { begun = λ x m. absurd (no_mem m); known = λ x m. absurd (no_mem m); every = λ i h. absurd (omega arith) };
      };
    }
