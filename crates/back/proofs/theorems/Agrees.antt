-- The record of a rack and its clients agree at first and after every event, so the record of a run has no fault.
use Rattle.std.specs.Prelude.{ℕ, zero, suc, ◌+◌, ◌^◌, ◌≤◌, ◌<◌, ◌≡◌, refl, ◌≢◌, Bool, true, false, cond, List, [], ◌∷◌, ◌++◌, ltb, eqb, get_or, set, length, replicate, Err, Ok, None}
use Rattle.std.proofs.Common.{ap, sym, ◌∙◌, append-nil, arith, length-set, get_or-set_same, get_or-set_other, eq-eqb}
use Rattle.std.proofs.Math.Decide.{ℕ_discrete}
use Rattle.std.proofs.lemmas.List.{length-replicate}
use Rattle.number.specs.laws.ValueLaws.{signed_fits}
use Rattle.record.specs.declared.Entry.{Entry}
use Rattle.record.specs.declared.Entry.TheVariants.{ReadAsked, WriteAsked, Told, Done}
use Rattle.record.specs.declared.Standing.{Standing}
use Rattle.record.specs.Record.{entry_limit, fresh, fault_after, standing_after}
use Rattle.record.specs.Legal.{InRange, Follows, Legal}
use Rattle.number.specs.Below.{Words}
use Rattle.law.specs.Standing.{has, standing_from, standing}
use Rattle.law.specs.laws.Steps.{put}
use Rattle.law.proofs.theorems.Operations.{standing_append, fresh_none, tied, has_same, has_other}
use Rattle.method.specs.declared.Message.{Message}
use Rattle.rack.specs.declared.Slot.{Slot}
use Rattle.method.specs.declared.Party.{Party}
use Rattle.rack.specs.declared.Line.{Line}
use Rattle.rack.specs.declared.Settings.{Settings}
use Rattle.rack.specs.declared.Rack.{Rack}
use Rattle.method.specs.declared.Event.{Event}
use Rattle.method.specs.declared.Event.TheVariants.{Unknown}
use Rattle.method.specs.declared.Note.{Note}
use Rattle.method.specs.declared.Note.TheVariants.{Nothing, Asked, Ended}
use Rattle.method.specs.declared.Plan.{Plan}
use Rattle.method.specs.Decision.{Decision}
use Rattle.rack.specs.declared.Made.{Made}
use Rattle.stamps.specs.Stamp.{fresh_pair}
use Rattle.method.specs.Plan.{message_of}
use Rattle.rack.specs.Places.{of_sizes, slot_limit, empty, full, idle, held_in, free_at, sent_of, record_of}
use Rattle.rack.specs.Sound.{settings_fit, sound_of}
use Rattle.rack.specs.Run.{fresh_rack, made_of, byte, event_of, addressed, cleared, recorded, entries_in, applied_of, turn, run_from, run_of}
use Rattle.rack.specs.Refusals.{decided}
use Rattle.rack.specs.Looking.{slot_of}
use Rattle.rack.specs.laws.SoundLaws.{Sized, Sound, sound_of_lem}
use Rattle.rack.specs.laws.Decided.{Decided}
use Rattle.rack.proofs.theorems.Decided.{decided_fits}
use Rattle.rack.specs.Looking.{looked_held, looked_client, looked_party, looked_place, sight}
use Rattle.rack.specs.laws.Fresh.{made_sound}
use Rattle.slots.specs.Free.{first_free}
use Rattle.quorum.specs.Sets.{members_of}
use Rattle.runs.specs.laws.Stays.{set_either, stays, sound_stays}
use Rattle.runs.specs.laws.Steps.{run_from_lem}
use Rattle.back.specs.Standing.{open_in, Within, AllWithin, PairSmall, BodySmall, HeldSmall, WorkSmall, FitsWords, Agrees, EventSmall}
use Rattle.back.specs.laws.Lines.{added, applied_adds, count_long}
use Rattle.back.proofs.theorems.Plans.{whose, needs, leaves, Enters, Noted, Keeps, plan_keeps}

-- ---- one entry more

-- an entry of a rack is in range
in_range : (z : Settings) → Sized z → (e : Entry) → Within z e → InRange e
in_range z n (ReadAsked client cell) w = (omega (arith, w.0, n.clients), omega (arith, w.1, n.cells))
in_range z n (WriteAsked client cell v) w = (omega (arith, w.0, n.clients), omega (arith, w.1, n.cells), w.2)
in_range z n (Told client v) w = (omega (arith, w.0, n.clients), w.1)
in_range z n (Done client) w = omega (arith, w, n.clients)

-- its client has open what it needs, so it is no 26 and no 27
no_fault : (st : Standing) (e : Entry) → has st (whose e) ≡ needs e → fault_after st e ≡ None
unfolding fault_after
no_fault st (ReadAsked client cell) h = rw (eq-eqb _ 0 h)
no_fault st (WriteAsked client cell v) h = rw (eq-eqb _ 0 h)
no_fault st (Told client v) h = rw (eq-eqb _ 1 h)
no_fault st (Done client) h = rw (eq-eqb _ 2 h)

-- and then has open what it leaves
after_entry_lem : (st : Standing) (e : Entry) → standing_after st e ≡ put st (whose e) (leaves e)
unfolding standing_after
after_entry_lem st (ReadAsked client cell) = refl
after_entry_lem st (WriteAsked client cell v) = refl
after_entry_lem st (Told client v) = refl
after_entry_lem st (Done client) = refl

follows_next : (st : Standing) (es : List Entry) (e : Entry) → Follows st es → InRange e → fault_after (standing_from st es) e ≡ None → Follows st (es ++ (e ∷ []))
follows_next st [] e f r h = (r, h, tt)
follows_next st (d ∷ es) e f r h = (f.0, f.1, follows_next (standing_after st d) es e f.2 r h)

within_next : (z : Settings) (es : List Entry) (e : Entry) → AllWithin z es → Within z e → AllWithin z (es ++ (e ∷ []))
within_next z [] e w h = (h, tt)
within_next z (d ∷ es) e w h = (w.0, within_next z es e w.1 h)

-- The record es goes on as fs: nothing of it is at fault, client k has `after` open, and the others have what they had.
record Goes (z : Settings) (es fs : List Entry) (k after : ℕ) : Type 0 where
  within : AllWithin z fs
  follows : Follows fresh fs
  own : has (standing fs) k ≡ after
  others : (i : ℕ) → i ≢ k → has (standing fs) i ≡ has (standing es) i

goes_on : (z : Settings) → Sized z → (es : List Entry) (k before after : ℕ) (e : Entry) → AllWithin z es → Follows fresh es → has (standing es) k ≡ before
    → Enters z k before e after → Goes z es (es ++ (e ∷ [])) k after
goes_on z n es k before after e w f h t =
    let c : whose e ≡ k = t.client in
    let r : InRange e = in_range z n e t.within in
    let need : has (standing es) (whose e) ≡ needs e = ap (λ (i : ℕ). has (standing es) i) c ∙ h ∙ t.needed in
    let now : standing (es ++ (e ∷ [])) ≡ put (standing es) k (leaves e) =
    standing_append fresh es (e ∷ []) ∙ after_entry_lem (standing es) e ∙ ap (λ (i : ℕ). put (standing es) i (leaves e)) c in
    record {
      within = within_next z es e w t.within;
      follows = follows_next fresh es e f r (no_fault (standing es) e need);
      own = ap (λ (st : Standing). has st k) now ∙ has_same (standing es) k (leaves e) (omega (arith, (tied es f).eight, own_seven e r, c)) ∙ sym t.left;
      others = λ i d. ap (λ (st : Standing). has st i) now ∙ has_other (standing es) k (leaves e) i d;
    }
  where
    own_seven : (x : Entry) → InRange x → whose x ≤ 7
    own_seven (ReadAsked client cell) y = y.0
    own_seven (WriteAsked client cell v) y = y.0
    own_seven (Told client v) y = y.0
    own_seven (Done client) y = y

-- ---- the record after a note

-- what a note makes of the record
note_goes : (z : Settings) → Sized z → (es : List Entry) (note : Note) (k before after : ℕ) → AllWithin z es → Follows fresh es → has (standing es) k ≡ before
    → Noted z k before note after → Goes z es (es ++ added note) k after
note_goes z n es Nothing k before after w f h t = rw (append-nil es) (record { within = w; follows = f; own = h ∙ sym t; others = λ i d. refl })
note_goes z n es (Asked e) k before after w f h t = goes_on z n es k before after e w f h t
note_goes z n es (Ended e) k before after w f h t = goes_on z n es k before after e w f h t

recorded_long : (note : Note) (count : ℕ) (lines : List Line) → length (recorded note count lines) ≡ length lines
unfolding recorded
recorded_long Nothing count lines = refl
recorded_long (Asked e) count lines = length-set lines count (record { entry = e })
recorded_long (Ended e) count lines = length-set lines count (record { entry = e })

-- ---- values

sent_small : (m : Message) (ks : List ℕ) (w : List Slot) → BodySmall m.body → ((i : ℕ) → HeldSmall (held_in w i))
    → (i : ℕ) → HeldSmall (held_in (sent_of w (addressed m ks)) i)
unfolding sent_of addressed
sent_small m [] w b h i = h i
sent_small m (k ∷ ks) w b h i =
    let s : Slot = full (message_of m.client (record { 0 = k }) m.cell m.op m.body) in
    sent_small m ks (set w (first_free (free_at w)) s) b
    (λ j. set_either (λ (x : Slot). HeldSmall x.held) w (first_free (free_at w)) s empty j b (h j)) i

cleared_small : (b : Bool) (j : ℕ) (w : List Slot) → ((i : ℕ) → HeldSmall (held_in w i)) → (i : ℕ) → HeldSmall (held_in (cleared b j w) i)
unfolding cleared
cleared_small true j w h i = set_either (λ (x : Slot). HeldSmall x.held) w j empty empty i tt (h i)
cleared_small false j w h i = h i

small_stays : (r : Rack) (e : Event) (p : Plan) (k before : ℕ) → FitsWords r → Keeps r.settings k before p → FitsWords (applied_of r e p)
unfolding applied_of
small_stays r e p k before s h =
    record {
      pairs = λ i. set_either PairSmall r.pairs (looked_place r e) p.pair fresh_pair i h.pair (s.pairs i);
      wire = sent_small p.message (members_of r.settings.replicas p.to) (cleared p.clear (slot_of e) r.wire) h.body
          (cleared_small p.clear (slot_of e) r.wire s.wire);
      works = λ i. set_either (λ (q : Party). WorkSmall q.work) r.parties (looked_client r e) p.party idle i h.work (s.works i);
    }

-- ---- an event that is done

-- it keeps to the record
decided_keeps : (r : Rack) (e : Event) (p : Plan) → sound_of r ≡ true → FitsWords r → EventSmall e → decided r e ≡ Ok p
    → Keeps r.settings (looked_client r e) (open_in (looked_party r e).work) p
decided_keeps r e p h s v g =
    let d : Decided r e p = decided_fits r e p h g in
    plan_keeps r.settings (sight r e) (s.works (looked_client r e)) (s.pairs (looked_place r e)) (looked_held r e) d.looked.held (s.wire (slot_of e)) e d.inside v p
    d.does

-- each client is at what the record leaves it open
stand_next : (z : Settings) (es fs : List Entry) (k : ℕ) (ps : List Party) (q : Party) → Goes z es fs k (open_in q.work) → k < length ps
    → (i : ℕ) → has (standing es) i ≡ open_in (get_or ps i idle).work → has (standing fs) i ≡ open_in (get_or (set ps k q) i idle).work
stand_next z es fs k ps q t l i h = go (ℕ_discrete i k)
  where
    go : Dec (i ≡ k) → has (standing fs) i ≡ open_in (get_or (set ps k q) i idle).work
    go (yes e) = rw e (t.own ∙ sym (ap (λ (x : Party). open_in x.work) (get_or-set_same ps k q idle l)))
    go (no d) = t.others i d ∙ h ∙ sym (ap (λ (x : Party). open_in x.work) (get_or-set_other ps k i q idle d))

-- the record has room for what it adds
room_stays : (r : Rack) (e : Event) (p : Plan) → sound_of r ≡ true → decided r e ≡ Ok p → r.count + entries_in p.note ≤ entry_limit
unfolding applied_of
room_stays r e p h g = omega (arith, (stays r e p h g).entries)

pub record_next : (r : Rack) (e : Event) (p : Plan) → sound_of r ≡ true → Agrees r → decided r e ≡ Ok p → record_of (applied_of r e p) ≡ record_of r ++ added p.note
record_next r e p h a g = applied_adds r e p (omega (arith, a.lines, room_stays r e p h g))

-- record and clients still agree after it
pub agree_stays : (r : Rack) (e : Event) (p : Plan) → sound_of r ≡ true → Agrees r → EventSmall e → decided r e ≡ Ok p → Agrees (applied_of r e p)
unfolding record_of applied_of
agree_stays r e p h a v g =
    let k : ℕ = looked_client r e in
    let s : Sound r = sound_of_lem r h in
    let d : Decided r e p = decided_fits r e p h g in
    let c : k < r.settings.clients = d.looked.client in
    let q : Keeps r.settings k (open_in (looked_party r e).work) p = decided_keeps r e p h a.small v g in
    let most : r.count + entries_in p.note ≤ entry_limit = room_stays r e p h g in
    let long : length (recorded p.note r.count r.lines) ≡ entry_limit = recorded_long p.note r.count r.lines ∙ a.lines in
    let t = rw (← record_next r e p h a g) at
    (note_goes r.settings s.settings (record_of r) p.note k _ (open_in p.party.work) a.within a.follows (a.stands k c) q.note) in
    record {
      parties = length-set r.parties k p.party ∙ a.parties;
      lines = long;
      count = count_long (applied_of r e p) (omega (arith, long));
      most = most;
      small = small_stays r e p k (open_in (looked_party r e).work) a.small q;
      within = t.within;
      follows = t.follows;
      stands = λ i l. stand_next r.settings _ _ k r.parties p.party t (omega (arith, a.parties, s.settings.clients)) i (a.stands i l);
    }

-- ---- a run

-- the value of an event is one of 32 bits if its word is
pub event_small : (k a b v : ℕ) → v < 2 ^ 32 → EventSmall (event_of k a b v)
unfolding event_of byte
event_small k a b v h =
    branch (eqb k 0) _ _ (byte_small a _ (byte_small b _ tt))
    (branch (eqb k 1) _ _ (byte_small a _ (byte_small b _ (signed_fits v h)))
    (branch (eqb k 2) _ _ tt
    (branch (eqb k 3) _ _ tt
    (branch (eqb k 4) _ _ tt
    (branch (eqb k 5) _ _ (byte_small a _ tt)
    (branch (eqb k 6) _ _ (byte_small a _ tt)
    (branch (eqb k 7) _ _ (byte_small a _ tt)
    (branch (eqb k 8) _ _ (byte_small a _ tt) tt))))))))
  where
    branch : (t : Bool) (x y : Event) → EventSmall x → EventSmall y → EventSmall (cond t x y)
    branch true x y p q = p
    branch false x y p q = q

    byte_small : (n : ℕ) (e : Event) → EventSmall e → EventSmall (cond (ltb n 256) e Unknown)
    byte_small n e p = branch (ltb n 256) e Unknown p tt

-- record and clients agree wherever a run of a sound rack stops
from_agrees : (done : ℕ) (r : Rack) (left : ℕ) (ws : List ℕ) → Words ws → sound_of r ≡ true → Agrees r → Agrees (run_from done r left ws).rack
unfolding run_from turn
from_agrees done r zero ws h s a = a
from_agrees done r (suc left) [] h s a = a
from_agrees done r (suc left) (x ∷ []) h s a = a
from_agrees done r (suc left) (x ∷ y ∷ []) h s a = a
from_agrees done r (suc left) (x ∷ y ∷ z ∷ []) h s a = a
from_agrees done r (suc left) (x ∷ y ∷ z ∷ v ∷ ws) h s a =
    go (decided r (event_of x y z v)) refl (λ q. from_agrees (done + 1) q left ws (λ i. h (suc (suc (suc (suc i))))))
  where
    go : (o : Decision) → decided r (event_of x y z v) ≡ o → ((q : Rack) → sound_of q ≡ true → Agrees q → Agrees (run_from (done + 1) q left ws).rack)
        → Agrees (turn done r (event_of x y z v) o (λ q. run_from (done + 1) q left ws)).rack
    go (Err n) e ih = a
    go (Ok p) e ih = ih (applied_of r (event_of x y z v) p) (sound_stays r (event_of x y z v) p s e) (agree_stays r (event_of x y z v) p s a (event_small x y z v (h 3)) e)

pub run_agrees : (r : Rack) (allowance : ℕ) (events : List ℕ) → Words events → sound_of r ≡ true → Agrees r → Agrees (run_of r allowance events).rack
run_agrees r allowance events h s a = rw (run_from_lem r allowance events) (from_agrees 0 r allowance events h s a)

-- ---- a fresh rack

-- what holds of one thing holds of a list of nothing else, at every place
repeated : {A : Type 0} (P : A → Type 0) (n i : ℕ) (a : A) → P a → P (get_or (replicate n a) i a)
repeated P zero i a h = h
repeated P (suc n) zero a h = h
repeated P (suc n) (suc i) a h = repeated P n i a h

pub fresh_agrees : (replicas clients cells : ℕ) → Agrees (fresh_rack (of_sizes replicas clients cells))
unfolding fresh_rack record_of
fresh_agrees replicas clients cells =
    record {
      parties = length-replicate 8 idle;
      lines = length-replicate {A = Line} entry_limit (record { entry = Done (record { 0 = 0 }) });
      count = refl;
      most = omega arith;
      small = record {
        pairs = λ i. repeated PairSmall 240 i fresh_pair (record { sfits = omega arith });
        wire = λ i. repeated (λ (s : Slot). HeldSmall s.held) slot_limit i empty tt;
        works = λ i. repeated (λ (p : Party). WorkSmall p.work) 8 i idle tt;
      };
      within = tt;
      follows = tt;
      stands = λ i l. fresh_none i ∙ repeated (λ (p : Party). 0 ≡ open_in p.work) 8 i idle refl;
    }

-- what the maker gives, whatever the sizes
pub made_agrees : (replicas clients cells : ℕ) → Agrees (made_of (of_sizes replicas clients cells)).rack
unfolding made_of
made_agrees replicas clients cells = go (settings_fit (of_sizes replicas clients cells))
  where
    go : (t : Bool) → Agrees (cond {A = Made} t (record { refusal = 0; rack = fresh_rack (of_sizes replicas clients cells) }) (record { refusal = 1; rack = fresh_rack (of_sizes 1 1 1) })).rack
    go true = fresh_agrees replicas clients cells
    go false = fresh_agrees 1 1 1

-- and its record is empty
pub made_empty : (replicas clients cells : ℕ) → record_of (made_of (of_sizes replicas clients cells)).rack ≡ []
unfolding made_of fresh_rack record_of
made_empty replicas clients cells = go (settings_fit (of_sizes replicas clients cells))
  where
    go : (t : Bool) → record_of (cond {A = Made} t (record { refusal = 0; rack = fresh_rack (of_sizes replicas clients cells) }) (record { refusal = 1; rack = fresh_rack (of_sizes 1 1 1) })).rack ≡ []
    go true = refl
    go false = refl

-- ---- no fault

-- a record that agrees with its clients has none
pub agrees_legal : (r : Rack) → Agrees r → Legal (record_of r)
agrees_legal r a = record { follows = a.follows; few = omega (arith, a.count, a.most) }

-- The record of a run has no fault: of any rack that is sound and agrees with its record,
pub run_legal_from : (r : Rack) (allowance : ℕ) (events : List ℕ) → Words events → sound_of r ≡ true → Agrees r → Legal (record_of (run_of r allowance events).rack)
run_legal_from r allowance events h s a = agrees_legal (run_of r allowance events).rack (run_agrees r allowance events h s a)

-- and so of a fresh one, for any sizes, any allowance and any events.
pub run_legal : (replicas clients cells allowance : ℕ) (events : List ℕ) → Words events
    → Legal (record_of (run_of (made_of (of_sizes replicas clients cells)).rack allowance events).rack)
run_legal replicas clients cells allowance events h =
    run_legal_from (made_of (of_sizes replicas clients cells)).rack allowance events h (made_sound replicas clients cells) (made_agrees replicas clients cells)
