-- A sound rack stays sound.
use Rattle.std.specs.Prelude.{ℕ, zero, suc, ◌+◌, ◌≤◌, ◌<◌, ◌≡◌, refl, Bool, true, false, List, [], ◌∷◌, ltb, eqb, get_or, set, length, Ok}
use Rattle.std.proofs.Common.{ap, arith, get_or-set_same, get_or-set_other, ltb-true, ltb-false, eqb-true}
use Rattle.std.proofs.Math.ListN.{get_or-eq_default}
use Rattle.std.proofs.Math.Seq.{set_out}
use Rattle.std.proofs.lemmas.Bool.{eqb-false}
use Rattle.quorum.specs.Sets.{has_replica, keep_if, members_from, members_of}
use Rattle.slots.specs.Free.{first_free}
use Rattle.stamps.specs.declared.Pair.{Pair}
use Rattle.method.specs.declared.Message.{Message}
use Rattle.record.specs.Record.{entry_limit}
use Rattle.rack.specs.declared.Slot.{Slot}
use Rattle.method.specs.declared.Party.{Party}
use Rattle.rack.specs.declared.Settings.{Settings}
use Rattle.rack.specs.declared.Rack.{Rack}
use Rattle.stamps.specs.Stamp.{fresh_pair}
use Rattle.method.specs.declared.Event.{Event}
use Rattle.method.specs.declared.Plan.{Plan}
use Rattle.method.specs.Plan.{message_of}
use Rattle.rack.specs.Places.{slot_limit, empty, full, idle, pair_place, held_in, free_at, sent_of}
use Rattle.rack.specs.Sound.{pair_fits, message_fits, held_fits, work_fits, owes, owed_by, owed, sound_of, owed_in}
use Rattle.rack.specs.Run.{addressed, cleared, entries_in, applied_of}
use Rattle.rack.specs.Refusals.{decided}
use Rattle.rack.specs.Looking.{slot_of}
use Rattle.rack.specs.laws.SoundLaws.{Sound, sound_of_lem, of_sound}
use Rattle.rack.specs.laws.Owed.{owed_in_lem, owed_set}
use Rattle.rack.specs.laws.Decided.{Decided}
use Rattle.rack.proofs.theorems.Decided.{decided_fits}
use Rattle.rack.specs.Looking.{looked_client, looked_place}

-- ---- stores

-- what holds of a new element and of the old one at i holds of the one at i after a store
pub set_either : {A : Type 0} (P : A → Type 0) (l : List A) (c : ℕ) (u d : A) (i : ℕ) → P u → P (get_or l i d) → P (get_or (set l c u) i d)
set_either P l c u d i pu pl = go (eqb i c) refl
  where
    here : (t : Bool) → ltb c (length l) ≡ t → i ≡ c → P (get_or (set l c u) i d)
    here true e q = rw (q, get_or-set_same l c u d (ltb-true _ _ e)) pu
    here false e q = rw (set_out l c u (ltb-false _ _ e)) pl

    go : (t : Bool) → eqb i c ≡ t → P (get_or (set l c u) i d)
    go true e = here (ltb c (length l)) refl (eqb-true i c e)
    go false e = rw (get_or-set_other l c i u d (eqb-false i c e)) pl

-- another client in place i, which is there or not
owed_store : (n i : ℕ) (ps : List Party) (p : Party) → i < n → owed_in n (set ps i p) + owed_by (get_or ps i idle) ≤ owed_in n ps + owed_by p
unfolding owed_by owes
owed_store n i ps p h = go (ltb i (length ps)) refl
  where
    go : (t : Bool) → ltb i (length ps) ≡ t → owed_in n (set ps i p) + owed_by (get_or ps i idle) ≤ owed_in n ps + owed_by p
    go true e = let q : i < length ps = ltb-true i (length ps) e in omega (arith, owed_set n i ps p h q)
    go false e =
        let q : length ps ≤ i = ltb-false i (length ps) e in
        let o : owed_by (get_or ps i idle) ≡ 0 = ap owed_by (get_or-eq_default ps idle q) in
        let s : owed_in n (set ps i p) ≡ owed_in n ps = ap (owed_in n) (set_out ps i p q) in
        omega arith

-- ---- messages that are sent fit

-- every message of the list names only what the rack has
abbrev AllFit : Settings → List Message → Type 0
AllFit z [] = Unit {0}
AllFit z (m ∷ ms) = (message_fits z m ≡ true) × AllFit z ms

-- every number of the list is below n
abbrev AllLess : ℕ → List ℕ → Type 0
AllLess n [] = Unit {0}
AllLess n (k ∷ ks) = (k < n) × AllLess n ks

sent_fits : (z : Settings) (ms : List Message) (w : List Slot) → AllFit z ms → ((i : ℕ) → i < slot_limit → held_fits z (held_in w i) ≡ true)
    → (i : ℕ) → i < slot_limit → held_fits z (held_in (sent_of w ms) i) ≡ true
unfolding sent_of held_fits
sent_fits z [] w h k i l = k i l
sent_fits z (m ∷ ms) w h k i l =
    let f : ℕ = first_free (free_at w) in
    sent_fits z ms (set w f (full m)) h.1 (λ j q. set_either (λ (s : Slot). held_fits z s.held ≡ true) w f (full m) empty j h.0 (k j q)) i l

members_less : (n k s t : ℕ) → n + k ≤ t → AllLess t (members_from n k s)
unfolding members_from
members_less zero k s t h = tt
members_less (suc n) k s t h = go (has_replica s k) (members_less n (k + 1) s t (omega arith))
  where
    go : (b : Bool) → AllLess t (members_from n (k + 1) s) → AllLess t (keep_if b k (members_from n (k + 1) s))
    go true ih = (omega arith, ih)
    go false ih = ih

addressed_fits : (z : Settings) (m : Message) (ks : List ℕ)
    → ((k : ℕ) → k < z.replicas → message_fits z (message_of m.client (record { 0 = k }) m.cell m.op m.body) ≡ true)
    → AllLess z.replicas ks → AllFit z (addressed m ks)
unfolding addressed
addressed_fits z m [] h b = tt
addressed_fits z m (k ∷ ks) h b = (h k b.0, addressed_fits z m ks h b.1)

cleared_fits : (z : Settings) (b : Bool) (j : ℕ) (w : List Slot) → ((i : ℕ) → i < slot_limit → held_fits z (held_in w i) ≡ true)
    → (i : ℕ) → i < slot_limit → held_fits z (held_in (cleared b j w) i) ≡ true
unfolding cleared held_fits
cleared_fits z true j w h i l = set_either (λ (s : Slot). held_fits z s.held ≡ true) w j empty empty i refl (h i l)
cleared_fits z false j w h i l = h i l

-- ---- a sound rack stays sound

applied_owed : (r : Rack) (e : Event) (p : Plan) → owed (applied_of r e p) ≡ owed_in r.settings.clients (set r.parties (looked_client r e) p.party)
unfolding applied_of
applied_owed r e p = owed_in_lem (applied_of r e p)

entries_stay : (r : Rack) (e : Event) (p : Plan) → Decided r e p → r.count + entries_in p.note + owed (applied_of r e p) ≤ entry_limit
entries_stay r e p d =
    omega (arith, d.entries, applied_owed r e p, owed_in_lem r, owed_store r.settings.clients (looked_client r e) r.parties p.party d.looked.client)

pub stays : (r : Rack) (e : Event) (p : Plan) → sound_of r ≡ true → decided r e ≡ Ok p → Sound (applied_of r e p)
unfolding applied_of
stays r e p h g =
    let z : Settings = r.settings in
    let s : Sound r = sound_of_lem r h in
    let d : Decided r e p = decided_fits r e p h g in
    record {
      settings = s.settings;
      slots = sent_fits z (addressed p.message (members_of z.replicas p.to)) (cleared p.clear (slot_of e) r.wire)
          (addressed_fits z p.message (members_of z.replicas p.to) d.fits.message (members_less z.replicas 0 p.to z.replicas (omega arith)))
          (cleared_fits z p.clear (slot_of e) r.wire s.slots);
      pairs = λ k x a b. set_either (λ (q : Pair). pair_fits z q ≡ true) r.pairs (looked_place r e) p.pair fresh_pair (pair_place k x) d.fits.pair (s.pairs k x a b);
      parties = λ i a. set_either (λ (q : Party). work_fits z q.work ≡ true) r.parties (looked_client r e) p.party idle i d.fits.work (s.parties i a);
      entries = entries_stay r e p d;
    }

pub sound_stays : (r : Rack) (e : Event) (p : Plan) → sound_of r ≡ true → decided r e ≡ Ok p → sound_of (applied_of r e p) ≡ true
sound_stays r e p h d = of_sound (applied_of r e p) (stays r e p h d)
