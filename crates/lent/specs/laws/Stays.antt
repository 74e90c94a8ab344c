-- Every rack of a run from words can be written into them and read again.
use Rattle.std.specs.Prelude.{ℕ, zero, suc, ◌+◌, ◌*◌, ◌%◌, ◌≤◌, ◌<◌, ◌≡◌, refl, Bool, true, false, List, [], ◌∷◌, eqb, length, get_or, set, None, Some, Err, Ok, Option}
use Rattle.std.proofs.Math.Path.{ap}
use Rattle.std.proofs.Common.{◌∙◌, arith, get_or-set_same, eqb-true}
use Rattle.std.proofs.Math.ListN.{length-set}
use Rattle.std.proofs.Math.Seq.{get_or-set_other}
use Rattle.std.proofs.lemmas.Bool.{eqb-false}
use Rattle.record.specs.declared.Entry.{Entry}
use Rattle.record.specs.declared.Entry.TheVariants.{ReadAsked}
use Rattle.record.specs.Entry.{cell_limit}
use Rattle.quorum.specs.Sets.{members_of}
use Rattle.slots.specs.Free.{first_free}
use Rattle.stamps.specs.Stamp.{fresh_pair}
use Rattle.method.specs.declared.Message.{Message}
use Rattle.method.specs.declared.Party.{Party}
use Rattle.method.specs.declared.Event.{Event}
use Rattle.method.specs.declared.Note.{Note}
use Rattle.method.specs.declared.Note.TheVariants.{Nothing, Asked, Ended}
use Rattle.method.specs.declared.Plan.{Plan}
use Rattle.method.specs.Decision.{Decision}
use Rattle.method.specs.Plan.{message_of}
use Rattle.rack.specs.declared.Line.{Line}
use Rattle.rack.specs.declared.Slot.{Slot}
use Rattle.rack.specs.declared.Settings.{Settings}
use Rattle.rack.specs.declared.Rack.{Rack}
use Rattle.rack.specs.Places.{empty, full, blank, idle, party_at, held_in, held_at, free_at, sent_of}
use Rattle.rack.specs.Sound.{held_fits, sound_of}
use Rattle.rack.specs.Run.{addressed, cleared, recorded, entries_in, applied_of, event_of, turn, run_from, run_of}
use Rattle.rack.specs.Refusals.{decided}
use Rattle.rack.specs.Looking.{slot_of, place_in}
use Rattle.rack.specs.laws.SoundLaws.{Sized, sound_of_lem, named}
use Rattle.rack.specs.laws.Decided.{Decided}
use Rattle.rack.proofs.theorems.Decided.{decided_fits}
use Rattle.rack.specs.Looking.{looked_held, looked_client, looked_place, sight}
use Rattle.runs.specs.laws.Stays.{set_either, stays, sound_stays}
use Rattle.runs.specs.laws.Steps.{run_from_lem}
use Rattle.layout.specs.Layout.{op_limit, power_limit}
use Rattle.layout.specs.Writing.{entry_in}
use Rattle.layout.specs.laws.Trip.{entry_fits}
use Rattle.layout.specs.laws.Small.{TagSmall}
use Rattle.layout.specs.laws.Again.{Sayable}
use Rattle.lent.specs.laws.Whole.{Beyond}
use Rattle.lent.specs.laws.Plans.{NoteFits, PlanStays, plan_stays}

-- a rack that can be written into the words ws and read again
pub record Writable (ws : List ℕ) (r : Rack) : Type 0 where
  pub beyond : Beyond ws r
  pub power : r.power < power_limit
  pub ops : (i : ℕ) → (party_at r i).op < op_limit
  pub messages : (i : ℕ) → TagSmall (held_at r i)
  pub entries : (i : ℕ) → i < r.count → entry_fits (entry_in r.lines i)

-- what words can say of it again
pub small_of : (ws : List ℕ) (r : Rack) → Writable ws r → Sayable r
small_of ws r k = record { power = k.power; ops = λ i l. k.ops i; tags = λ i l. k.messages i; entries = k.entries }

-- ---- what an event leaves

sent_long : (w : List Slot) (ms : List Message) → length (sent_of w ms) ≡ length w
unfolding sent_of
sent_long w [] = refl
sent_long w (m ∷ ms) = sent_long (set w (first_free (free_at w)) (full m)) ms ∙ length-set w (first_free (free_at w)) (full m)

cleared_long : (b : Bool) (i : ℕ) (w : List Slot) → length (cleared b i w) ≡ length w
unfolding cleared
cleared_long true i w = length-set w i empty
cleared_long false i w = refl

recorded_long : (note : Note) (n : ℕ) (lines : List Line) → length (recorded note n lines) ≡ length lines
unfolding recorded
recorded_long Nothing n lines = refl
recorded_long (Asked e) n lines = length-set lines n (record { entry = e })
recorded_long (Ended e) n lines = length-set lines n (record { entry = e })

-- lines beyond the record stay blank
recorded_beyond : (note : Note) (n : ℕ) (lines : List Line) → ((i : ℕ) → n ≤ i → get_or lines i blank ≡ blank)
    → (i : ℕ) → n + entries_in note ≤ i → get_or (recorded note n lines) i blank ≡ blank
unfolding recorded entries_in
recorded_beyond Nothing n lines h i l = h i (omega arith)
recorded_beyond (Asked e) n lines h i l = get_or-set_other lines n i (record { entry = e }) blank (λ q. omega arith) ∙ h i (omega arith)
recorded_beyond (Ended e) n lines h i l = get_or-set_other lines n i (record { entry = e }) blank (λ q. omega arith) ∙ h i (omega arith)

-- an entry more, which fits
one_more : (n : ℕ) (lines : List Line) (e : Entry) → n < length lines → entry_fits e → ((i : ℕ) → i < n → entry_fits (entry_in lines i))
    → (i : ℕ) → i < n + 1 → entry_fits (entry_in (set lines n (record { entry = e })) i)
one_more n lines e room f h i l = go (eqb i n) refl
  where
    go : (t : Bool) → eqb i n ≡ t → entry_fits (get_or (set lines n (record { entry = e })) i (record { entry = ReadAsked (record { 0 = 0 }) (record { 0 = 0 }) })).entry
    go true q =
        rw (eqb-true i n q, get_or-set_same lines n (record { entry = e }) (record { entry = ReadAsked (record { 0 = 0 }) (record { 0 = 0 }) }) room) f
    go false q =
        let d : i ≡ n → ⊥ = eqb-false i n q in
        rw (get_or-set_other lines n i (record { entry = e }) (record { entry = ReadAsked (record { 0 = 0 }) (record { 0 = 0 }) }) d) (h i (omega (arith, d)))

recorded_fits : (note : Note) (n : ℕ) (lines : List Line) → n + entries_in note ≤ length lines → NoteFits note → ((i : ℕ) → i < n → entry_fits (entry_in lines i))
    → (i : ℕ) → i < n + entries_in note → entry_fits (entry_in (recorded note n lines) i)
unfolding recorded entries_in
recorded_fits Nothing n lines room f h i l = h i (omega arith)
recorded_fits (Asked e) n lines room f h i l = one_more n lines e (omega arith) f h i l
recorded_fits (Ended e) n lines room f h i l = one_more n lines e (omega arith) f h i l

sent_ops : (m : Message) (ks : List ℕ) (w : List Slot) → m.op < op_limit → ((i : ℕ) → TagSmall (held_in w i)) → (i : ℕ) → TagSmall (held_in (sent_of w (addressed m ks)) i)
unfolding sent_of addressed
sent_ops m [] w o h i = h i
sent_ops m (k ∷ ks) w o h i =
    let s : Slot = full (message_of m.client (record { 0 = k }) m.cell m.op m.body) in
    sent_ops m ks (set w (first_free (free_at w)) s) o (λ j. set_either (λ (x : Slot). TagSmall x.held) w (first_free (free_at w)) s empty j o (h j)) i

cleared_ops : (b : Bool) (j : ℕ) (w : List Slot) → ((i : ℕ) → TagSmall (held_in w i)) → (i : ℕ) → TagSmall (held_in (cleared b j w) i)
unfolding cleared
cleared_ops true j w h i = set_either (λ (x : Slot). TagSmall x.held) w j empty empty i tt (h i)
cleared_ops false j w h i = h i

-- the pair that a message is about is within the sizes
place_within : (z : Settings) (x : Option Message) → Sized z → held_fits z x ≡ true → (place_in x < cell_limit * z.replicas) × (place_in x % cell_limit < z.cells)
unfolding place_in held_fits
place_within z None n h = (omega (arith, n.some_replica), omega (arith, n.some_cell))
place_within z (Some m) n h =
    let q = named z m h in
    (omega (arith, q.replica, q.cell, n.cells), omega (arith, q.cell, n.cells))

-- ---- an event that is done

module _ (ws : List ℕ) (r : Rack) (e : Event) (p : Plan) (h : sound_of r ≡ true) (g : decided r e ≡ Ok p) (k : Writable ws r) where
  left : PlanStays p
  left =
      let d : Decided r e p = decided_fits r e p h g in
      plan_stays r.settings (sound_of_lem r h).settings (sight r e) k.power (k.ops (looked_client r e)) (looked_held r e) d.looked.held (k.messages (slot_of e)) e
      d.inside p d.does

  room : r.count + entries_in p.note ≤ length r.lines
  unfolding applied_of
  room = omega (arith, (stays r e p h g).entries, k.beyond.lines_long)

  beyond_stays : Beyond ws (applied_of r e p)
  unfolding applied_of
  beyond_stays =
      let d : Decided r e p = decided_fits r e p h g in
      let b : Beyond ws r = k.beyond in
      let w = place_within r.settings (looked_held r e) (sound_of_lem r h).settings d.looked.held in
      record {
        parties_long = length-set r.parties (looked_client r e) p.party ∙ b.parties_long;
        pairs_long = length-set r.pairs (looked_place r e) p.pair ∙ b.pairs_long;
        wire_long =
            sent_long (cleared p.clear (slot_of e) r.wire) (addressed p.message (members_of r.settings.replicas p.to))
            ∙ cleared_long p.clear (slot_of e) r.wire
            ∙ b.wire_long;
        lines_long = recorded_long p.note r.count r.lines ∙ b.lines_long;
        parties = λ i l u. get_or-set_other r.parties (looked_client r e) i p.party idle (λ q. omega (arith, d.looked.client)) ∙ b.parties i l u;
        pairs = λ i l u. get_or-set_other r.pairs (looked_place r e) i p.pair fresh_pair
            (λ q. (let a : i < cell_limit * r.settings.replicas = omega (arith, w.0) in
            let c : i % cell_limit ≡ looked_place r e % cell_limit = ap (λ (y : ℕ). y % cell_limit) q in
            omega (arith, u a, w.1))) ∙ b.pairs i l u;
        lines = recorded_beyond p.note r.count r.lines b.lines;
      }

  pub writable_stays : Writable ws (applied_of r e p)
  unfolding applied_of
  writable_stays =
      record {
        beyond = beyond_stays;
        power = left.power;
        ops = λ i. set_either (λ (q : Party). q.op < op_limit) r.parties (looked_client r e) p.party idle i left.op (k.ops i);
        messages = sent_ops p.message (members_of r.settings.replicas p.to) (cleared p.clear (slot_of e) r.wire) left.message
            (cleared_ops p.clear (slot_of e) r.wire k.messages);
        entries = recorded_fits p.note r.count r.lines room left.note k.entries;
      }

-- ---- a run

-- what an event leaves alone, a run leaves alone
pub run_keeps : (P : Rack → Type 0) → ((r : Rack) (e : Event) (p : Plan) → sound_of r ≡ true → decided r e ≡ Ok p → P r → P (applied_of r e p))
    → (done : ℕ) (r : Rack) (n : ℕ) (es : List ℕ) → sound_of r ≡ true → P r → P (run_from done r n es).rack
unfolding run_from turn
run_keeps P step done r zero es s h = h
run_keeps P step done r (suc n) [] s h = h
run_keeps P step done r (suc n) (k ∷ []) s h = h
run_keeps P step done r (suc n) (k ∷ a ∷ []) s h = h
run_keeps P step done r (suc n) (k ∷ a ∷ b ∷ []) s h = h
run_keeps P step done r (suc n) (k ∷ a ∷ b ∷ v ∷ es) s h = go (decided r (event_of k a b v)) refl (λ q. run_keeps P step (done + 1) q n es)
  where
    go : (o : Decision) → decided r (event_of k a b v) ≡ o → ((q : Rack) → sound_of q ≡ true → P q → P (run_from (done + 1) q n es).rack)
        → P (turn done r (event_of k a b v) o (λ q. run_from (done + 1) q n es)).rack
    go (Err x) e ih = h
    go (Ok p) e ih = ih (applied_of r (event_of k a b v) p) (sound_stays r (event_of k a b v) p s e) (step r (event_of k a b v) p s e h)

pub run_writable : (ws : List ℕ) (r : Rack) (n : ℕ) (es : List ℕ) → sound_of r ≡ true → Writable ws r → Writable ws (run_of r n es).rack
run_writable ws r n es s k = rw (run_from_lem r n es) (run_keeps (Writable ws) (λ q e p h g. writable_stays ws q e p h g) 0 r n es s k)
