-- What the loop of a schedule knows, and one turn of it.
use Rattle.std.specs.Prelude.{ℕ, suc, ◌+◌, ◌-◌, ◌*◌, ◌/◌, ◌≤◌, ◌<◌, ◌≡◌, refl, Bool, true, false, List, [], ◌∷◌, leb, get_or, set, drop, Err, Ok}
use Rattle.std.proofs.Math.Path.{ap, sym}
use Rattle.std.proofs.Common.{◌∙◌, arith, length-set, leb-true, leb-false}
use Rattle.std.specs.Int.Count.{ones}
use Rattle.std.proofs.Math.ListN.{length}
use Rattle.record.specs.declared.Entry.{Entry}
use Rattle.record.specs.Entry.{client_limit}
use Rattle.record.specs.Record.{entry_limit}
use Rattle.slots.specs.Free.{marked_at}
use Rattle.slots.specs.Words.{Maps}
use Rattle.quorum.specs.Sets.{members_of}
use Rattle.quorum.proofs.theorems.SetLaws.{within_below}
use Rattle.quorum.proofs.theorems.Members.{members_count}
use Rattle.method.specs.declared.Message.{Message}
use Rattle.rack.specs.declared.Slot.{Slot}
use Rattle.rack.specs.declared.Rack.{Rack}
use Rattle.stamps.specs.Stamp.{fresh_pair}
use Rattle.method.specs.declared.Event.{Event}
use Rattle.method.specs.declared.Note.{Note}
use Rattle.method.specs.declared.Note.TheVariants.{Nothing, Asked, Ended}
use Rattle.method.specs.declared.Plan.{Plan}
use Rattle.method.specs.Decision.{Decision, refused}
use Rattle.method.specs.Refusals.{decision_of}
use Rattle.rack.specs.Places.{slot_limit, pair_limit, empty, idle, held_in, free_at, room_of, sent_of}
use Rattle.rack.specs.Sound.{sound_of, owed_in, quorums_of}
use Rattle.rack.specs.laws.Owed.{owed_in_lem}
use Rattle.method.specs.About.{client_of}
use Rattle.rack.specs.Run.{addressed, cleared, recorded, entries_in, applied_of, turn, ran_of, run_from}
use Rattle.rack.specs.Refusals.{freed, checked, decided}
use Rattle.rack.specs.Looking.{in_rack, slot_of, place_in}
use Rattle.rack.specs.laws.SoundLaws.{sound_of_lem, bits_enough}
use Rattle.rack.proofs.theorems.Table.{in_order_lem}
use Rattle.rack.specs.laws.Decided.{Looked, Decided}
use Rattle.rack.proofs.theorems.Decided.{looked, decided_fits}
use Rattle.rack.specs.Looking.{looked_client, looked_place}
use Rattle.runs.specs.laws.Stays.{stays, sound_stays}
use Rattle.runs.specs.laws.Steps.{nth_event, tried, used_up_lem, ended}
use Rattle.runs.specs.laws.Sending.{room_most, slot_after, cleared_is, cleared_room, Sending, sending_start, sending_end, sent_long, sent_room}

-- ---- the rack after a plan, in parts

pub cleared_long : (b : Bool) (j : ℕ) (w : List Slot) → length (cleared b j w) ≡ length w
unfolding cleared
cleared_long true j w = length-set w j empty
cleared_long false j w = refl

pub applied_wire : (r : Rack) (e : Event) (p : Plan) → length (applied_of r e p).wire ≡ length r.wire
unfolding applied_of
applied_wire r e p = sent_long _ (addressed p.message (members_of r.settings.replicas p.to)) ∙ cleared_long p.clear (slot_of e) r.wire

pub applied_parties : (r : Rack) (e : Event) (p : Plan) → length (applied_of r e p).parties ≡ length r.parties
unfolding applied_of
applied_parties r e p = length-set r.parties (looked_client r e) p.party

addressed_count : (m : Message) (ks : List ℕ) → length (addressed m ks) ≡ length ks
unfolding addressed
addressed_count m [] = refl
addressed_count m (k ∷ ks) = ap suc (addressed_count m ks)

-- the slot that is freed is free again, and each message takes one
pub room_after : (r : Rack) (e : Event) (p : Plan) → Decided r e p → length r.wire ≡ slot_limit
    → room_of (applied_of r e p).wire + ones p.to ≡ room_of r.wire + freed p.clear
unfolding applied_of free_at
room_after r e p d l =
    let w : List Slot = cleared p.clear (slot_of e) r.wire in
    let ms : List Message = addressed p.message (members_of r.settings.replicas p.to) in
    let c : room_of w ≡ room_of r.wire + freed p.clear = cleared_room p.clear (slot_of e) r.wire d.looked.slot l d.fits.slot in
    let o : length ms ≡ ones p.to =
    addressed_count p.message (members_of r.settings.replicas p.to)
    ∙ members_count r.settings.replicas p.to (within_below r.settings.replicas p.to d.fits.to) in
    let b : length ms ≤ room_of w = omega (arith, o, c, d.room) in
    omega (arith, sent_room w ms (cleared_long p.clear (slot_of e) r.wire ∙ l) b, o, c)

-- ---- what the loop knows at event i: the run from here is the whole run, and the rack is sound; its free slots and its answers owed are at hand

-- i events were done and left the sound rack r: running on from it gives the whole run; free and room are its free slots
pub record Going (self : Rack) (allowance : ℕ) (ws : List ℕ) (r : Rack) (free : List ℕ) (room i : ℕ) : Type 0 where
  pub steps : run_from 0 self allowance ws ≡ run_from i r (allowance - i) (drop (4 * i) ws)
  pub sound : sound_of r ≡ true
  pub tied : Maps (free_at r.wire) free
  pub rooms : room ≡ room_of r.wire
  pub wire_long : length r.wire ≡ slot_limit

pub going_start : (self : Rack) (allowance : ℕ) (ws : List ℕ) (free : List ℕ) (room : ℕ) → sound_of self ≡ true → Maps (free_at self.wire) free → room ≡ room_of self.wire
    → length self.wire ≡ slot_limit → Going self allowance ws self free room 0
going_start self allowance ws free room so t m l =
    let e : allowance ≡ allowance - 0 = omega arith in
    record { steps = ap (λ (n : ℕ). run_from 0 self n ws) e; sound = so; tied = t; rooms = m; wire_long = l }

-- how many events can be tried: the whole ones, as far as the allowance goes
pub record Most (allowance words n : ℕ) : Type 0 where
  pub below : n ≤ allowance
  pub whole : 4 * n ≤ words
  pub last : n < allowance → words < 4 * n + 4

-- the parts of the rack that an event looks at are there
pub record There (j c a : ℕ) : Type 0 where
  pub slot : j < slot_limit
  pub client : c < client_limit
  pub pair : a < pair_limit

module _ (self : Rack) (allowance : ℕ) (ws : List ℕ) (r : Rack) (free : List ℕ) (room i : ℕ) (g : Going self allowance ws r free room i) where
  -- the allowance is used, or the list has ended
  pub going_stop : allowance ≤ i → ran_of i 0 r ≡ run_from 0 self allowance ws
  going_stop h = sym (g.steps ∙ used_up_lem i r allowance i (drop (4 * i) ws) h)

  pub going_end : length ws / 4 ≤ i → ran_of i 0 r ≡ run_from 0 self allowance ws
  going_end h = sym (g.steps ∙ ended i r (allowance - i) i ws h)

  pub going_out : (n : ℕ) → Most allowance (length ws) n → n ≤ i → ran_of i 0 r ≡ run_from 0 self allowance ws
  going_out n m h = go (leb allowance i) refl
    where
      go : (t : Bool) → leb allowance i ≡ t → ran_of i 0 r ≡ run_from 0 self allowance ws
      go true e = going_stop (leb-true allowance i e)
      go false e = let l : i < allowance = leb-false allowance i e in going_end (omega (arith, m.last (omega arith)))

  next : (e : Event) → e ≡ nth_event ws i → (o : Decision) → decided r e ≡ o → i < allowance → i < length ws / 4
      → run_from 0 self allowance ws ≡ turn i r e o (λ q. run_from (i + 1) q (allowance - (i + 1)) (drop (4 * (i + 1)) ws))
  next e ee o d h l =
      g.steps ∙ tried i r allowance i ws h l
      ∙ ap (λ (x : Event). turn i r x (decided r x) (λ q. run_from (i + 1) q (allowance - (i + 1)) (drop (4 * (i + 1)) ws))) (sym ee)
      ∙ ap (λ (x : Decision). turn i r e x (λ q. run_from (i + 1) q (allowance - (i + 1)) (drop (4 * (i + 1)) ws))) d

  -- an event is refused
  pub going_no : (e : Event) → e ≡ nth_event ws i → (k n : ℕ) → decided r e ≡ Err k → Most allowance (length ws) n → i < n → ran_of i k r ≡ run_from 0 self allowance ws
  unfolding turn
  going_no e ee k n d m h = sym (next e ee (Err k) d (omega (arith, m.below)) (omega (arith, m.whole)))

  -- a number that is not in this rack
  pub not_there : (e : Event) → in_rack r.settings e ≡ false → decided r e ≡ refused 3
  not_there e h = in_order_lem r e g.sound ∙ rw h

  pub there_slot : (e : Event) (j : ℕ) → in_rack r.settings e ≡ true → j ≡ slot_of e → j < slot_limit
  there_slot e j h ej = rw ej (looked r (sound_of_lem r g.sound) e h).slot

  pub there : (e : Event) (j c a : ℕ) → in_rack r.settings e ≡ true → j ≡ slot_of e → c ≡ client_of e (held_in r.wire j) → a ≡ place_in (held_in r.wire j) → There j c a
  there e j c a h ej ec ea =
      let l : Looked r e = looked r (sound_of_lem r g.sound) e h in
      let kc : c ≡ looked_client r e = rw ej at ec in
      let ka : a ≡ looked_place r e = rw ej at ea in
      record { slot = there_slot e j h ej; client = omega (arith, l.client, (sound_of_lem r g.sound).settings.clients); pair = omega (arith, l.place) }

  -- the outcome is the definition's
  pub going_plan : (e : Event) (j c a : ℕ) (q o : Decision) → in_rack r.settings e ≡ true → j ≡ slot_of e → c ≡ client_of e (held_in r.wire j)
      → a ≡ place_in (held_in r.wire j)
      → q ≡ decision_of (record {
        quorums = quorums_of r.settings;
        power = r.power;
        party = get_or r.parties c idle;
        pair = get_or r.pairs a fresh_pair;
      }) (held_in r.wire j) e
      → o ≡ checked q (r.count + owed_in r.settings.clients r.parties) room → decided r e ≡ o
  going_plan e j c a q o h ej ec ea eq eo = in_order_lem r e g.sound ∙ sym (eo ∙ rw (eq, h, g.rooms, ← owed_in_lem r, ec, ea, ej))

  -- its slot is full where it is emptied
  going_full : (e : Event) (j : ℕ) (p : Plan) → decided r e ≡ Ok p → j ≡ slot_of e → p.clear ≡ true → free_at r.wire j ≡ false
  unfolding free_at
  going_full e j p d ej h = rw ej ((decided_fits r e p g.sound d).fits.slot h)

  -- the loop that sends begins
  pub going_send : (e : Event) (j : ℕ) (p : Plan) (s : Slot) (after : List ℕ) → decided r e ≡ Ok p → j ≡ slot_of e → s ≡ slot_after p.clear (get_or r.wire j empty)
      → ((f : ℕ → Bool) → Maps f free → Maps (marked_at p.clear f j) after)
      → Sending r.settings.replicas (set r.wire j s) p.message p.to (set r.wire j s) after p.to
  going_send e j p s after d ej es k =
      let f : Decided r e p = decided_fits r e p g.sound d in
      sending_start r.settings.replicas r.wire j p.clear s p.message p.to free after es (there_slot e j f.inside ej) g.wire_long
      (going_full e j p d ej) g.tied k f.room (within_below r.settings.replicas p.to f.fits.to)
      (bits_enough r.settings (sound_of_lem r g.sound).settings)

  -- the entry finds its place
  pub going_entry : (e : Event) (p : Plan) → decided r e ≡ Ok p → r.count + entries_in p.note ≤ entry_limit
  unfolding applied_of
  going_entry e p d = omega (arith, (stays r e p g.sound d).entries)

  -- the count of the free slots can be kept
  pub room_fits : (e : Event) (p : Plan) → decided r e ≡ Ok p → (ones p.to ≤ room + freed p.clear) × (room ≤ slot_limit)
  room_fits e p d = (omega (arith, g.rooms, (decided_fits r e p g.sound d).room), omega (arith, g.rooms, room_most r.wire))

  -- the next turn
  pub going_on : (e : Event) → e ≡ nth_event ws i → (p : Plan) (s : Rack) (after : List ℕ) (f n : ℕ) → decided r e ≡ Ok p
      → Most allowance (length ws) n → i < n → s ≡ applied_of r e p → Maps (free_at s.wire) after
      → f ≡ room + freed p.clear - ones p.to → Going self allowance ws s after f (i + 1)
  unfolding turn
  going_on e ee p s after f n d m h es t ef =
      record {
        steps = next e ee (Ok p) d (omega (arith, m.below)) (omega (arith, m.whole))
            ∙ ap (λ (q : Rack). run_from (i + 1) q (allowance - (i + 1)) (drop (4 * (i + 1)) ws)) (sym es);
        sound = ap sound_of es ∙ sound_stays r e p g.sound d;
        tied = t;
        rooms = omega (arith, ef, g.rooms, room_after r e p (decided_fits r e p g.sound d) g.wire_long, ap (λ (q : Rack). room_of q.wire) es);
        wire_long = ap (λ (q : Rack). length q.wire) es ∙ applied_wire r e p ∙ g.wire_long;
      }

-- ---- the stores of a turn are the rack after the plan

-- a rack with another wire
abbrev pub wired : Rack → List Slot → Rack
wired r w = record { settings = r.settings; power = r.power; count = r.count; parties = r.parties; pairs = r.pairs; wire = w; lines = r.lines }

-- a rack with one entry more
abbrev pub entered : Rack → Entry → Rack
entered r e =
    record {
      settings = r.settings;
      power = r.power;
      count = r.count + 1;
      parties = r.parties;
      pairs = r.pairs;
      wire = r.wire;
      lines = set r.lines r.count (record { entry = e });
    }

-- the rack before its messages are sent and its entry stands
abbrev pub turned : Rack → Plan → ℕ → ℕ → ℕ → Slot → Rack
turned r p j c a s =
    record {
      settings = r.settings;
      power = p.power;
      count = r.count;
      parties = set r.parties c p.party;
      pairs = set r.pairs a p.pair;
      wire = set r.wire j s;
      lines = r.lines;
    }

-- the inner loop: only the wire changes
pub record Shipping (v : Rack) (m : Message) (to : ℕ) (r : Rack) (free : List ℕ) (left : ℕ) : Type 0 where
  pub same : r ≡ wired v r.wire
  pub send : Sending v.settings.replicas v.wire m to r.wire free left

pub shipping_more : (v : Rack) (m : Message) (to : ℕ) (r : Rack) (free : List ℕ) (left : ℕ) → Shipping v m to r free left
    → (w : List Slot) (after : List ℕ) (x : ℕ) → Sending v.settings.replicas v.wire m to w after x → Shipping v m to (wired r w) after x
shipping_more v m to r free left s w after x n = record { same = ap (λ (q : Rack). wired q w) s.same; send = n }

pub shipping_end : (v : Rack) (m : Message) (to : ℕ) (r : Rack) (free : List ℕ) (left : ℕ) → Shipping v m to r free left → left ≡ 0
    → r ≡ wired v (sent_of v.wire (addressed m (members_of v.settings.replicas to)))
shipping_end v m to r free left s e = s.same ∙ ap (wired v) (sym (sending_end v.settings.replicas v.wire m to r.wire free left s.send e))

-- an entry's place after the inner loop
pub entry_place : (v : Rack) (m : Message) (to : ℕ) (q : Rack) (free : List ℕ) (left : ℕ) → Shipping v m to q free left → (n : Note) → entries_in n ≡ 1
    → v.count + entries_in n ≤ entry_limit → q.count < entry_limit
entry_place v m to q free left s n o h = let c : q.count ≡ v.count = ap (λ (x : Rack). x.count) s.same in omega arith

pub asked_one : (n : Note) (x : Entry) → n ≡ Asked x → entries_in n ≡ 1
unfolding entries_in
asked_one n x e = rw e

pub ended_one : (n : Note) (x : Entry) → n ≡ Ended x → entries_in n ≡ 1
unfolding entries_in
ended_one n x e = rw e

-- after the inner loop, with no entry
pub turned_none : (r : Rack) (e : Event) (p : Plan) (j c a : ℕ) (s : Slot) (q : Rack) → j ≡ slot_of e → c ≡ client_of e (held_in r.wire j) → a ≡ place_in (held_in r.wire j)
    → s ≡ slot_after p.clear (get_or r.wire j empty) → p.note ≡ Nothing
    → q ≡ wired (turned r p j c a s) (sent_of (set r.wire j s) (addressed p.message (members_of r.settings.replicas p.to))) → q ≡ applied_of r e p
unfolding applied_of entries_in recorded
turned_none r e p j c a s q ej ec ea es en eq =
    let z : r.count ≡ r.count + 0 = omega arith in
    eq ∙ rw (en, es, cleared_is p.clear j r.wire, ec, ea, ej, ← z)

-- with one
pub turned_asked : (r : Rack) (e : Event) (p : Plan) (j c a : ℕ) (s : Slot) (x : Entry) (q : Rack) → j ≡ slot_of e → c ≡ client_of e (held_in r.wire j)
    → a ≡ place_in (held_in r.wire j) → s ≡ slot_after p.clear (get_or r.wire j empty) → p.note ≡ Asked x
    → q ≡ wired (turned r p j c a s) (sent_of (set r.wire j s) (addressed p.message (members_of r.settings.replicas p.to))) → entered q x ≡ applied_of r e p
unfolding applied_of entries_in recorded
turned_asked r e p j c a s x q ej ec ea es en eq = ap (λ (y : Rack). entered y x) eq ∙ rw (en, es, cleared_is p.clear j r.wire, ec, ea, ej)

pub turned_ended : (r : Rack) (e : Event) (p : Plan) (j c a : ℕ) (s : Slot) (x : Entry) (q : Rack) → j ≡ slot_of e → c ≡ client_of e (held_in r.wire j)
    → a ≡ place_in (held_in r.wire j) → s ≡ slot_after p.clear (get_or r.wire j empty) → p.note ≡ Ended x
    → q ≡ wired (turned r p j c a s) (sent_of (set r.wire j s) (addressed p.message (members_of r.settings.replicas p.to))) → entered q x ≡ applied_of r e p
unfolding applied_of entries_in recorded
turned_ended r e p j c a s x q ej ec ea es en eq = ap (λ (y : Rack). entered y x) eq ∙ rw (en, es, cleared_is p.clear j r.wire, ec, ea, ej)
