-- What an event of a sound rack looks at is there, and what is decided on it stays in the rack.
use Rattle.std.specs.Prelude.{◌+◌, ◌≤◌, ◌<◌, ◌≡◌, refl, Bool, true, false, not, ◌&&◌, ltb, get_or, None, Some, Ok, Option}
use Rattle.std.proofs.Common.{ap, sym, subst, arith, ltb-true, ltb-false}
use Rattle.std.specs.Int.Count.{ones}
use Rattle.method.specs.declared.Message.{Message}
use Rattle.record.specs.Record.{entry_limit}
use Rattle.stamps.specs.Stamp.{fresh_pair}
use Rattle.method.specs.declared.Event.{Event}
use Rattle.method.specs.declared.Event.TheVariants.{StartRead, StartWrite, Deliver, Lose, Copy, Resend, Stop, Off, On, Unknown}
use Rattle.method.specs.declared.Plan.{Plan}
use Rattle.method.specs.About.{client_in, client_of}
use Rattle.method.specs.Method.{Delivers, Does}
use Rattle.method.specs.Method.Delivers.{tells, takes, hears, chooses, counts, ends, spends}
use Rattle.method.specs.Refusals.{is_start, decision_of}
use Rattle.method.specs.laws.Tests.{never, and_left}
use Rattle.method.proofs.theorems.MethodLaws.{method}
use Rattle.rack.specs.declared.Settings.{Settings}
use Rattle.rack.specs.declared.Rack.{Rack}
use Rattle.rack.specs.Places.{slot_limit, pair_limit, room_of}
use Rattle.rack.specs.Sound.{pair_fits, held_fits, owed, sound_of}
use Rattle.rack.specs.Looking.{in_rack, slot_of, place_in, looked_held, looked_client, looked_party, looked_pair, sight}
use Rattle.rack.specs.Refusals.{plan_for, record_full, freed, wire_full, applies, decided}
use Rattle.rack.specs.laws.SoundLaws.{Sized, named, Sound, sound_of_lem}
use Rattle.rack.specs.laws.PlanLaws.{kept_for, plan_fits}
use Rattle.rack.proofs.theorems.Table.{known, decided_go, decided_none}
use Rattle.rack.specs.laws.Decided.{Looked, Decided}

slot_in_lem : (z : Settings) (e : Event) → in_rack z e ≡ true → slot_of e < slot_limit
unfolding in_rack slot_of
slot_in_lem z (StartRead client cell) h = omega arith
slot_in_lem z (StartWrite client cell v) h = omega arith
slot_in_lem z (Deliver slot) h = ltb-true slot slot_limit h
slot_in_lem z (Lose slot) h = ltb-true slot slot_limit h
slot_in_lem z (Copy slot) h = ltb-true slot slot_limit h
slot_in_lem z (Resend client) h = omega arith
slot_in_lem z (Stop client) h = omega arith
slot_in_lem z (Off replica) h = omega arith
slot_in_lem z (On replica) h = omega arith
slot_in_lem z Unknown h = omega arith

client_in_lem : (z : Settings) → Sized z → (held : Option Message) → held_fits z held ≡ true → client_in held < z.clients
unfolding client_in held_fits
client_in_lem z n None h = n.some_client
client_in_lem z n (Some m) h = (named z m h).client

client_of_lem : (z : Settings) → Sized z → (held : Option Message) → held_fits z held ≡ true → (e : Event) → in_rack z e ≡ true → client_of e held < z.clients
unfolding in_rack client_of
client_of_lem z n held h (StartRead client cell) i = ltb-true client.0 z.clients (and_left (ltb client.0 z.clients) (ltb cell.0 z.cells) i)
client_of_lem z n held h (StartWrite client cell v) i = ltb-true client.0 z.clients (and_left (ltb client.0 z.clients) (ltb cell.0 z.cells) i)
client_of_lem z n held h (Deliver slot) i = client_in_lem z n held h
client_of_lem z n held h (Lose slot) i = client_in_lem z n held h
client_of_lem z n held h (Copy slot) i = client_in_lem z n held h
client_of_lem z n held h (Resend client) i = ltb-true client.0 z.clients i
client_of_lem z n held h (Stop client) i = ltb-true client.0 z.clients i
client_of_lem z n held h (Off replica) i = n.some_client
client_of_lem z n held h (On replica) i = n.some_client
client_of_lem z n held h Unknown i = n.some_client

place_in_lem : (z : Settings) → Sized z → (held : Option Message) → held_fits z held ≡ true → place_in held < pair_limit
unfolding place_in held_fits
place_in_lem z n None h = omega arith
place_in_lem z n (Some m) h = let q = named z m h in omega (arith, q.replica, q.cell, n.replicas, n.cells)

pair_in_lem : (r : Rack) → Sound r → (held : Option Message) → held_fits r.settings held ≡ true → pair_fits r.settings (get_or r.pairs (place_in held) fresh_pair) ≡ true
unfolding place_in held_fits
pair_in_lem r s None h = s.pairs 0 0 s.settings.some_replica s.settings.some_cell
pair_in_lem r s (Some m) h = let q = named r.settings m h in s.pairs m.replica.0 m.cell.0 q.replica q.cell

pub looked : (r : Rack) → Sound r → (e : Event) → in_rack r.settings e ≡ true → Looked r e
looked r s e i =
    let hs = slot_in_lem r.settings e i in
    let hh = s.slots (slot_of e) hs in
    let hc = client_of_lem r.settings s.settings (looked_held r e) hh e i in
    record {
      slot = hs;
      client = hc;
      place = place_in_lem r.settings s.settings (looked_held r e) hh;
      held = hh;
      work = s.parties (looked_client r e) hc;
      pair = pair_in_lem r s (looked_held r e) hh;
    }

-- ---- an event that is done

-- a test that fails the other way about
not_false : (t : Bool) → not t ≡ false → t ≡ true
not_false true q = refl
not_false false q = never (sym q)

-- 2: an event is done on a sound rack only
pub decided_sound : (r : Rack) (e : Event) (p : Plan) → decided r e ≡ Ok p → sound_of r ≡ true
unfolding applies
decided_sound r e p d = not_false (sound_of r) (decided_none r e p d 2)

-- 3: its numbers are in the rack
pub decided_inside : (r : Rack) (e : Event) (p : Plan) → decided r e ≡ Ok p → in_rack r.settings e ≡ true
unfolding applies
decided_inside r e p d = not_false (in_rack r.settings e) (decided_none r e p d 3)

-- its plan is the one that its sight gives, and is of the method
pub decided_plan : (r : Rack) (e : Event) (p : Plan) → decided r e ≡ Ok p → decision_of (sight r e) (looked_held r e) e ≡ Ok p
unfolding applies decision_of
decided_plan r e p d =
    let n = decided_none r e p d in
    let i = known r.settings e (decided_inside r e p d) in
    rw (i, n 4, n 5, n 6, n 7, n 8, n 9, n 10, n 12) (ap Ok (decided_go r e p d).1)

pub decided_does : (r : Rack) (e : Event) (p : Plan) → decided r e ≡ Ok p → Does (sight r e) (looked_held r e) e p
decided_does r e p d = method (sight r e) (looked_held r e) e p (decided_plan r e p d)

-- 11: the record has room for the entry of a start, and its answer
note_room : (r : Rack) (e : Event) (p : Plan) → Does (sight r e) (looked_held r e) e p → record_full r e ≡ false → r.count + owed r ≤ entry_limit
    → r.count + owed r + kept_for p.note ≤ entry_limit
unfolding record_full is_start
note_room r e p x f h = go (looked_held r e) e x f
  where
    Room : Plan → Type 0
    Room q = r.count + owed r + kept_for q.note ≤ entry_limit

    delivered : (m : _) → Delivers (sight r e) m p → Room p
    delivered m (tells y) = subst Room (sym y.plan) (omega arith)
    delivered m (takes y) = subst Room (sym y.plan) (omega arith)
    delivered m (hears y) = subst Room (sym y.plan) (omega arith)
    delivered m (chooses y) = subst Room (sym y.plan) (omega arith)
    delivered m (counts y) = subst Room (sym y.plan) (omega arith)
    delivered m (ends y) = subst Room (sym y.plan) (omega arith)
    delivered m (spends y) = subst Room (sym y.plan) (omega arith)

    go : (held : Option Message) (ev : Event) → Does (sight r e) held ev p → (is_start ev && ltb entry_limit (r.count + owed r + 2)) ≡ false → Room p
    go held (StartRead client cell) y q = subst Room (sym y.plan) (ltb-false entry_limit (r.count + owed r + 2) q)
    go held (StartWrite client cell v) y q = subst Room (sym y.plan) (ltb-false entry_limit (r.count + owed r + 2) q)
    go None (Deliver slot) y q = absurd y
    go (Some m) (Deliver slot) y q = delivered m y
    go None (Lose slot) y q = absurd y
    go (Some m) (Lose slot) y q = subst Room (sym y) (omega arith)
    go None (Copy slot) y q = absurd y
    go (Some m) (Copy slot) y q = subst Room (sym y) (omega arith)
    go held (Resend client) y q = subst Room (sym y.plan) (omega arith)
    go held (Stop client) y q = subst Room (sym y.plan) (omega arith)
    go held (Off replica) y q = subst Room (sym y.plan) (omega arith)
    go held (On replica) y q = subst Room (sym y.plan) (omega arith)
    go held Unknown y q = absurd y

-- 13: the wire has room for what is sent
sent_room : (r : Rack) (e : Event) (p : Plan) → decided r e ≡ Ok p → ones p.to ≤ room_of r.wire + freed p.clear
unfolding applies wire_full
sent_room r e p d =
    let f : ltb (room_of r.wire + freed (plan_for r e).clear) (ones (plan_for r e).to) ≡ false = decided_none r e p d 13 in
    subst (λ (q : Plan). ones q.to ≤ room_of r.wire + freed q.clear) (decided_go r e p d).1
    (ltb-false (room_of r.wire + freed (plan_for r e).clear) (ones (plan_for r e).to) f)

pub decided_fits : (r : Rack) (e : Event) (p : Plan) → sound_of r ≡ true → decided r e ≡ Ok p → Decided r e p
unfolding applies
decided_fits r e p h d =
    let s = sound_of_lem r h in
    let i = decided_inside r e p d in
    let l = looked r s e i in
    let x = decided_does r e p d in
    let f = plan_fits r.settings s.settings r.power (looked_party r e) (looked_pair r e) l.work l.pair (looked_held r e) l.held e i p x in
    record {
      inside = i;
      looked = l;
      does = x;
      fits = f;
      entries = omega (arith, f.entries, note_room r e p x (decided_none r e p d 11) s.entries);
      room = sent_room r e p d;
    }
