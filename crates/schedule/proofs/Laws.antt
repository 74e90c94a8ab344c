-- A turn of the loop, from what it counts on.
use Rattle.std.proofs.Common.{ℕ, ◌+◌, ◌-◌, ◌<◌, ◌≡◌, Bool, true, false, List, [], length, Ok, None, Some, Option, get_or, set, refl, ap, ◌⊎◌, inl, inr, not, is_some, ◌∙◌, arith}
use Rattle.std.specs.Int.Count.{ones}
use Rattle.slots.specs.Words.{Maps}
use Rattle.quorum.specs.Sets.{members_of}
use Rattle.method.specs.declared.Event.{Event}
use Rattle.method.specs.declared.Message.{Message}
use Rattle.method.specs.declared.Note.{Note}
use Rattle.method.specs.declared.Note.TheVariants.{Nothing, Asked, Ended}
use Rattle.record.specs.declared.Entry.{Entry}
use Rattle.method.specs.Refusals.{is_empty}
use Rattle.method.specs.declared.Plan.{Plan}
use Rattle.method.specs.About.{client_of}
use Rattle.rack.specs.declared.Rack.{Rack}
use Rattle.rack.specs.declared.Slot.{Slot}
use Rattle.rack.specs.Places.{empty, held_in, free_at, room_of, sent_of}
use Rattle.rack.specs.Looking.{in_rack, slot_of, place_in}
use Rattle.rack.specs.Sound.{sound_of}
use Rattle.rack.specs.Run.{addressed, applied_of, entries_in, recorded, ran_of, run_of}
use Rattle.rack.specs.Refusals.{freed, decided}
use Rattle.rack.proofs.theorems.Decided.{decided_fits}
use Rattle.runs.specs.laws.Stays.{sound_stays}
use Rattle.runs.specs.laws.Steps.{nth_event, none_allowed, none_there}
use Rattle.runs.specs.laws.Sending.{slot_after, cleared_is}
use Rattle.runs.specs.laws.Loop.{Going, There, Most, going_start, going_on, there, turned, wired, room_after, applied_wire, entered, asked_one, ended_one}
use Rattle.schedule.specs.declared.Free.{Free}
use Rattle.schedule.specs.laws.Turns.{Ready, noted}

-- the loop at its start
pub going_of : (r : Rack) (free : Free) → Ready r free → Going r 0 [] r free.map free.room 0
going_of r free y = going_start r 0 [] free.map free.room y.sound y.tied y.rooms y.wire_long

-- what an event looks at is there
pub seen : (r : Rack) (free : Free) → Ready r free → (e : Event) (j c a : ℕ) → in_rack r.settings e ≡ true → j ≡ slot_of e → c ≡ client_of e (held_in r.wire j)
    → a ≡ place_in (held_in r.wire j) → There j c a
seen r free y = there r 0 [] r free.map free.room 0 (going_of r free y)

pub inside : (r : Rack) (free : Free) → Ready r free → (e : Event) (p : Plan) → decided r e ≡ Ok p → in_rack r.settings e ≡ true
inside r free y e p d = (decided_fits r e p y.sound d).inside

-- ---- the rack after an event

pub turned_noted : (r : Rack) (e : Event) (p : Plan) (j c a : ℕ) (s : Slot) (q : Rack) → j ≡ slot_of e → c ≡ client_of e (held_in r.wire j) → a ≡ place_in (held_in r.wire j)
    → s ≡ slot_after p.clear (get_or r.wire j empty)
    → q ≡ wired (turned r p j c a s) (sent_of (set r.wire j s) (addressed p.message (members_of r.settings.replicas p.to))) → noted q p.note ≡ applied_of r e p
unfolding noted applied_of
turned_noted r e p j c a s q ej ec ea es eq = ap (λ (y : Rack). noted y p.note) eq ∙ rw (es, cleared_is p.clear j r.wire, ec, ea, ej)

pub noted_wire : (q : Rack) (n : Note) → (noted q n).wire ≡ q.wire
unfolding noted
noted_wire q n = refl

module _ (r : Rack) (e : Event) (p : Plan) (d : decided r e ≡ Ok p) (s : Rack) (after : Free) (es : s ≡ applied_of r e p) where
  pub ready_next : (free : Free) → Ready r free → (w : List Slot) → s.wire ≡ w → Maps (free_at w) after.map → after.room ≡ free.room + freed p.clear - ones p.to → Ready s after
  ready_next free y w ew t f =
      record {
        sound = ap sound_of es ∙ sound_stays r e p y.sound d;
        tied = rw ew t;
        rooms = omega (arith, f, y.rooms, room_after r e p (decided_fits r e p y.sound d) y.wire_long, ap (λ (q : Rack). room_of q.wire) es);
        wire_long = ap (λ (q : Rack). length q.wire) es ∙ applied_wire r e p ∙ y.wire_long;
      }

  -- the loop goes on from there
  pub going_next : (self : Rack) (allowance : ℕ) (ws : List ℕ) (free : List ℕ) (room i n : ℕ) → Going self allowance ws r free room i → e ≡ nth_event ws i
      → Most allowance (length ws) n → i < n → Ready s after → Going self allowance ws s after.map after.room (i + 1)
  going_next self allowance ws free room i n g ee m h y =
      going_on self allowance ws r free room i g e ee p s after.map after.room n d m h es y.tied
      (omega (arith, y.rooms, g.rooms, room_after r e p (decided_fits r e p g.sound d) g.wire_long, ap (λ (q : Rack). room_of q.wire) es))

-- ---- the entry of an event

pub noted_none : (r : Rack) (n : Note) → n ≡ Nothing → r ≡ noted r n
unfolding noted entries_in recorded
noted_none r n e = let z : r.count + 0 ≡ r.count = omega arith in rw (e, z)

pub one_entry : (n : Note) (x : Entry) → (n ≡ Asked x) ⊎ (n ≡ Ended x) → entries_in n ≡ 1
one_entry n x (inl e) = asked_one n x e
one_entry n x (inr e) = ended_one n x e

pub noted_one : (r : Rack) (n : Note) (x : Entry) → (n ≡ Asked x) ⊎ (n ≡ Ended x) → entered r x ≡ noted r n
unfolding noted entries_in recorded
noted_one r n x (inl e) = rw e
noted_one r n x (inr e) = rw e

-- ---- a slot that holds nothing

pub holds_none : (o : Option Message) (b : Bool) → is_some o ≡ not b → b ≡ is_empty o
holds_none None true e = refl
holds_none None false e = cc
holds_none (Some m) true e = cc
holds_none (Some m) false e = refl

-- ---- no event is tried

pub none_tried : (r : Rack) (allowance : ℕ) (ws : List ℕ) → (allowance ≡ 0) ⊎ ((allowance ≡ 0 → ⊥) × (length ws < 4)) → run_of r allowance ws ≡ ran_of 0 0 r
none_tried r allowance ws (inl e) = none_allowed r allowance ws e
none_tried r allowance ws (inr h) = none_there r allowance ws h.1
