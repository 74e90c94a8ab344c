-- The wire: messages to be sent take the lowest free slots in order, each leaves one slot less, and with enough room each finds one.
use Rattle.std.specs.Prelude.{ℕ, ◌+◌, ◌^◌, ◌≤◌, ◌<◌, ◌≡◌, refl, Bool, true, false, List, [], ◌∷◌, eqb, get_or, set, length}
use Rattle.std.proofs.Common.{ap, sym, ◌∙◌, arith, eqb-true, length-set, get_or-set_same, get_or-set_other}
use Rattle.std.proofs.lemmas.Bool.{eqb-false}
use Rattle.std.specs.Int.Count.{ones}
use Rattle.std.proofs.lemmas.List.{set-get_or}
use Rattle.slots.specs.Free.{map_words, count_from, first_free, taken_at, marked_at}
use Rattle.slots.specs.laws.FreeLaws.{taken_here, taken_else, given_here, given_else, count_same, count_most, count_taken, count_given, some_free, lowest_free, lowest_least}
use Rattle.slots.specs.Words.{Maps, Took}
use Rattle.slots.specs.laws.Finding.{tied_same}
use Rattle.slots.specs.laws.UpTo.{free_below, upto_next, upto_all}
use Rattle.method.specs.declared.Message.{Message}
use Rattle.rack.specs.declared.Slot.{Slot}
use Rattle.rack.specs.Places.{slot_limit, empty, full, held_in, free_at, room_of, sent_of}
use Rattle.method.specs.Refusals.{is_empty}
use Rattle.method.specs.Plan.{message_of}
use Rattle.rack.specs.Run.{cleared, addressed}
use Rattle.rack.specs.Refusals.{freed}
use Rattle.quorum.specs.Sets.{set_bits, members_of, lowest_of, rest_of}
use Rattle.quorum.proofs.theorems.LowestMember.{members_next, members_none, rest_less, ones_rest}

-- the lowest free slot of a wire
abbrev pub lowest_in : List Slot → ℕ
lowest_in w = first_free (free_at w)

pub room_most : (w : List Slot) → room_of w ≤ slot_limit
unfolding room_of
room_most w = count_most slot_limit 0 (free_at w)

-- the lowest free slot is one of the wire's and is free, and none below it is
pub record LowestSlot (w : List Slot) : Type 0 where
  pub below : lowest_in w < slot_limit
  pub free : free_at w (lowest_in w) ≡ true
  pub first : (j : ℕ) → j < lowest_in w → free_at w j ≡ false

-- where there is room
pub low_free : (w : List Slot) → 0 < room_of w → LowestSlot w
unfolding room_of
low_free w h =
    let b : lowest_in w < slot_limit = some_free (free_at w) h in
    record { below = b; free = lowest_free (free_at w) b; first = lowest_least (free_at w) }

-- ---- a message in a slot: it is taken, the others are as they were

pub free_taken : (w : List Slot) (i : ℕ) (m : Message) → i < length w → (k : ℕ) → free_at (set w i (full m)) k ≡ taken_at (free_at w) i k
unfolding free_at
free_taken w i m h k = go (eqb k i) refl
  where
    go : (t : Bool) → eqb k i ≡ t → is_empty (get_or (set w i (full m)) k empty).held ≡ taken_at (λ j. is_empty (get_or w j empty).held) i k
    go true e =
        let q : k ≡ i = eqb-true k i e in
        rw q (ap (λ (s : Slot). is_empty s.held) (get_or-set_same w i (full m) empty h) ∙ sym (taken_here (λ j. is_empty (get_or w j empty).held) i))
    go false e =
        let q : k ≡ i → ⊥ = eqb-false k i e in
        ap (λ (s : Slot). is_empty s.held) (get_or-set_other w i k (full m) empty q) ∙ sym (taken_else (λ j. is_empty (get_or w j empty).held) i k q)

-- one slot less is free after a message was sent
pub sent_one : (w : List Slot) (m : Message) → length w ≡ slot_limit → 0 < room_of w → room_of (set w (lowest_in w) (full m)) + 1 ≡ room_of w
unfolding room_of
sent_one w m l h =
    let f : LowestSlot w = low_free w h in
    let s = count_same slot_limit 0 (taken_at (free_at w) (lowest_in w)) (free_at (set w (lowest_in w) (full m))) (λ j a b. free_taken w (lowest_in w) m (omega (arith, l, f.below)) j) in
    omega (arith, s, count_taken (free_at w) (lowest_in w) f.below f.free)

-- ---- several messages

pub sent_long : (w : List Slot) (ms : List Message) → length (sent_of w ms) ≡ length w
unfolding sent_of
sent_long w [] = refl
sent_long w (m ∷ ms) = sent_long (set w (lowest_in w) (full m)) ms ∙ length-set w (lowest_in w) (full m)

-- each message finds a free slot
abbrev pub Finds : List Slot → List Message → Type 0
Finds w [] = Unit {0}
Finds w (m ∷ ms) = LowestSlot w × Finds (set w (lowest_in w) (full m)) ms

-- with as much room as there is to send
pub sent_finds : (w : List Slot) (ms : List Message) → length w ≡ slot_limit → length ms ≤ room_of w → Finds w ms
sent_finds w [] l h = tt
sent_finds w (m ∷ ms) l h =
    let r : 0 < room_of w = omega arith in
    (low_free w r, sent_finds (set w (lowest_in w) (full m)) ms (length-set w (lowest_in w) (full m) ∙ l) (omega (arith, sent_one w m l r)))

-- and the room falls by as many
pub sent_room : (w : List Slot) (ms : List Message) → length w ≡ slot_limit → length ms ≤ room_of w → room_of (sent_of w ms) + length ms ≡ room_of w
unfolding sent_of
sent_room w [] l h = omega arith
sent_room w (m ∷ ms) l h =
    let r : 0 < room_of w = omega arith in
    let v : List Slot = set w (lowest_in w) (full m) in
    let e : room_of v + 1 ≡ room_of w = sent_one w m l r in
    omega (arith, sent_room v ms (length-set w (lowest_in w) (full m) ∙ l) (omega arith))

-- ---- the slot of an event is emptied or not

-- a slot after the event: empty where it is cleared
unfoldable pub slot_after : Bool → Slot → Slot
slot_after true s = empty
slot_after false s = s

pub cleared_is : (b : Bool) (j : ℕ) (w : List Slot) → set w j (slot_after b (get_or w j empty)) ≡ cleared b j w
unfolding slot_after cleared
cleared_is true j w = refl
cleared_is false j w = set-get_or w j empty

-- an emptied slot is free again, the others are as they were
pub free_cleared : (b : Bool) (j : ℕ) (w : List Slot) → j < length w → (k : ℕ) → free_at (cleared b j w) k ≡ marked_at b (free_at w) j k
unfolding cleared free_at
free_cleared false j w h k = refl
free_cleared true j w h k = go (eqb k j) refl
  where
    go : (t : Bool) → eqb k j ≡ t → is_empty (get_or (set w j empty) k empty).held ≡ marked_at true (λ i. is_empty (get_or w i empty).held) j k
    go true e =
        let q : k ≡ j = eqb-true k j e in
        rw q (ap (λ (s : Slot). is_empty s.held) (get_or-set_same w j empty empty h) ∙ sym (given_here (λ i. is_empty (get_or w i empty).held) j))
    go false e =
        let q : k ≡ j → ⊥ = eqb-false k j e in
        ap (λ (s : Slot). is_empty s.held) (get_or-set_other w j k empty empty q) ∙ sym (given_else (λ i. is_empty (get_or w i empty).held) j k q)

-- a delivered slot counts as free
pub cleared_room : (b : Bool) (j : ℕ) (w : List Slot) → j < slot_limit → length w ≡ slot_limit → (b ≡ true → free_at w j ≡ false) → room_of (cleared b j w) ≡ room_of w + freed b
unfolding room_of freed
cleared_room b j w h l f = go b refl (count_same slot_limit 0 (marked_at b (free_at w) j) (free_at (cleared b j w)) (λ k x y. free_cleared b j w (omega (arith, l)) k)) f
  where
    go : (t : Bool) → b ≡ t → count_from slot_limit 0 (free_at (cleared b j w)) ≡ count_from slot_limit 0 (marked_at b (free_at w) j) → (b ≡ true → free_at w j ≡ false)
        → count_from slot_limit 0 (free_at (cleared b j w)) ≡ count_from slot_limit 0 (free_at w) + freed b
    go true e s f = s ∙ rw e (count_given (free_at w) j h (f e))
    go false e s f = s ∙ rw e (omega arith)

-- ---- the loop that sends

-- the message to replica k
unfoldable pub message_to : Message → ℕ → Message
message_to m k = message_of m.client (record { 0 = k }) m.cell m.op m.body

sent_next : (n : ℕ) (w : List Slot) (m : Message) (left k x : ℕ) → members_of n left ≡ k ∷ members_of n x
    → sent_of w (addressed m (members_of n left)) ≡ sent_of (set w (lowest_in w) (full (message_to m k))) (addressed m (members_of n x))
unfolding sent_of addressed message_to
sent_next n w m left k x e = rw e

sent_none : (n : ℕ) (w : List Slot) (m : Message) → sent_of w (addressed m (members_of n 0)) ≡ w
unfolding sent_of addressed
sent_none n w m = ap (λ (ks : List ℕ). sent_of w (addressed m ks)) (members_none n)

-- Of a message to the replicas of a set `to`, with the wire v before: the wire w now, the map of its free slots, and the set that is left.
pub record Sending (n : ℕ) (v : List Slot) (m : Message) (to : ℕ) (w : List Slot) (free : List ℕ) (left : ℕ) : Type 0 where
  pub sent : sent_of v (addressed m (members_of n to)) ≡ sent_of w (addressed m (members_of n left))
  pub tied : Maps (free_at w) free
  pub enough : ones left ≤ room_of w
  pub long : length w ≡ slot_limit
  pub small : left < 2 ^ n
  pub most : n ≤ set_bits

module _ (n : ℕ) (v : List Slot) (m : Message) (to : ℕ) (w : List Slot) (free : List ℕ) (left : ℕ) (s : Sending n v m to w free left) where
  sending_room : 0 < left → 0 < room_of w
  sending_room l = omega (arith, s.enough, ones_rest n left s.most s.small l)

  pub sending_place : 0 < left → (after : List ℕ) (f : ℕ) → Took (free_at w) after f → f < slot_limit
  sending_place l after f t = omega (arith, t.slot, (low_free w (sending_room l)).below)

  pub sending_more : 0 < left → (after : List ℕ) (f k x : ℕ) (y : Message) → Took (free_at w) after f → k ≡ lowest_of left
      → x ≡ rest_of left → y ≡ message_to m k → Sending n v m to (set w f (full y)) after x
  sending_more l after f k x y t ek ex ey =
      let h : f < slot_limit = sending_place l after f t in
      let e : set w f (full y) ≡ set w (lowest_in w) (full (message_to m (lowest_of left))) =
      ap (λ (i : ℕ). set w i (full y)) t.slot ∙ ap (λ (z : Message). set w (lowest_in w) (full z)) (ey ∙ ap (message_to m) ek) in
      let q : members_of n left ≡ lowest_of left ∷ members_of n x =
      members_next n left s.most s.small l ∙ ap (λ (z : ℕ). lowest_of left ∷ members_of n z) (sym ex) in
      let o : ones x + 1 ≡ ones left = ap (λ (z : ℕ). ones z + 1) ex ∙ ones_rest n left s.most s.small l in
      let r : room_of (set w f (full y)) + 1 ≡ room_of w = ap (λ (z : List Slot). room_of z + 1) e ∙ sent_one w (message_to m (lowest_of left)) s.long (sending_room l) in
      record {
        sent = s.sent ∙ sent_next n w m left (lowest_of left) x q ∙ ap (λ (z : List Slot). sent_of z (addressed m (members_of n x))) (sym e);
        tied = tied_same map_words (taken_at (free_at w) f) (free_at (set w f (full y))) after t.left (λ k b. free_taken w f y (omega (arith, s.long)) k);
        enough = omega (arith, s.enough, o, r);
        long = length-set w f (full y) ∙ s.long;
        small = omega (arith, rest_less left l, s.small);
        most = s.most;
      }

  pub sending_end : left ≡ 0 → sent_of v (addressed m (members_of n to)) ≡ w
  sending_end e = s.sent ∙ ap (λ (x : ℕ). sent_of w (addressed m (members_of n x))) e ∙ sent_none n w m

-- the slot of the event was emptied or not, and the loop begins
pub sending_start : (n : ℕ) (w : List Slot) (j : ℕ) (b : Bool) (s : Slot) (m : Message) (to : ℕ) (free after : List ℕ) → s ≡ slot_after b (get_or w j empty) → j < slot_limit
    → length w ≡ slot_limit → (b ≡ true → free_at w j ≡ false) → Maps (free_at w) free → ((f : ℕ → Bool) → Maps f free → Maps (marked_at b f j) after)
    → ones to ≤ room_of w + freed b → to < 2 ^ n → n ≤ set_bits → Sending n (set w j s) m to (set w j s) after to
sending_start n w j b s m to free after es h l f t k o sm nm =
    let e : set w j s ≡ cleared b j w = ap (set w j) es ∙ cleared_is b j w in
    record {
      sent = refl;
      tied = rw e (tied_same map_words (marked_at b (free_at w) j) (free_at (cleared b j w)) after (k (free_at w) t) (λ i x. free_cleared b j w (omega (arith, l)) i));
      enough = rw e (omega (arith, o, cleared_room b j w h l f));
      long = length-set w j s ∙ l;
      small = sm;
      most = nm;
    }

-- ---- the map made a slot at a time

pub map_next : (w : List Slot) (i : ℕ) (b : Bool) (ws : List ℕ) → b ≡ is_empty (held_in w i) → Maps (marked_at b (free_below i (free_at w)) i) ws
    → Maps (free_below (i + 1) (free_at w)) ws
unfolding free_at
map_next w i b ws e t = upto_next i (free_at w) ws (rw e at t)

pub map_all : (w : List Slot) (i : ℕ) (ws : List ℕ) → i ≤ slot_limit → slot_limit ≤ i → Maps (free_below i (free_at w)) ws → Maps (free_at w) ws
map_all w i ws h l t = let e : i ≡ slot_limit = omega arith in upto_all (free_at w) ws (rw e at t)
