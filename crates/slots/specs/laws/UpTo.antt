-- The words made a slot at a time: the slots below i as they are, the others not free.
use Rattle.std.specs.Prelude.{ℕ, zero, suc, ◌+◌, ◌*◌, ◌≤◌, ◌<◌, ◌≡◌, refl, Bool, true, false, cond, List, ltb, eqb, replicate}
use Rattle.std.proofs.Common.{sym, ◌∙◌, arith, lt-ltb, le-ltb, ltb-true, ltb-false, eqb-true}
use Rattle.std.proofs.lemmas.List.{get_or-replicate}
use Rattle.std.proofs.lemmas.Bool.{eqb-false}
use Rattle.slots.specs.Free.{word_bits, map_words, slot_count, marked_at}
use Rattle.slots.specs.Words.{bits_from, Maps}
use Rattle.slots.specs.laws.FreeLaws.{given_here, given_else}
use Rattle.slots.specs.laws.Finding.{tied_same}

-- the slots below i as they are, the others not free
unfoldable pub free_below : ℕ → (ℕ → Bool) → ℕ → Bool
free_below i f k = cond (ltb k i) (f k) false

pub upto_below : (i : ℕ) (f : ℕ → Bool) (k : ℕ) → k < i → free_below i f k ≡ f k
unfolding free_below
upto_below i f k h = rw (lt-ltb k i h)

pub upto_above : (i : ℕ) (f : ℕ → Bool) (k : ℕ) → i ≤ k → free_below i f k ≡ false
unfolding free_below
upto_above i f k h = rw (le-ltb k i h)

-- away from i one slot more changes nothing
upto_else : (i : ℕ) (f : ℕ → Bool) (k : ℕ) → (k ≡ i → ⊥) → free_below i f k ≡ free_below (i + 1) f k
upto_else i f k n = go (ltb k i) refl
  where
    go : (b : Bool) → ltb k i ≡ b → free_below i f k ≡ free_below (i + 1) f k
    go true e = let h : k < i = ltb-true k i e in upto_below i f k h ∙ sym (upto_below (i + 1) f k (omega arith))
    go false e =
        let h : i ≤ k = ltb-false k i e in
        let g : i + 1 ≤ k = omega (arith, n) in
        upto_above i f k h ∙ sym (upto_above (i + 1) f k g)

-- slot i marked where it is free is one slot more
pub upto_marked : (i : ℕ) (f : ℕ → Bool) (k : ℕ) → marked_at (f i) (free_below i f) i k ≡ free_below (i + 1) f k
upto_marked i f k = go (f i) refl (eqb k i) refl
  where
    go : (b : Bool) → f i ≡ b → (t : Bool) → eqb k i ≡ t → marked_at b (free_below i f) i k ≡ free_below (i + 1) f k
    go true e true q =
        let h : k ≡ i = eqb-true k i q in
        rw h (given_here (free_below i f) i ∙ sym (upto_below (i + 1) f i (omega arith) ∙ e))
    go true e false q = given_else (free_below i f) i k (eqb-false k i q) ∙ upto_else i f k (eqb-false k i q)
    go false e true q =
        let h : k ≡ i = eqb-true k i q in
        rw h (upto_above i f i (omega arith) ∙ sym (upto_below (i + 1) f i (omega arith) ∙ e))
    go false e false q = upto_else i f k (eqb-false k i q)

none_bits : (n b : ℕ) (f : ℕ → Bool) → bits_from n b (free_below 0 f) ≡ 0
unfolding bits_from
none_bits zero b f = refl
none_bits (suc n) b f = rw (upto_above 0 f b (omega arith), none_bits n (b + 1) f)

-- words of zeros say that no slot is free
pub upto_start : (f : ℕ → Bool) → Maps (free_below 0 f) (replicate map_words 0)
upto_start f = record { size = refl; words = λ j h. get_or-replicate map_words j 0 0 h ∙ sym (none_bits word_bits (word_bits * j) f) }

-- with slot i marked they are right up to the next
pub upto_next : (i : ℕ) (f : ℕ → Bool) (ws : List ℕ) → Maps (marked_at (f i) (free_below i f) i) ws → Maps (free_below (i + 1) f) ws
upto_next i f ws t = tied_same map_words (marked_at (f i) (free_below i f) i) (free_below (i + 1) f) ws t (λ k l. sym (upto_marked i f k))

-- and after all of them right
pub upto_all : (f : ℕ → Bool) (ws : List ℕ) → Maps (free_below slot_count f) ws → Maps f ws
upto_all f ws t = tied_same map_words (free_below slot_count f) f ws t (λ k l. sym (upto_below slot_count f k l))
