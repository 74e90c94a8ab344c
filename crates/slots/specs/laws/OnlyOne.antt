-- No other outcome fits a call: whatever words there are, they say of some slots that they are free, and two outcomes that meet the contract of a call
-- on them are the same.
use Rattle.std.specs.Prelude.{ℕ, ◌≤◌, Bool, true, false, List, ◌≡◌, get_or}
use Rattle.std.proofs.Common.{ap, sym, ◌∙◌, arith}
use Rattle.slots.specs.Free.{word_bits, map_words, slot_count, first_free, count_free, taken_at, given_at, marked_at}
use Rattle.slots.specs.Words.{bits_from, Maps, Took, bit_at, free_in}
use Rattle.slots.specs.laws.Finding.{tied_same, tied_only, tied_some}
use Rattle.slots.specs.laws.Sheet.{lowest_of_6, count_of_6}
use Rattle.slots.specs.Same.{one_and_two, Sized, SameTake, Given}

pub tied_words : (ws : List ℕ) → Sized ws → Maps (free_in ws) ws
tied_words ws s = tied_some map_words ws s.size s.each

-- ---- lowest, count

pub one_lowest : (free : List ℕ) → Sized free → (r r' : ℕ) → (r ≤ slot_count) × ((f : ℕ → Bool) → Maps f free → r ≡ first_free f)
    → (r' ≤ slot_count) × ((f : ℕ → Bool) → Maps f free → r' ≡ first_free f) → r ≡ r'
one_lowest free s r r' p q = p.1 (free_in free) (tied_words free s) ∙ sym (q.1 (free_in free) (tied_words free s))

pub one_count : (free : List ℕ) → Sized free → (r r' : ℕ) → (r ≤ slot_count) × ((f : ℕ → Bool) → Maps f free → r ≡ count_free f)
    → (r' ≤ slot_count) × ((f : ℕ → Bool) → Maps f free → r' ≡ count_free f) → r ≡ r'
one_count free s r r' p q = p.1 (free_in free) (tied_words free s) ∙ sym (q.1 (free_in free) (tied_words free s))

-- of slots 1 and 2 the lowest is neither 0 nor 2, and they are not one
pub not_slot_0 : (r : ℕ) → r ≡ first_free (free_in one_and_two) → r ≡ 0 → ⊥
not_slot_0 r p q = omega (arith, lowest_of_6)

pub not_slot_2 : (r : ℕ) → r ≡ first_free (free_in one_and_two) → r ≡ 2 → ⊥
not_slot_2 r p q = omega (arith, lowest_of_6)

pub not_one_free : (r : ℕ) → r ≡ count_free (free_in one_and_two) → r ≡ 1 → ⊥
not_one_free r p q = omega (arith, count_of_6)

pub not_three_free : (r : ℕ) → r ≡ count_free (free_in one_and_two) → r ≡ 3 → ⊥
not_three_free r p q = omega (arith, count_of_6)

-- ---- take

-- of some slots
took_same : (f : ℕ → Bool) (r r' : ℕ) (ws ws' : List ℕ) → Took f ws r → Took f ws' r' → SameTake r r' ws ws'
took_same f r r' ws ws' p q =
    let e : r ≡ r' = p.slot ∙ sym q.slot in
    record {
      slot = e;
      words = tied_only map_words (taken_at f r) ws ws' p.left
          (tied_same map_words (taken_at f r') (taken_at f r) ws' q.left (λ k l. ap (λ (i : ℕ). taken_at f i k) e));
    }

pub one_take : (free : List ℕ) → Sized free → (r r' : ℕ) (after after' : List ℕ) → (r ≤ slot_count) × ((f : ℕ → Bool) → Maps f free → Took f after r)
    → (r' ≤ slot_count) × ((f : ℕ → Bool) → Maps f free → Took f after' r') → SameTake r r' after after'
one_take free s r r' after after' p q = took_same (free_in free) r r' after after' (p.1 (free_in free) (tied_words free s)) (q.1 (free_in free) (tied_words free s))

-- where slots 1 and 2 are free, neither slot 2 is taken, nor is slot 1 free after
pub not_second_taken : (ws : List ℕ) (r : ℕ) → Took (free_in one_and_two) ws r → r ≡ 2 → ⊥
not_second_taken ws r t q = omega (arith, t.slot, lowest_of_6)

pub not_free_after : (ws : List ℕ) (r : ℕ) → Took (free_in one_and_two) ws r → get_or ws 0 0 ≡ 6 → ⊥
unfolding bits_from taken_at free_in bit_at
not_free_after ws r t q =
    let e : r ≡ 1 = t.slot ∙ lowest_of_6 in
    let w : get_or ws 0 0 ≡ 4 = t.left.words 0 (omega arith) ∙ ap (λ (i : ℕ). bits_from word_bits 0 (taken_at (free_in one_and_two) i)) e in
    omega arith

-- ---- give, mark

pub one_give : (free : List ℕ) → Sized free → (slot : ℕ) (after after' : List ℕ) → ((f : ℕ → Bool) → Maps f free → Maps (given_at f slot) after)
    → ((f : ℕ → Bool) → Maps f free → Maps (given_at f slot) after') → after ≡ after'
one_give free s slot after after' p q =
    tied_only map_words (given_at (free_in free) slot) after after' (p (free_in free) (tied_words free s)) (q (free_in free) (tied_words free s))

given_5 : (ws : List ℕ) → Given ws → get_or ws 0 0 ≡ 38
unfolding bits_from given_at free_in bit_at
given_5 ws t = t.words 0 (omega arith)

pub not_still_used : (ws : List ℕ) → Given ws → get_or ws 0 0 ≡ 6 → ⊥
not_still_used ws t q = omega (arith, given_5 ws t)

pub not_alone : (ws : List ℕ) → Given ws → get_or ws 0 0 ≡ 32 → ⊥
not_alone ws t q = omega (arith, given_5 ws t)

pub one_mark : (free : List ℕ) → Sized free → (slot : ℕ) (clear : Bool) (after after' : List ℕ)
    → ((f : ℕ → Bool) → Maps f free → Maps (marked_at clear f slot) after) → ((f : ℕ → Bool) → Maps f free → Maps (marked_at clear f slot) after') → after ≡ after'
one_mark free s slot clear after after' p q =
    tied_only map_words (marked_at clear (free_in free) slot) after after' (p (free_in free) (tied_words free s)) (q (free_in free) (tied_words free s))

-- a slot that is clear is free again, and one that isn't stays as it was
pub not_unmarked : (ws : List ℕ) → Maps (marked_at true (free_in one_and_two) 5) ws → get_or ws 0 0 ≡ 6 → ⊥
unfolding bits_from given_at free_in bit_at
not_unmarked ws t q = let e : get_or ws 0 0 ≡ 38 = t.words 0 (omega arith) in omega arith

pub not_marked : (ws : List ℕ) → Maps (marked_at false (free_in one_and_two) 5) ws → get_or ws 0 0 ≡ 38 → ⊥
unfolding bits_from free_in bit_at
not_marked ws t q = let e : get_or ws 0 0 ≡ 6 = t.words 0 (omega arith) in omega arith
