-- Worked examples: all slots free, none, and slots 1 and 2 alone.
use Rattle.std.specs.Prelude.{ℕ, ◌-◌, true, false, ◌∷◌, ◌≡◌, refl, replicate}
use Rattle.slots.specs.Free.{word_bits, map_words, slot_count, first_from, count_from, first_free, count_free, taken_at}
use Rattle.slots.specs.Words.{bit_at, free_in}
use Rattle.slots.specs.Same.{one_and_two}

pub lowest_of_all : first_free (λ (k : ℕ). true) ≡ 0
unfolding first_from
lowest_of_all = refl

pub lowest_of_none : first_free (λ (k : ℕ). false) ≡ slot_count
unfolding first_from
lowest_of_none = refl

pub count_of_all : count_free (λ (k : ℕ). true) ≡ slot_count
unfolding count_from
count_of_all = refl

-- after slot 0 comes slot 1
pub lowest_after_0 : first_free (taken_at (λ (k : ℕ). true) 0) ≡ 1
unfolding first_from taken_at
lowest_after_0 = refl

pub lowest_of_6 : first_free (free_in one_and_two) ≡ 1
unfolding first_from free_in bit_at
lowest_of_6 = refl

pub count_of_6 : count_free (free_in one_and_two) ≡ 2
unfolding count_from free_in bit_at
count_of_6 = refl

-- the lowest slot of the second word
pub lowest_of_second : first_free (free_in (0 ∷ 1 ∷ replicate (map_words - 2) 0)) ≡ word_bits
unfolding first_from free_in bit_at
lowest_of_second = refl
