-- Words, their bits lowest first, that say which slots are free.
use Rattle.std.specs.Prelude.{ℕ, ◌/◌, ◌%◌, ◌^◌, zero, suc, ◌+◌, ◌*◌, ◌<◌, Bool, eqb, List, get_or, length, ◌≡◌}
use Rattle.slots.specs.Free.{word_bits, map_words, digit, first_free, taken_at}

-- bit k of a number
unfoldable pub bit_at : ℕ → ℕ → Bool
bit_at x k = eqb (x / 2 ^ k % 2) 1

-- the slots that words say are free
unfoldable pub free_in : List ℕ → ℕ → Bool
free_in ws i = bit_at (get_or ws (i / word_bits) 0) (i % word_bits)

-- the number whose n bits, lowest first, say which of the n slots from b on are free
unfoldable pub bits_from : ℕ → ℕ → (ℕ → Bool) → ℕ
bits_from zero b f = 0
bits_from (suc n) b f = digit (f b) + 2 * bits_from n (b + 1) f

-- w words, the j-th of which says which of the slots from `word_bits` j on are free, one for each of its bits
pub record MapsIn (w : ℕ) (f : ℕ → Bool) (ws : List ℕ) : Type 0 where
  pub size : length ws ≡ w
  pub words : (j : ℕ) → j < w → get_or ws j 0 ≡ bits_from word_bits (word_bits * j) f

-- the wire's words
abbrev pub Maps : (ℕ → Bool) → List ℕ → Type 0
Maps f ws = MapsIn map_words f ws

-- what taking a slot has to do: answer the lowest free one, and it is taken after; where none is free nothing changes
pub record Took (f : ℕ → Bool) (after : List ℕ) (r : ℕ) : Type 0 where
  pub slot : r ≡ first_free f
  pub left : Maps (taken_at f r) after
