-- Words as the code has them, and when two outcomes of a call are one.
use Rattle.std.specs.Prelude.{ℕ, ◌-◌, ◌<◌, ◌^◌, List, ◌∷◌, ◌≡◌, length, get_or, replicate}
use Rattle.slots.specs.Free.{word_bits, map_words, given_at}
use Rattle.slots.specs.Words.{Maps, free_in}

-- words as the code has them
pub record Sized (ws : List ℕ) : Type 0 where
  pub size : length ws ≡ map_words
  pub each : (j : ℕ) → j < map_words → get_or ws j 0 < 2 ^ word_bits

-- two outcomes that answer the same slot and leave the same words
pub record SameTake (r r' : ℕ) (ws ws' : List ℕ) : Type 0 where
  pub slot : r ≡ r'
  pub words : ws ≡ ws'

-- slots 1 and 2 alone are free
abbrev pub one_and_two : List ℕ
one_and_two = 6 ∷ replicate (map_words - 1) 0

-- slot 5 comes to 1 and 2: the words change, and it isn't alone
abbrev pub Given : List ℕ → Type 0
Given ws = Maps (given_at (free_in one_and_two) 5) ws
