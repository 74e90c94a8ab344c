-- The words that calls leave.
use Rattle.std.specs.Prelude.{ℕ, ◌≡◌, List, length}
use Rattle.number.specs.Below.{Words}
use Rattle.layout.specs.Layout.{word_count}
use Rattle.layout.specs.Calls.{made_outcome, run_outcome}

-- a rack is made in 11,301 words, then events are run on it, call after call, whatever each call answers; an event is lent as words of 32 bits
pub data Called : List ℕ → Type 0 where
  made : (replicas clients cells : ℕ) (ws : List ℕ) → length ws ≡ word_count → Called (made_outcome replicas clients cells ws).lent
  ran : (ws : List ℕ) (allowance : ℕ) (events : List ℕ) → Words events → Called ws → Called (run_outcome ws allowance events).lent
