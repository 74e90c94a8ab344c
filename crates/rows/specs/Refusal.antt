-- Which refusals there are with lent memory, and what they name.
use Rattle.std.specs.Prelude.{ℕ, ◌<◌, ◌≤◌, ◌≡◌, ◌⊎◌}
use Rattle.record.specs.Record.{entry_limit}

-- a refusal with 20, or from low to 28: 20 names entry 0, 28 names entry 2,048, and every other one before that
pub record Refusal (low k n : ℕ) : Type 0 where
  pub which : (k ≡ 20) ⊎ (low ≤ k)
  pub most : k ≤ 28
  pub room : k ≡ 20 → n ≡ 0
  pub last : k ≡ 28 → n ≡ entry_limit
  pub early : k < 28 → n < entry_limit
