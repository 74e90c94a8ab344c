-- Which faults there are, and what they name.
use Rattle.std.specs.Prelude.{ℕ, ◌<◌, ◌≤◌, ◌≡◌}

-- a fault from low to 28; 28 names the entry after the last that may follow, every other one before it
pub record Named (low k n limit : ℕ) : Type 0 where
  pub least : low ≤ k
  pub most : k ≤ 28
  pub last : k ≡ 28 → n ≡ limit
  pub early : k < 28 → n < limit
