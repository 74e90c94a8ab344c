-- A number's bytes at a place.
use Rattle.std.specs.Prelude.{ℕ, ◌+◌, ◌^◌, ◌<◌, ◌≤◌, List, ◌++◌, ◌≡◌, drop, length}
use Rattle.number.specs.Number.{number_bytes}

-- at place at of s stand the bytes of n, up to place next
pub record Stands (s : List ℕ) (at n next : ℕ) : Type 0 where
  pub here : drop at s ≡ number_bytes n ++ drop next s
  pub far : next ≡ at + length (number_bytes n)
  pub below : n < 2 ^ 32
  pub within : next ≤ length s
