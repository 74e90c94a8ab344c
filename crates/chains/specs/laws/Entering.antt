-- What one test says, and what entering one write gives: the contracts of the table's own functions.
use Rattle.std.specs.Prelude.{ℕ, ◌+◌, ◌≡◌, Bool, true, false, List, get_or}
use Rattle.chains.specs.Chains.{Again}
use Rattle.chains.specs.Table.{Chained}

-- a test says whether P holds
pub record Decides (P : Type 0) (r : Bool) : Type 0 where
  pub yes : r ≡ true → P
  pub no : r ≡ false → P → ⊥

-- next stays as it was, but for entry p if it is a write
pub record Only (kinds : List ℕ) (p : ℕ) (was next : List ℕ) : Type 0 where
  pub same : (q : ℕ) → (q ≡ p → get_or kinds p 0 ≡ 1 → ⊥) → get_or next q 0 ≡ get_or was q 0

-- what entering entry p gives: the table with it; or it asks again, and nothing changes
pub record Entered (kinds cells values : List ℕ) (p : ℕ) (before was head next : List ℕ) (r : Bool) : Type 0 where
  pub entered : r ≡ true → Chained kinds cells values (p + 1) head next × (Again kinds cells values p → ⊥)
  pub others : r ≡ true → Only kinds p was next
  pub again : r ≡ false → Again kinds cells values p
  pub heads : r ≡ false → head ≡ before
  pub nexts : r ≡ false → next ≡ was
