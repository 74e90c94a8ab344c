-- Writes by cell and value: which entry asks to write a value to a cell, and which is the first that asks again. An entry p is a write
-- where kinds has 1 at p; values are the numbers they are written as.
use Rattle.std.specs.Prelude.{ℕ, ◌<◌, ◌≡◌, ◌⊎◌, List, get_or}

-- entry p asks to write the value v to the cell c
pub record Asks (kinds cells values : List ℕ) (p c v : ℕ) : Type 0 where
  pub write : get_or kinds p 0 ≡ 1
  pub cell : get_or cells p 0 ≡ c
  pub value : get_or values p 0 ≡ v

-- entry p asks to write 0, or what an earlier entry asks
pub record Again (kinds cells values : List ℕ) (p : ℕ) : Type 0 where
  pub write : get_or kinds p 0 ≡ 1
  pub again : (get_or values p 0 ≡ 0) ⊎ ((q : ℕ) × ((q < p) × Asks kinds cells values q (get_or cells p 0) (get_or values p 0)))

-- no entry below n does
abbrev pub NoneAgain : List ℕ → List ℕ → List ℕ → ℕ → Type 0
NoneAgain kinds cells values n = (p : ℕ) → p < n → Again kinds cells values p → ⊥
