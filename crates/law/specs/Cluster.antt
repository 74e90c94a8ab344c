-- The cluster rule, for one cell's operations in which written values differ and none is zero. A cluster is a write and the finished
-- reads of its value; zero has a pretended write that ended before everything.
use Rattle.std.specs.Prelude.{◌<◌, ◌≡◌, ◌≢◌, ◌⊎◌, true, false, List, T, pos}
use Rattle.law.specs.Operation.{Op}
use Rattle.law.specs.Order.{In, Before}

-- written values differ, and none is zero
pub record Distinct (s : List Op) : Type 0 where
  pub nonzero : {x : Op} → In x s → x.write ≡ true → x.value ≢ pos 0
  pub apart : {x y : Op} → In x s → In y s → x.write ≡ true → y.write ≡ true → x.value ≡ y.value → x ≡ y

-- x is of a cluster of s: a write, or a finished read
abbrev pub Member : List Op → Op → Type 0
Member s x = In x s × ((x.write ≡ true) ⊎ T x.over)

-- what a finished read gives is zero, or was written by a write that doesn't start after the read stopped
abbrev pub Sourced : List Op → Type 0
Sourced s = (r : Op) → In r s → r.write ≡ false → T r.over → r.value ≢ pos 0
    → (w : Op) × In w s × (w.write ≡ true) × (w.value ≡ r.value) × ¬ (r.stop < w.start)

-- no two clusters cross: that is, have each an operation before one of the other
abbrev pub Crossless : List Op → Type 0
Crossless s = (a a' b b' : Op) → Member s a → Member s a' → Member s b → Member s b' → a.value ≡ a'.value → b.value ≡ b'.value
    → a.value ≢ b.value → Before a b' → Before b a' → ⊥

-- the rule
pub record Rule (s : List Op) : Type 0 where
  -- what reads give was written
  pub sourced : Sourced s
  -- no two clusters cross
  pub crossing : Crossless s
  -- nothing of another cluster is before a read of zero
  pub zero : {r b : Op} → In r s → r.write ≡ false → T r.over → r.value ≡ pos 0 → Member s b → b.value ≢ pos 0 → Before b r → ⊥
