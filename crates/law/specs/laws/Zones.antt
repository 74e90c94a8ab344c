-- A cluster's zone: the least stop of its finished operations and the greatest start of its members, by its value. Two clusters cross
-- exactly when each has its least stop before the other's greatest start.
use Rattle.std.specs.Prelude.{ℕ, ◌≤◌, ◌<◌, ◌≡◌, ◌≢◌, ◌⊎◌, T, ℤ}
use mathlib.Core.List.{List}
use Rattle.law.specs.Operation.{Op}
use Rattle.law.specs.Order.{In}
use Rattle.law.specs.Cluster.{Member}

-- ---- what zones are

-- least and most are the zones of the clusters of s, by value; a least stop that isn't there is far, and no start is above that
pub record Zones (s : List Op) (far : ℕ) (least most : ℤ → ℕ) : Type 0 where
  pub low : {x : Op} → In x s → T x.over → least x.value ≤ x.stop
  pub low_at : (v : ℤ) → (least v ≡ far) ⊎ ((x : Op) × In x s × T x.over × (x.value ≡ v) × (x.stop ≡ least v))
  pub high : {x : Op} → Member s x → x.start ≤ most x.value
  pub high_at : (v : ℤ) → (most v ≡ 0) ⊎ ((x : Op) × Member s x × (x.value ≡ v) × (x.start ≡ most v))
  pub above : {x : Op} → In x s → x.start ≤ far

-- no two zones cross
abbrev pub Clear : (ℤ → ℕ) → (ℤ → ℕ) → Type 0
Clear least most = (u v : ℤ) → u ≢ v → least u < most v → least v < most u → ⊥
