-- The cluster rule by writes: each cluster's least stop and greatest start by its write's number, and the greatest start of a read of zero.
use Rattle.std.specs.Prelude.{ℕ, ◌≤◌, ◌<◌, ◌≡◌, ◌≢◌, ◌⊎◌, true, false, List, T, pos}
use Rattle.law.specs.Operation.{Op}
use Rattle.law.specs.Order.{In}
use Rattle.law.specs.Cluster.{Member, Sourced}

-- w is a write of s
abbrev pub Write : List Op → Op → Type 0
Write s w = In w s × (w.write ≡ true)

-- r is a finished read of zero
abbrev pub ZeroRead : List Op → Op → Type 0
ZeroRead s r = In r s × (r.write ≡ false) × T r.over × (r.value ≡ pos 0)

-- least and most are the clusters' least stops and greatest starts, by their writes' numbers, and none is the greatest start of a read
-- of zero, 0 if there is none; a least stop that isn't there is far, and no start is above that
pub record Sums (s : List Op) (far : ℕ) (least most : ℕ → ℕ) (none : ℕ) : Type 0 where
  pub low : {w x : Op} → Write s w → In x s → T x.over → x.value ≡ w.value → least w.number ≤ x.stop
  pub low_at : {w : Op} → Write s w → (least w.number ≡ far) ⊎ ((x : Op) × In x s × T x.over × (x.value ≡ w.value) × (x.stop ≡ least w.number))
  pub high : {w x : Op} → Write s w → Member s x → x.value ≡ w.value → x.start ≤ most w.number
  pub high_at : {w : Op} → Write s w → (x : Op) × Member s x × (x.value ≡ w.value) × (x.start ≡ most w.number)
  pub none_high : {r : Op} → ZeroRead s r → r.start ≤ none
  pub none_at : (none ≡ 0) ⊎ ((r : Op) × ZeroRead s r × (r.start ≡ none))
  pub above : {x : Op} → In x s → x.start ≤ far

-- what is checked of them
pub record Checked (s : List Op) (least most : ℕ → ℕ) (none : ℕ) : Type 0 where
  -- what reads give was written
  pub sourced : Sourced s
  -- no cluster has its least stop before the last read of zero
  pub early : {w : Op} → Write s w → none ≤ least w.number
  -- no two have each its least stop before the other's greatest start
  pub clear : {w x : Op} → Write s w → Write s x → w.number ≢ x.number → least w.number < most x.number → least x.number < most w.number → ⊥
