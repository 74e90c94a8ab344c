-- Tags of one cell's operations.
use Rattle.std.specs.Prelude.{◌≡◌, ◌⊎◌, Bool, true, false, List, ℕ, ◌≤◌, ◌<◌, T, pos}
use Rattle.law.specs.Operation.{Op}
use Rattle.law.specs.Order.{In, Before}

-- x is an operation of s, and chosen
abbrev pub Chosen : List Op → (ℕ → Bool) → Op → Type 0
Chosen s chosen x = In x s × T (chosen x.number)

-- the read x gives zero, with tag 0, or what a chosen write with the same tag wrote
abbrev pub Gives : List Op → (ℕ → Bool) → (ℕ → ℕ) → Op → Type 0
Gives s chosen tag x =
    ((tag x.number ≡ 0) × (x.value ≡ pos 0))
    ⊎ ((w : Op) × Chosen s chosen w × (w.write ≡ true) × (tag w.number ≡ tag x.number) × (w.value ≡ x.value))

-- the operations s have tags: which are chosen and their tags, both by number
pub record Tagged (s : List Op) : Type 0 where
  pub chosen : ℕ → Bool
  pub tag : ℕ → ℕ
  -- every finished operation is chosen
  pub all : {x : Op} → In x s → T x.over → T (chosen x.number)
  -- a chosen read is finished
  pub ended : {x : Op} → Chosen s chosen x → x.write ≡ false → T x.over
  -- chosen writes have tags above 0
  pub above : {x : Op} → Chosen s chosen x → x.write ≡ true → 0 < tag x.number
  -- and each its own
  pub apart : {x y : Op} → Chosen s chosen x → Chosen s chosen y → x.write ≡ true → y.write ≡ true → tag x.number ≡ tag y.number → x ≡ y
  -- tags don't fall from an operation to one that it is before
  pub rises : {x y : Op} → Chosen s chosen x → Chosen s chosen y → Before x y → tag x.number ≤ tag y.number
  -- and rise where that one is a write
  pub climbs : {x y : Op} → Chosen s chosen x → Chosen s chosen y → Before x y → y.write ≡ true → tag x.number < tag y.number
  -- a chosen read gives zero or what was written under its tag
  pub reads : {x : Op} → Chosen s chosen x → x.write ≡ false → Gives s chosen tag x
