-- What a test of a signed number's sign tells of it: the natural number that -1 - v is below zero, and v at or above it.
-- The machine holds bits, so a signed value stands in a need as `to_z w32 (of_z w32 v)`, which is v since v fits.
use Prim.Native.Nat.{ℕ, zero, suc, ◌^◌, ◌<◌}
use mathlib.Core.Path.{◌≡◌, refl, sym, ap, ◌∙◌}
use mathlib.Core.Bool.{true, false}
use native.Mathlib.Omega.{arith}
use borrow.Author.Tests.{le-ltb, ltb-true}
use lib.IntN.{ℤ, pos, negsuc, ◌-ℤ◌}
use lib.Signed.{lt_z}
use mir.Syntax.{w32}
use mir.Val.{SFits, to_z, of_z}
use mir.Facts.{to_z-of_z}

pub minus_neg : (n : ℕ) → negsuc 0 -ℤ negsuc n ≡ pos n
minus_neg n = simp (le-ltb (suc n) 1 (omega arith)) (ap pos (omega arith))

pub minus_pos : (n : ℕ) → negsuc 0 -ℤ pos n ≡ negsuc n
minus_pos zero = refl
minus_pos (suc n) = ap negsuc (omega arith)

pub record Below (v : ℤ) : Type 0 where
  pub n : ℕ
  pub is : v ≡ negsuc n
  pub small : n < 2 ^ 31
  pub minus : negsuc 0 -ℤ to_z w32 (of_z w32 v) ≡ pos n
  pub back : to_z w32 (of_z w32 (negsuc 0 -ℤ to_z w32 (of_z w32 v))) ≡ pos n

pub below : (v : ℤ) → SFits w32 v → lt_z (to_z w32 (of_z w32 v)) (pos 0) ≡ true → Below v
below (pos n) h t = absurd (omega (arith, ltb-true n 0 (ap (λ (z : ℤ). lt_z z (pos 0)) (sym (to_z-of_z {w = w32} {z = pos n} h)) ∙ t)))
below (negsuc n) h t =
    let m : negsuc 0 -ℤ to_z w32 (of_z w32 (negsuc n)) ≡ pos n = ap (λ (z : ℤ). negsuc 0 -ℤ z) (to_z-of_z {w = w32} {z = negsuc n} h) ∙ minus_neg n in
    record { n = n; is = refl; small = h.sfits; minus = m; back = ap (λ (z : ℤ). to_z w32 (of_z w32 z)) m ∙ to_z-of_z {w = w32} {z = pos n} (record { sfits = h.sfits }) }

pub record NotBelow (v : ℤ) : Type 0 where
  pub n : ℕ
  pub is : v ≡ pos n
  pub small : n < 2 ^ 31
  pub back : to_z w32 (of_z w32 v) ≡ pos n

never : {A : Type 0} → true ≡ false → A
never e = let z : ◌≡◌ {A = ℕ} 0 1 = cc in absurd (omega arith)

pub not_below : (v : ℤ) → SFits w32 v → lt_z (to_z w32 (of_z w32 v)) (pos 0) ≡ false → NotBelow v
not_below (pos n) h t = record { n = n; is = refl; small = h.sfits; back = to_z-of_z {w = w32} {z = pos n} h }
not_below (negsuc n) h t = never (ap (λ (z : ℤ). lt_z z (pos 0)) (sym (to_z-of_z {w = w32} {z = negsuc n} h)) ∙ t)

-- a natural number below 2 ^ 31 is read back from its bits
pub held : (n : ℕ) → n < 2 ^ 31 → to_z w32 n ≡ pos n
held n h = to_z-of_z {w = w32} {z = pos n} (record { sfits = h })
