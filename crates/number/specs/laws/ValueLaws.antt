-- Every value of 32 bits has its own number of 32 bits, and every such number stands for one.
use Rattle.std.specs.Prelude.{ℕ, suc, ◌+◌, ◌*◌, ◌/◌, ◌%◌, ◌^◌, ◌<◌, Bool, true, false, cond, ◌≡◌, refl, eqb, ℤ, pos, negsuc, ◌*ℤ◌, ◌-ℤ◌, neg_ℤ}
use Rattle.std.proofs.Common.{sym, ap, ◌∙◌, arith, le-ltb, eq-eqb, ne_eqb, eqb-true, SFits, to_z, of_z, to_z-of_z}
use Rattle.std.proofs.Math.IntN.{neg_ℤ-neg_ℤ}
use Rattle.std.specs.Int.Signed.{mag}
use Rattle.std.proofs.lemmas.Bool.{eqb-false}
use Rattle.std.specs.Int.{w32}
use Rattle.number.specs.Value.{alternating_of, signed_of}

-- it is 2v, or -2v - 1 below zero
pub alternating_pos : (n : ℕ) → pos (alternating_of (pos n)) ≡ pos 2 *ℤ pos n
unfolding alternating_of
alternating_pos n = refl

pub alternating_neg : (n : ℕ) → pos (alternating_of (negsuc n)) ≡ neg_ℤ (pos 2 *ℤ negsuc n) -ℤ pos 1
unfolding alternating_of
alternating_neg n = simp (neg_ℤ-neg_ℤ, le-ltb (2 * suc n) 1 (omega arith)) (ap pos (omega arith))

-- each is the other's inverse
pub signed_alternating : (v : ℤ) → signed_of (alternating_of v) ≡ v
unfolding alternating_of signed_of
signed_alternating (pos n) = simp (eq-eqb (2 * n % 2) 0 (omega arith)) (ap pos (omega arith))
signed_alternating (negsuc n) = simp (ne_eqb ((2 * n + 1) % 2) 0 (λ e. omega arith)) (ap negsuc (omega arith))

pub alternating_signed : (n : ℕ) → alternating_of (signed_of n) ≡ n
unfolding alternating_of signed_of
alternating_signed n = go (eqb (n % 2) 0) refl
  where
    go : (t : Bool) → eqb (n % 2) 0 ≡ t → alternating_of (cond t (pos (n / 2)) (negsuc (n / 2))) ≡ n
    go true e = omega (arith, eqb-true (n % 2) 0 e)
    go false e = omega (arith, eqb-false (n % 2) 0 e)

-- and both stay within 32 bits
pub alternating_below : (v : ℤ) → SFits w32 v → alternating_of v < 2 ^ 32
unfolding alternating_of
alternating_below (pos n) h = omega (arith, h.sfits)
alternating_below (negsuc n) h = omega (arith, h.sfits)

pub signed_fits : (n : ℕ) → n < 2 ^ 32 → SFits w32 (signed_of n)
unfolding signed_of
signed_fits n h = go (eqb (n % 2) 0)
  where
    go : (t : Bool) → SFits w32 (cond t (pos (n / 2)) (negsuc (n / 2)))
    go true = record { sfits = omega arith }
    go false = record { sfits = omega arith }

-- the machine holds a value as bits, and reads the same value back from them
pub value_of_bits : (v : ℤ) → mag v < 2 ^ 31 → to_z w32 (of_z w32 v) ≡ v
value_of_bits v h = to_z-of_z {w = w32} {z = v} (record { sfits = h })

-- so a number that was made from a value's bits is the value's
pub alternating_of_bits : (v : ℤ) (n : ℕ) → mag v < 2 ^ 31 → n ≡ alternating_of (to_z w32 (of_z w32 v)) → alternating_of v ≡ n
alternating_of_bits v n h e = sym (e ∙ ap alternating_of (value_of_bits v h))

-- and the value of a number is itself again when it is read back
pub signed_of_bits : (v : ℤ) (n : ℕ) → n < 2 ^ 32 → v ≡ signed_of n → to_z w32 (of_z w32 v) ≡ signed_of n
signed_of_bits v n h e = ap (λ (z : ℤ). to_z w32 (of_z w32 z)) e ∙ value_of_bits (signed_of n) (signed_fits n h).sfits
