-- A set's bits one by one, lowest first: those of a union, of a meet, of one replica, of every replica and of what is left.
use Rattle.std.specs.Prelude.{ℕ, zero, suc, ◌+◌, ◌-◌, ◌*◌, ◌/◌, ◌%◌, ◌^◌, ◌≤◌, ◌<◌, min, max, ◌≡◌, refl, true, false, eqb}
use Rattle.std.proofs.Common.{ap, sym, ◌∙◌, arith, pow-suc, pow_pos, shr-shr, eq-eqb, ne_eqb, eqb-true}
use Rattle.std.proofs.Math.Decide.{ℕ_discrete}
use Rattle.std.proofs.Math.Arith.{half_le, le-zero}
use Rattle.std.specs.Int.Bits.{bit_or, bit_and, or_step, and_step, or_add_and, and_zero_r}
use Rattle.std.proofs.lemmas.Nat.{or_shr, and_shr, or_mod, and_mod, and_le_l, ones_cat}
use Rattle.std.specs.Int.Count.{ones, ones_step}
use Rattle.std.proofs.lemmas.Bool.{eqb-false}
use Rattle.quorum.specs.Sets.{has_replica}

-- bit k: the lowest, or one of what is above it
unfoldable pub bit : ℕ → ℕ → ℕ
bit s zero = s % 2
bit s (suc k) = bit (s / 2) k

pub bit_is : (s k : ℕ) → s / 2 ^ k % 2 ≡ bit s k
unfolding bit
bit_is s zero = omega arith
bit_is s (suc k) =
    let e : 1 + k ≡ suc k = omega arith in
    ap (λ (x : ℕ). x % 2) (ap (λ (n : ℕ). s / 2 ^ n) (sym e) ∙ sym (shr-shr s 1 k)) ∙ bit_is (s / 2) k

pub bit_most : (s k : ℕ) → bit s k < 2
unfolding bit
bit_most s zero = omega arith
bit_most s (suc k) = bit_most (s / 2) k

pub bit_none : (k : ℕ) → bit 0 k ≡ 0
unfolding bit
bit_none zero = refl
bit_none (suc k) = bit_none k

-- membership and the bit
pub has_is : (s k : ℕ) → has_replica s k ≡ eqb (bit s k) 1
unfolding has_replica
has_is s k = ap (λ (x : ℕ). eqb x 1) (bit_is s k)

pub has_one : (s k : ℕ) → has_replica s k ≡ true → bit s k ≡ 1
has_one s k e = eqb-true (bit s k) 1 (sym (has_is s k) ∙ e)

pub has_zero : (s k : ℕ) → has_replica s k ≡ false → bit s k ≡ 0
has_zero s k e = omega (arith, eqb-false (bit s k) 1 (sym (has_is s k) ∙ e), bit_most s k)

pub one_has : (s k : ℕ) → bit s k ≡ 1 → has_replica s k ≡ true
one_has s k e = has_is s k ∙ eq-eqb (bit s k) 1 e

pub zero_has : (s k : ℕ) → bit s k ≡ 0 → has_replica s k ≡ false
zero_has s k e = has_is s k ∙ ne_eqb (bit s k) 1 (λ q. omega arith)

-- the bits of a union, of a meet, of what is left of a without b
pub or_bit : (a b k : ℕ) → bit (bit_or a b) k ≡ max (bit a k) (bit b k)
unfolding bit
or_bit a b zero = omega (arith, or_step a b)
or_bit a b (suc k) = rw (or_shr a b 1) (or_bit (a / 2) (b / 2) k)

pub and_bit : (a b k : ℕ) → bit (bit_and a b) k ≡ min (bit a k) (bit b k)
unfolding bit
and_bit a b zero = omega (arith, and_step a b)
and_bit a b (suc k) = rw (and_shr a b 1) (and_bit (a / 2) (b / 2) k)

left_half : (a b : ℕ) → (a - bit_and a b) / 2 ≡ a / 2 - bit_and (a / 2) (b / 2)
left_half a b = omega (arith, and_step a b, and_le_l (a / 2) (b / 2))

pub left_bit : (a b k : ℕ) → bit (a - bit_and a b) k ≡ bit a k - bit b k
unfolding bit
left_bit a b zero = omega (arith, and_step a b, and_le_l (a / 2) (b / 2))
left_bit a b (suc k) = rw (left_half a b) (left_bit (a / 2) (b / 2) k)

-- the bits of one replica's set
pow_half : (k : ℕ) → 2 ^ suc k / 2 ≡ 2 ^ k
pow_half k = omega (arith, pow-suc 2 k)

pub pow_same : (k : ℕ) → bit (2 ^ k) k ≡ 1
unfolding bit
pow_same zero = refl
pow_same (suc k) = rw (pow_half k) (pow_same k)

pub pow_other : (k j : ℕ) → (j ≡ k → ⊥) → bit (2 ^ k) j ≡ 0
unfolding bit
pow_other zero zero n = absurd (n refl)
pow_other zero (suc j) n = bit_none j
pow_other (suc k) zero n = omega (arith, pow-suc 2 k)
pow_other (suc k) (suc j) n = rw (pow_half k) (pow_other k j (λ e. n (ap suc e)))

-- the meet with it
pub and_fresh : (a k : ℕ) → bit a k ≡ 0 → bit_and a (2 ^ k) ≡ 0
unfolding bit
and_fresh a zero h = omega (arith, and_step a 1, and_zero_r (a / 2))
and_fresh a (suc k) h =
    let e : bit_and (a / 2) (2 ^ suc k / 2) ≡ 0 = rw (pow_half k) (and_fresh (a / 2) k h) in
    omega (arith, and_step a (2 ^ suc k), pow-suc 2 k)

pub and_there : (a k : ℕ) → bit a k ≡ 1 → bit_and a (2 ^ k) ≡ 2 ^ k
unfolding bit
and_there a zero h = omega (arith, and_step a 1, and_zero_r (a / 2))
and_there a (suc k) h =
    let e : bit_and (a / 2) (2 ^ suc k / 2) ≡ 2 ^ k = rw (pow_half k) (and_there (a / 2) k h) in
    omega (arith, and_step a (2 ^ suc k), pow-suc 2 k)

-- the bits of every replica of n, and of a set of n
pub all_below_lem : (n k : ℕ) → k < n → bit (2 ^ n - 1) k ≡ 1
unfolding bit
all_below_lem zero k h = absurd (omega arith)
all_below_lem (suc n) zero h = omega (arith, pow-suc 2 n, pow_pos n)
all_below_lem (suc n) (suc k) h =
    let e : (2 ^ suc n - 1) / 2 ≡ 2 ^ n - 1 = omega (arith, pow-suc 2 n, pow_pos n) in
    rw e (all_below_lem n k (omega arith))

pub bit_below : (n s k : ℕ) → s < 2 ^ n → n ≤ k → bit s k ≡ 0
unfolding bit
bit_below zero s k h l = let e : s ≡ 0 = omega arith in rw e (bit_none k)
bit_below (suc n) s zero h l = absurd (omega arith)
bit_below (suc n) s (suc k) h l = bit_below n (s / 2) k (omega (arith, pow-suc 2 n)) (omega arith)

-- two sets with the same bits are one
same_up_to : (d a b : ℕ) → a ≤ d → b ≤ d → ((k : ℕ) → bit a k ≡ bit b k) → a ≡ b
unfolding bit
same_up_to zero a b ha hb h = omega arith
same_up_to (suc d) a b ha hb h =
    let e : a / 2 ≡ b / 2 = same_up_to d (a / 2) (b / 2) (half_le ha) (half_le hb) (λ k. h (suc k)) in
    let z : a % 2 ≡ b % 2 = h zero in
    omega arith

pub same_bits : (a b : ℕ) → ((k : ℕ) → bit a k ≡ bit b k) → a ≡ b
same_bits a b h = same_up_to (a + b) a b (omega arith) (omega arith) h

-- a union and a meet have together as many members as the two sets
low : (a b : ℕ) → bit_or a b % 2 + bit_and a b % 2 ≡ a % 2 + b % 2
low a b = rw (or_mod a b 1, and_mod a b 1) (or_add_and (a % 2) (b % 2))

both : (d a b : ℕ) → a ≤ d → b ≤ d → ones (bit_or a b) + ones (bit_and a b) ≡ ones a + ones b
both zero a b ha hb = rw (le-zero ha, le-zero hb) refl
both (suc d) a b ha hb =
    omega (
      arith,
      ones_step (bit_or a b),
      ones_step (bit_and a b),
      ones_step a,
      ones_step b,
      low a b,
      ap ones (or_shr a b 1),
      ap ones (and_shr a b 1),
      both d (a / 2) (b / 2) (half_le ha) (half_le hb),
    )

pub ones_both : (a b : ℕ) → ones (bit_or a b) + ones (bit_and a b) ≡ ones a + ones b
ones_both a b = both (a + b) a b (omega arith) (omega arith)

-- a's members are those that b has and those that are left
left_up_to : (d a b : ℕ) → a ≤ d → ones (a - bit_and a b) + ones (bit_and a b) ≡ ones a
unfolding ones
left_up_to zero a b h = let e : a ≡ 0 = omega arith in rw e refl
left_up_to (suc d) a b h =
    omega (
      arith,
      ones_step (a - bit_and a b),
      ones_step (bit_and a b),
      ones_step a,
      and_step a b,
      and_le_l (a / 2) (b / 2),
      ap ones (left_half a b),
      ap ones (and_shr a b 1),
      left_up_to d (a / 2) (b / 2) (half_le h),
    )

pub ones_left : (a b : ℕ) → ones (a - bit_and a b) + ones (bit_and a b) ≡ ones a
ones_left a b = left_up_to a a b (omega arith)

pub ones_one : (k : ℕ) → ones (2 ^ k) ≡ 1
unfolding ones
ones_one k = let e : 2 ^ k ≡ 1 * 2 ^ k + 0 = omega arith in ap ones e ∙ ones_cat k 1 0 (pow_pos k)

-- a set with a member has a bit
some_up_to : (d s : ℕ) → s ≤ d → 0 < ones s → (k : ℕ) × (bit s k ≡ 1)
unfolding bit ones
some_up_to zero s l h = absurd (let e : s ≡ 0 = omega arith in omega (arith, ap ones e))
some_up_to (suc d) s l h = go (ℕ_discrete (s % 2) 1) (λ q. some_up_to d (s / 2) (omega arith) q)
  where
    go : Dec (s % 2 ≡ 1) → (0 < ones (s / 2) → (k : ℕ) × (bit (s / 2) k ≡ 1)) → (k : ℕ) × (bit s k ≡ 1)
    go (yes e) f = (0, e)
    go (no e) f = let w = f (omega (arith, ones_step s, e)) in (suc w.0, w.1)

pub some_bit : (s : ℕ) → 0 < ones s → (k : ℕ) × (bit s k ≡ 1)
some_bit s h = some_up_to s s (omega arith) h
