-- The code's sets have so many bits: what the definitions say of a replica that has one, and of one that has none.
use Prim.Native.Nat.{ℕ, ◌-◌, ◌*◌, ◌%◌, ◌^◌, ◌≤◌, ◌<◌, min}
use mathlib.Core.Path.{◌≡◌, sym, ◌∙◌}
use mathlib.Core.Bool.{true, false}
use native.Mathlib.Omega.{arith}
use native.Mathlib.Nat.{one-mul}
use lib.Bits.{bit_or}
use lib.Dec.{leb, ltb}
use lib.Pow.{shl_exact, pow_pos, pow_mono}
use borrow.Author.Tests.{lt-ltb, le-ltb, le-leb}
use Rattle.slots.specs.laws.Bits.{trailing_lt, trailing_room}
use Rattle.quorum.specs.Sets.{set_bits, has_replica, with_replica, every_replica, within, without_replica, lowest_of, rest_of}
use Rattle.quorum.proofs.theorems.SetLaws.{has_beyond, has_below, with_beyond, bit_at_most}

pub one_shl : (k : ℕ) → k < set_bits → 1 * 2 ^ k % 2 ^ set_bits ≡ 2 ^ k
one_shl k h = shl_exact {a = 1} 1 k set_bits (omega arith) (omega arith) ∙ one-mul _

pub has_no_bit : (s k : ℕ) → s < 2 ^ set_bits → set_bits ≤ k → ltb k set_bits ≡ has_replica s k
has_no_bit s k h l = le-ltb k set_bits l ∙ sym (has_beyond set_bits s k h l)

pub with_no_bit : (s k : ℕ) → set_bits ≤ k → s ≡ with_replica s k
with_no_bit s k l = sym (with_beyond s k l)

pub with_bit : (s k : ℕ) → k < set_bits → bit_or s (1 * 2 ^ k % 2 ^ set_bits) ≡ with_replica s k
unfolding with_replica
with_bit s k l = rw (one_shl k l, lt-ltb k set_bits l)

pub every_more : (n : ℕ) → set_bits ≤ n → 2 ^ set_bits - 1 ≡ every_replica n
unfolding every_replica
every_more n l = let e : min n set_bits ≡ set_bits = omega arith in rw e

pub every_fewer : (n : ℕ) → n < set_bits → 1 * 2 ^ n % 2 ^ set_bits - 1 ≡ every_replica n
unfolding every_replica
every_fewer n l = let e : min n set_bits ≡ n = omega arith in rw (one_shl n l, e)

pub shl_pos : (n : ℕ) → n < set_bits → 1 ≤ 1 * 2 ^ n % 2 ^ set_bits
shl_pos n l = rw (one_shl n l) (pow_pos n)

pub within_more : (n s : ℕ) → s < 2 ^ set_bits → set_bits ≤ n → leb set_bits n ≡ within n s
unfolding within
within_more n s h l = le-leb set_bits n l ∙ sym (lt-ltb s (2 ^ n) (omega (arith, pow_mono l)))

pub within_fewer : (n s : ℕ) → n < set_bits → ltb s (1 * 2 ^ n % 2 ^ set_bits) ≡ within n s
unfolding within
within_fewer n s l = rw (one_shl n l)

-- a member has its bit there
pub has_low : (s k : ℕ) → s < 2 ^ set_bits → has_replica s k ≡ true → k < set_bits
has_low s k h e = has_below set_bits s k h e

pub bit_fits : (s k : ℕ) → s < 2 ^ set_bits → has_replica s k ≡ true → 1 * 2 ^ k % 2 ^ set_bits ≤ s
bit_fits s k h e = rw (one_shl k (has_low s k h e)) (bit_at_most s k e)

pub without_bit : (s k : ℕ) → s < 2 ^ set_bits → has_replica s k ≡ true → s - 1 * 2 ^ k % 2 ^ set_bits ≡ without_replica s k
unfolding without_replica
without_bit s k h e = rw (one_shl k (has_low s k h e), e)

pub without_none : (s k : ℕ) → has_replica s k ≡ false → s ≡ without_replica s k
unfolding without_replica
without_none s k e = rw e

pub rest_none : (s : ℕ) → s ≡ 0 → 0 ≡ rest_of s
unfolding rest_of
rest_none s e = omega arith

module _ (s k : ℕ) (h : s < 2 ^ set_bits) (some : s ≡ 0 → ⊥) (e : k ≡ lowest_of s) where
  positive : 0 < s
  positive = omega (arith, some)

  pub lowest_low : k < set_bits
  unfolding lowest_of
  lowest_low = omega (arith, e, trailing_lt set_bits s h positive)

  pub rest_room : 1 * 2 ^ k % 2 ^ set_bits ≤ s
  unfolding lowest_of
  rest_room = rw (one_shl k lowest_low, e) (trailing_room set_bits s positive)

  pub rest_is : s - 1 * 2 ^ k % 2 ^ set_bits ≡ rest_of s
  unfolding rest_of
  rest_is = rw (one_shl k lowest_low, e)
