-- No other outcome fits a call: two that both meet its contract mean the same and are the same, and wrong ones do not meet it.
use Rattle.std.specs.Prelude.{ℕ, List, [], ◌∷◌, ◌≡◌, length, ℤ, pos, negsuc, Option, Some, None, Ok, Err}
use Rattle.std.proofs.Common.{ap, ◌∙◌, sym, arith}
use Rattle.number.specs.Number.{groups_of, number_bytes, taken, last_of, value_of, number_of, number_at, put_answer, put_bytes, Placed}
use Rattle.number.specs.Value.{alternating_of, signed_of}
use Rattle.number.specs.Answers.{refusal_of, number_in, next_in, put_refusal_of, put_next_in}
use Rattle.number.specs.laws.Sheet.{of_127, of_128, read_80_00, read_80}
use Rattle.number.specs.Number.{Number}
use Rattle.number.specs.Same.{SameNumber, SamePut}
use Rattle.refusal.specs.Number.{paper_number}
use Rattle.refusal.specs.declared.Refusal.TheVariants.{LastIsZero}

-- ---- read_number

pub one_number : (s : List ℕ) (at : ℕ) (r r' : Number) → r ≡ number_at s at → r' ≡ number_at s at → SameNumber r r'
one_number s at r r' p q =
    let e : r ≡ r' = p ∙ sym q in
    record { refusal = ap refusal_of e; number = ap number_in e; next = ap next_in e; same = e }

-- 80 00 is not 0 in two bytes, and 80 alone is not 0 in one
pub not_long_zero : (r : Number) → r ≡ number_at (0x80 ∷ 0x00 ∷ []) 0 → r ≡ Ok (0, 2) → ⊥
not_long_zero r p q = let z : ◌≡◌ {A = ℕ} 0 1 = cc read_80_00 in omega arith

pub not_cut_zero : (r : Number) → r ≡ number_at (0x80 ∷ []) 0 → r ≡ Ok (0, 1) → ⊥
not_cut_zero r p q = let z : ◌≡◌ {A = ℕ} 0 1 = cc read_80 in omega arith

-- ---- number_length

pub one_length : (n r r' : ℕ) → r ≡ length (number_bytes n) → r' ≡ length (number_bytes n) → r ≡ r'
one_length n r r' p q = p ∙ sym q

-- 127 takes no second byte, and 128 takes one
pub not_two_of_127 : (r : ℕ) → r ≡ length (number_bytes 127) → r ≡ 2 → ⊥
not_two_of_127 r p q = omega (arith, ap length of_127)

pub not_one_of_128 : (r : ℕ) → r ≡ length (number_bytes 128) → r ≡ 1 → ⊥
not_one_of_128 r p q = omega (arith, ap length of_128)

-- ---- write_number

-- whatever bytes are written
pub one_put : (d : List ℕ) (at : ℕ) (bs : List ℕ) (r r' : Option ℕ) (e e' : List ℕ) → Placed d at bs r e → Placed d at bs r' e' → SamePut r r' e e'
one_put d at bs r r' e e' p q =
    let s : r ≡ r' = p.answer ∙ sym q.answer in
    record { refusal = ap put_refusal_of s; next = ap put_next_in s; same = s; bytes = p.bytes ∙ sym q.bytes }

-- nothing fits in no bytes, and a byte that is written is no longer what it was
pub not_in_none : (e : List ℕ) → Placed [] 0 (number_bytes 5) (Some 1) e → ⊥
unfolding put_answer groups_of
not_in_none e p = let a : ◌≡◌ {A = Option ℕ} (Some 1) None = p.answer in
    let z : ◌≡◌ {A = ℕ} 0 1 = cc in omega arith

pub not_left_alone : (r : Option ℕ) → Placed (7 ∷ []) 0 (number_bytes 5) r (7 ∷ []) → ⊥
unfolding put_bytes groups_of
not_left_alone r p = let b : ◌≡◌ {A = List ℕ} (7 ∷ []) (5 ∷ []) = p.bytes in
    let z : ◌≡◌ {A = ℕ} 7 5 = cc in omega arith

-- ---- alternating

pub one_alternating : (v : ℤ) (r r' : ℕ) → r ≡ alternating_of v → r' ≡ alternating_of v → r ≡ r'
one_alternating v r r' p q = p ∙ sym q

-- -1 is not written as 0, nor the lowest value as if it were one higher
pub not_zero_of_minus_1 : (r : ℕ) → r ≡ alternating_of (negsuc 0) → r ≡ 0 → ⊥
unfolding alternating_of
not_zero_of_minus_1 r p q = omega arith

pub not_even_of_lowest : (r : ℕ) → r ≡ alternating_of (negsuc 2147483647) → r ≡ 4294967294 → ⊥
unfolding alternating_of
not_even_of_lowest r p q = omega arith

-- ---- signed

pub one_signed : (n : ℕ) (r r' : ℤ) → r ≡ signed_of n → r' ≡ signed_of n → r ≡ r'
one_signed n r r' p q = p ∙ sym q

-- 1 does not stand for 1, nor 2 for -1
pub not_one_of_1 : (r : ℤ) → r ≡ signed_of 1 → r ≡ pos 1 → ⊥
unfolding signed_of
not_one_of_1 r p q = let a : r ≡ negsuc 0 = p in
    let z : ◌≡◌ {A = ℕ} 0 1 = cc in omega arith

pub not_minus_1_of_2 : (r : ℤ) → r ≡ signed_of 2 → r ≡ negsuc 0 → ⊥
unfolding signed_of
not_minus_1_of_2 r p q = let a : r ≡ pos 1 = p in
    let z : ◌≡◌ {A = ℕ} 0 1 = cc in omega arith

-- ---- what answers say

-- 85 02 is 261 and ends at place 2; 80 00 is refused 22, and nothing is read
pub says_261 : (r : Number) → r ≡ number_at (0x85 ∷ 0x02 ∷ []) 0 → (refusal_of r ≡ 0) × (number_in r ≡ 261) × (next_in r ≡ 2)
unfolding number_at number_of taken last_of value_of refusal_of number_in next_in
says_261 r p = let e : r ≡ Ok (261, 2) = p in (ap refusal_of e, ap number_in e, ap next_in e)

pub says_22 : (r : Number) → r ≡ number_at (0x80 ∷ 0x00 ∷ []) 0 → (refusal_of r ≡ 22) × (number_in r ≡ 0) × (next_in r ≡ 0)
unfolding refusal_of number_in next_in paper_number
says_22 r p = let e : r ≡ Err LastIsZero = p ∙ read_80_00 in (ap refusal_of e, ap number_in e, ap next_in e)

-- 261 written at place 1 ends at place 3; where one byte is left it is refused 20
pub says_written : (r : Option ℕ) (e : List ℕ) → Placed (7 ∷ 7 ∷ 7 ∷ []) 1 (number_bytes 261) r e → (put_refusal_of r ≡ 0) × (put_next_in r ≡ 3)
unfolding put_answer groups_of put_refusal_of put_next_in
says_written r e p = let a : r ≡ Some 3 = p.answer in (ap put_refusal_of a, ap put_next_in a)

pub says_20 : (r : Option ℕ) (e : List ℕ) → Placed (7 ∷ 7 ∷ 7 ∷ []) 2 (number_bytes 261) r e → (put_refusal_of r ≡ 20) × (put_next_in r ≡ 0)
unfolding put_answer groups_of put_refusal_of put_next_in
says_20 r e p = let a : r ≡ None = p.answer in (ap put_refusal_of a, ap put_next_in a)
