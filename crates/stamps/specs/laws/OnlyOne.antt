-- Stamps: no other outcome fits a call, and wrong ones do not meet its contract.
use Rattle.std.specs.Prelude.{ℕ, ◌≡◌, Bool, true, false, pos}
use Rattle.std.proofs.Common.{ap, sym, ◌∙◌, arith}
use Rattle.stamps.specs.declared.Stamp.{Stamp}
use Rattle.stamps.specs.declared.Pair.{Pair}
use Rattle.stamps.specs.Stamp.{stamp_less, raised, fresh_pair}
use Rattle.stamps.specs.Examples.{stamp, pair_of}

-- two answers that are both what is stated are the same
pub one_answer : {A : Type 0} (o r r' : A) → r ≡ o → r' ≡ o → r ≡ r'
one_answer o r r' p q = p ∙ sym q

-- a test answers yes or no, and not both
pub yes_not_no : {r : Bool} → r ≡ true → r ≡ false → ⊥
yes_not_no p q = let z : ◌≡◌ {A = ℕ} 0 1 = cc in omega arith

-- ---- less

pub one_less : (s t : Stamp) (r r' : Bool) → r ≡ stamp_less s t → r' ≡ stamp_less s t → r ≡ r'
one_less s t r r' p q = one_answer (stamp_less s t) r r' p q

-- a stamp isn't less than itself, and the number comes before the rank
pub not_less_itself : (r : Bool) → r ≡ stamp_less (stamp 1 0) (stamp 1 0) → r ≡ true → ⊥
unfolding stamp_less
not_less_itself r p q = yes_not_no q p

pub not_by_rank : (r : Bool) → r ≡ stamp_less (stamp 1 7) (stamp 2 0) → r ≡ false → ⊥
unfolding stamp_less
not_by_rank r p q = yes_not_no p q

-- ---- raise, and raise_in_place: r is the pair that the one gives, and the lent pair after the other

pub one_raise : (a b r r' : Pair) → r ≡ raised a b → r' ≡ raised a b → r ≡ r'
one_raise a b r r' p q = one_answer (raised a b) r r' p q

other_value : (r : Pair) (m n : ℕ) → (m ≡ n → ⊥) → r.value ≡ pos m → r.value ≡ pos n → ⊥
other_value r m n d p q = let e : m ≡ n = cc in d e

-- at an equal stamp nothing is taken, and with a greater rank both stamp and value are
pub not_at_equal : (r : Pair) → r ≡ raised (pair_of 1 0 5) (pair_of 1 0 6) → r.value ≡ pos 6 → ⊥
unfolding raised stamp_less
not_at_equal r p q = other_value r 5 6 (λ e. omega arith) (ap (λ (x : Pair). x.value) p) q

pub not_left : (r : Pair) → r ≡ raised (pair_of 1 0 5) (pair_of 1 1 6) → r.value ≡ pos 5 → ⊥
unfolding raised stamp_less
not_left r p q = other_value r 6 5 (λ e. omega arith) (ap (λ (x : Pair). x.value) p) q

-- a lesser number isn't taken
pub not_lowered : (r : Pair) → r ≡ raised (pair_of 2 0 5) (pair_of 1 7 6) → r.value ≡ pos 6 → ⊥
unfolding raised stamp_less
not_lowered r p q = other_value r 5 6 (λ e. omega arith) (ap (λ (x : Pair). x.value) p) q

-- ---- fresh_pair

pub one_fresh_pair : (r r' : Pair) → r ≡ fresh_pair → r' ≡ fresh_pair → r ≡ r'
one_fresh_pair r r' p q = one_answer fresh_pair r r' p q

pub not_value_1 : (r : Pair) → r ≡ fresh_pair → r.value ≡ pos 1 → ⊥
not_value_1 r p q = other_value r 0 1 (λ e. omega arith) (ap (λ (x : Pair). x.value) p) q

pub not_number_1 : (r : Pair) → r ≡ fresh_pair → r.stamp.number ≡ 1 → ⊥
not_number_1 r p q = let e : r.stamp.number ≡ 0 = ap (λ (x : Pair). x.stamp.number) p in omega arith
