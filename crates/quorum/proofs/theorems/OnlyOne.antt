-- No other answer fits a call: two that both meet its contract are the same, a set is known by its members, and wrong answers do not meet it.
use Rattle.std.specs.Prelude.{ℕ, ◌≤◌, ◌<◌, Bool, true, false, not, ◌&&◌, ◌||◌, ◌≡◌, eqb, ltb}
use Rattle.std.proofs.Common.{◌∙◌, sym, arith}
use Rattle.std.specs.Int.Count.{ones, count_trailing_zeros}
use Rattle.record.specs.declared.Replica.{Replica}
use Rattle.quorum.specs.Sets.{set_bits, has_replica, with_replica, without_replica, count_of, majority, asks_enough, keeps_enough, every_replica, others, within, lowest_of, rest_of}
use Rattle.quorum.specs.Shared.{four}
use Rattle.quorum.proofs.theorems.SetLaws.{same_members, has_with, has_every, has_others}
use Rattle.quorum.proofs.theorems.Sheet.{half_of_4, most_of_4, other_three, one_more, not_of_4}

-- ---- has, asks_enough, keeps_enough, within

-- a test answers yes or no, and not both
pub one_answer : (t r r' : Bool) → r ≡ t → r' ≡ t → r ≡ r'
one_answer t r r' p q = p ∙ sym q

yes_not_no : {r : Bool} → r ≡ true → r ≡ false → ⊥
yes_not_no p q = let z : ◌≡◌ {A = ℕ} 0 1 = cc in omega arith

-- of replicas 0 and 2 replica 1 is none, and replica 2 is one
pub not_next : (r : Bool) → r ≡ has_replica 0b0101 1 → r ≡ true → ⊥
unfolding has_replica
not_next r p q = yes_not_no q p

pub not_missing : (r : Bool) → r ≡ has_replica 0b0101 2 → r ≡ false → ⊥
unfolding has_replica
not_missing r p q = yes_not_no p q

-- half of four is not enough, three of four are
pub not_half : (r : Bool) → r ≡ asks_enough four 0b0101 → r ≡ true → ⊥
not_half r p q = yes_not_no q (p ∙ half_of_4)

pub not_three_short : (r : Bool) → r ≡ asks_enough four 0b1101 → r ≡ false → ⊥
unfolding asks_enough majority ones
not_three_short r p q = yes_not_no p q

pub not_half_kept : (r : Bool) → r ≡ keeps_enough four 0b0101 → r ≡ true → ⊥
unfolding keeps_enough majority ones
not_half_kept r p q = yes_not_no q p

pub not_short : (r : Bool) → r ≡ keeps_enough four 0b1101 → r ≡ false → ⊥
not_short r p q = yes_not_no (p ∙ most_of_4) q

-- replica 4 is none of four, and replica 3 is one
pub not_there : (r : Bool) → r ≡ within 4 0b10000 → r ≡ true → ⊥
not_there r p q = yes_not_no q (p ∙ not_of_4)

pub not_outside : (r : Bool) → r ≡ within 4 0b1000 → r ≡ false → ⊥
unfolding within
not_outside r p q = yes_not_no p q

-- ---- count

pub one_count : (s r r' : ℕ) → (r ≡ count_of s) × (r ≤ set_bits) → (r' ≡ count_of s) × (r' ≤ set_bits) → r ≡ r'
one_count s r r' p q = p.0 ∙ sym q.0

-- replicas 0 and 2 are two: neither the set's number nor its highest bit
pub not_five : (r : ℕ) → r ≡ count_of 0b0101 → r ≡ 5 → ⊥
unfolding ones
not_five r p q = let e : r ≡ 2 = p in omega arith

pub not_three : (r : ℕ) → r ≡ count_of 0b0101 → r ≡ 3 → ⊥
unfolding ones
not_three r p q = let e : r ≡ 2 = p in omega arith

-- ---- with

pub one_with : (s k r r' : ℕ) → r ≡ with_replica s k → r' ≡ with_replica s k → r ≡ r'
one_with s k r r' p q = p ∙ sym q

-- it is the one set that has replica k and otherwise just the members it had
pub with_members : (s k r : ℕ) → k < set_bits → ((j : ℕ) → has_replica r j ≡ (eqb j k || has_replica s j)) → r ≡ with_replica s k
with_members s k r h m = same_members r (with_replica s k) (λ j. m j ∙ sym (has_with s k j h))

-- replica 4 comes to 1 and 3: the set changes, and it isn't alone
pub not_unchanged : (r : ℕ) → r ≡ with_replica 0b01010 4 → r ≡ 0b01010 → ⊥
not_unchanged r p q = omega (arith, one_more)

pub not_alone : (r : ℕ) → r ≡ with_replica 0b01010 4 → r ≡ 0b10000 → ⊥
not_alone r p q = omega (arith, one_more)

-- ---- without

pub one_without : (s k r r' : ℕ) → r ≡ without_replica s k → r' ≡ without_replica s k → r ≡ r'
one_without s k r r' p q = p ∙ sym q

-- replica 3 goes from 1 and 3: it isn't left, and the other is
pub not_left : (r : ℕ) → r ≡ without_replica 0b01010 3 → r ≡ 0b01010 → ⊥
unfolding without_replica has_replica
not_left r p q = let e : r ≡ 0b00010 = p in omega arith

pub not_all_gone : (r : ℕ) → r ≡ without_replica 0b01010 3 → r ≡ 0 → ⊥
unfolding without_replica has_replica
not_all_gone r p q = let e : r ≡ 0b00010 = p in omega arith

-- ---- every

pub one_every : (n r r' : ℕ) → r ≡ every_replica n → r' ≡ every_replica n → r ≡ r'
one_every n r r' p q = p ∙ sym q

-- it is the one set that has just the replicas below n
pub every_members : (n r : ℕ) → n ≤ set_bits → ((j : ℕ) → has_replica r j ≡ ltb j n) → r ≡ every_replica n
every_members n r h m = same_members r (every_replica n) (λ j. m j ∙ sym (has_every n j h))

-- of three neither the last is missing, nor is there a fourth
pub not_two_of_3 : (r : ℕ) → r ≡ every_replica 3 → r ≡ 0b011 → ⊥
unfolding every_replica set_bits
not_two_of_3 r p q = let e : r ≡ 0b111 = p in omega arith

pub not_four_of_3 : (r : ℕ) → r ≡ every_replica 3 → r ≡ 0b1111 → ⊥
unfolding every_replica set_bits
not_four_of_3 r p q = let e : r ≡ 0b111 = p in omega arith

-- ---- others

pub one_others : (n s r r' : ℕ) → r ≡ others n s → r' ≡ others n s → r ≡ r'
one_others n s r r' p q = p ∙ sym q

-- it is the one set that has just the replicas below n that the set hasn't got
pub others_members : (n s r : ℕ) → n ≤ set_bits → ((j : ℕ) → has_replica r j ≡ (ltb j n && not (has_replica s j))) → r ≡ others n s
others_members n s r h m = same_members r (others n s) (λ j. m j ∙ sym (has_others n s j h))

-- of five, the others of 1 and 3 are neither 1 and 3 nor all five
pub not_themselves : (r : ℕ) → r ≡ others 5 0b01010 → r ≡ 0b01010 → ⊥
not_themselves r p q = omega (arith, other_three)

pub not_all_five : (r : ℕ) → r ≡ others 5 0b01010 → r ≡ 0b11111 → ⊥
not_all_five r p q = omega (arith, other_three)

-- ---- lowest

pub one_lowest : (s : ℕ) (r r' : Replica) → r ≡ record { 0 = lowest_of s } → r' ≡ record { 0 = lowest_of s } → r ≡ r'
one_lowest s r r' p q = p ∙ sym q

-- of replicas 1 and 3 it is 1: neither the highest, nor replica 0, which isn't there
pub not_highest : (r : Replica) → r ≡ record { 0 = lowest_of 0b01010 } → r.0 ≡ 3 → ⊥
unfolding lowest_of set_bits count_trailing_zeros
not_highest r p q = let e : r.0 ≡ 1 = λ i. (p i).0 in omega arith

pub not_first : (r : Replica) → r ≡ record { 0 = lowest_of 0b01010 } → r.0 ≡ 0 → ⊥
unfolding lowest_of set_bits count_trailing_zeros
not_first r p q = let e : r.0 ≡ 1 = λ i. (p i).0 in omega arith

-- ---- rest

pub one_rest : (s r r' : ℕ) → r ≡ rest_of s → r' ≡ rest_of s → r ≡ r'
one_rest s r r' p q = p ∙ sym q

-- of replicas 1 and 3 replica 3 is left: not both, and not replica 1
pub not_both_left : (r : ℕ) → r ≡ rest_of 0b01010 → r ≡ 0b01010 → ⊥
unfolding rest_of lowest_of set_bits count_trailing_zeros
not_both_left r p q = let e : r ≡ 0b01000 = p in omega arith

pub not_lowest_left : (r : ℕ) → r ≡ rest_of 0b01010 → r ≡ 0b00010 → ⊥
unfolding rest_of lowest_of set_bits count_trailing_zeros
not_lowest_left r p q = let e : r ≡ 0b01000 = p in omega arith
