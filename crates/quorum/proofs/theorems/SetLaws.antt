-- What holds of sets of replicas, for any number of replicas and any number of bits.
use Rattle.std.specs.Prelude.{ℕ, ◌+◌, ◌-◌, ◌*◌, ◌/◌, ◌^◌, ◌≤◌, ◌<◌, min, ◌≡◌, refl, Bool, true, false, cond, not, ◌&&◌, ◌||◌, ◌⊎◌, ltb, eqb}
use Rattle.std.proofs.Common.{ap, sym, ◌∙◌, inl, inr, arith, pow_pos, lt-ltb, le-ltb, ltb-true, ltb-false, eq-eqb, eqb-true}
use Rattle.std.specs.Int.Bits.{bit_or, bit_and, or_add_and}
use Rattle.std.proofs.lemmas.Nat.{and_le_l, or_lt, ones-le}
use Rattle.std.specs.Int.Count.{ones, ones-ones}
use Rattle.std.proofs.Math.Pow.{pow-lt, ones_lt}
use Rattle.std.proofs.lemmas.Bool.{eqb-false}
use Rattle.quorum.specs.declared.Quorums.{Quorums}
use Rattle.quorum.specs.Sets.{set_bits, has_replica, with_replica, count_of, majority, asks_enough, keeps_enough, every_replica, others, within, without_replica}
use Rattle.quorum.specs.laws.Bits.{bit, bit_most, bit_none, has_one, has_zero, one_has, zero_has, or_bit, and_bit, left_bit, pow_same, pow_other, and_fresh, and_there}
use Rattle.quorum.specs.laws.Bits.{all_below_lem, bit_below, same_bits, ones_both, ones_left, ones_one, some_bit}
use Rattle.quorum.specs.laws.FloatingPins.{half_is_not_enough}
use Rattle.quorum.specs.Shared.{Shared, Least}

-- the test of a set of n replicas, and what it tells
pub within_below : (n s : ℕ) → within n s ≡ true → s < 2 ^ n
unfolding within
within_below n s e = ltb-true s (2 ^ n) e

pub below_within : (n s : ℕ) → s < 2 ^ n → within n s ≡ true
unfolding within
below_within n s h = lt-ltb s (2 ^ n) h

-- ---- membership

-- a set of n replicas has none from n on
pub has_beyond : (n s k : ℕ) → s < 2 ^ n → n ≤ k → has_replica s k ≡ false
has_beyond n s k h l = zero_has s k (bit_below n s k h l)

pub has_below : (n s k : ℕ) → s < 2 ^ n → has_replica s k ≡ true → k < n
has_below n s k h e = go (ltb k n) refl
  where
    go : (t : Bool) → ltb k n ≡ t → k < n
    go true q = ltb-true k n q
    go false q = absurd (omega (arith, has_one s k e, bit_below n s k h (ltb-false k n q)))

-- two sets with the same members are one
pub same_members : (a b : ℕ) → ((k : ℕ) → has_replica a k ≡ has_replica b k) → a ≡ b
same_members a b h = same_bits a b (λ k. go k (has_replica a k) refl)
  where
    go : (k : ℕ) (t : Bool) → has_replica a k ≡ t → bit a k ≡ bit b k
    go k true e = has_one a k e ∙ sym (has_one b k (sym (h k) ∙ e))
    go k false e = has_zero a k e ∙ sym (has_zero b k (sym (h k) ∙ e))

-- ---- one replica more

with_is : (s k : ℕ) → k < set_bits → with_replica s k ≡ bit_or s (2 ^ k)
unfolding with_replica
with_is s k h = rw (lt-ltb k set_bits h)

pub with_beyond : (s k : ℕ) → set_bits ≤ k → with_replica s k ≡ s
unfolding with_replica
with_beyond s k h = rw (le-ltb k set_bits h)

-- replica j is then a member exactly when it is the one or was a member
pub has_with : (s k j : ℕ) → k < set_bits → has_replica (with_replica s k) j ≡ (eqb j k || has_replica s j)
has_with s k j h = ap (λ (x : ℕ). has_replica x j) (with_is s k h) ∙ go (eqb j k) refl
  where
    else : (t : Bool) → has_replica s j ≡ t → bit (2 ^ k) j ≡ 0 → has_replica (bit_or s (2 ^ k)) j ≡ t
    else true e z = one_has (bit_or s (2 ^ k)) j (omega (arith, or_bit s (2 ^ k) j, has_one s j e))
    else false e z = zero_has (bit_or s (2 ^ k)) j (omega (arith, or_bit s (2 ^ k) j, has_zero s j e))

    go : (t : Bool) → eqb j k ≡ t → has_replica (bit_or s (2 ^ k)) j ≡ (t || has_replica s j)
    go true e =
        let q : j ≡ k = eqb-true j k e in
        let p : bit (2 ^ k) j ≡ 1 = ap (bit (2 ^ k)) q ∙ pow_same k in
        one_has (bit_or s (2 ^ k)) j (omega (arith, or_bit s (2 ^ k) j, bit_most s j))
    go false e = else (has_replica s j) refl (pow_other k j (eqb-false j k e))

pub with_has : (s k : ℕ) → k < set_bits → has_replica (with_replica s k) k ≡ true
with_has s k h = has_with s k k h ∙ rw (eq-eqb k k refl)

pub with_new : (s k j : ℕ) → has_replica (with_replica s k) j ≡ true → (j ≡ k) ⊎ (has_replica s j ≡ true)
with_new s k j e = go (ltb k set_bits) refl (eqb j k) refl
  where
    go : (t : Bool) → ltb k set_bits ≡ t → (m : Bool) → eqb j k ≡ m → (j ≡ k) ⊎ (has_replica s j ≡ true)
    go t q true p = inl (eqb-true j k p)
    go true q false p =
        let x : has_replica (with_replica s k) j ≡ has_replica s j = has_with s k j (ltb-true k set_bits q) ∙ rw p in
        inr (sym x ∙ e)
    go false q false p = inr (ap (λ (x : ℕ). has_replica x j) (sym (with_beyond s k (ltb-false k set_bits q))) ∙ e)

-- one that was not there raises the count by one
pub with_fresh : (s k : ℕ) → k < set_bits → has_replica s k ≡ false → count_of (with_replica s k) ≡ count_of s + 1
unfolding ones
with_fresh s k h e = ap ones (with_is s k h) ∙ omega (arith, ones_both s (2 ^ k), ones_one k, ap ones (and_fresh s k (has_zero s k e)))

-- one that was there leaves the set as it is
pub with_there : (s k : ℕ) → has_replica s k ≡ true → with_replica s k ≡ s
with_there s k e = go (ltb k set_bits) refl
  where
    go : (t : Bool) → ltb k set_bits ≡ t → with_replica s k ≡ s
    go true q = with_is s k (ltb-true k set_bits q) ∙ omega (arith, or_add_and s (2 ^ k), and_there s k (has_one s k e))
    go false q = with_beyond s k (ltb-false k set_bits q)

-- so the count never falls
pub with_count : (s k : ℕ) → count_of s ≤ count_of (with_replica s k)
with_count s k = go (ltb k set_bits) refl (has_replica s k) refl
  where
    go : (t : Bool) → ltb k set_bits ≡ t → (m : Bool) → has_replica s k ≡ m → count_of s ≤ count_of (with_replica s k)
    go false q m e = omega (arith, ap ones (with_beyond s k (ltb-false k set_bits q)))
    go true q true e = omega (arith, ap ones (with_there s k e))
    go true q false e = omega (arith, with_fresh s k (ltb-true k set_bits q) e)

-- and a set of n replicas stays one
pub with_below : (n s k : ℕ) → s < 2 ^ n → k < n → with_replica s k < 2 ^ n
with_below n s k h l = go (ltb k set_bits) refl
  where
    go : (t : Bool) → ltb k set_bits ≡ t → with_replica s k < 2 ^ n
    go true q = rw (with_is s k (ltb-true k set_bits q)) (or_lt n s (2 ^ k) h (pow-lt l))
    go false q = rw (with_beyond s k (ltb-false k set_bits q)) h

-- ---- counts

-- a set with a member: one of them, or none and the set is empty
pub member : (s : ℕ) → 0 < count_of s → (k : ℕ) × (has_replica s k ≡ true)
member s h = let w = some_bit s h in (w.0, one_has s w.0 w.1)

pub none_count : count_of 0 ≡ 0
unfolding ones
none_count = refl

pub count_none : (s : ℕ) → count_of s ≡ 0 → s ≡ 0
count_none s e = same_bits s 0 (λ k. go k (has_replica s k) refl)
  where
    go : (k : ℕ) (t : Bool) → has_replica s k ≡ t → bit s k ≡ bit 0 k
    go k false q = has_zero s k q ∙ sym (bit_none k)
    go k true q = absurd (omega (arith, ones_left s (2 ^ k), ones_one k, ap ones (and_there s k (has_one s k q))))

-- ---- two sets that meet

-- any two sizes whose sum is above n
pub meet_sizes : (n p q a b : ℕ) → n < p + q → a < 2 ^ n → b < 2 ^ n → p ≤ count_of a → q ≤ count_of b → Shared n a b
meet_sizes n p q a b h ha hb pa qb =
    let w = some_bit (bit_and a b) (omega (arith, ones_both a b, ones-le n (bit_or a b) (or_lt n a b ha hb))) in
    let x : bit a w.0 ≡ 1 = omega (arith, and_bit a b w.0, w.1, bit_most a w.0) in
    let y : bit b w.0 ≡ 1 = omega (arith, and_bit a b w.0, w.1, bit_most b w.0) in
    record {
      replica = w.0;
      there = has_below n a w.0 ha (one_has a w.0 x);
      first = one_has a w.0 x;
      second = one_has b w.0 y;
    }

-- how many members a majority has at least
pub majority_count : (n s : ℕ) → majority n s ≡ true → n < 2 * count_of s
unfolding majority
majority_count n s e = ltb-true n (2 * ones s) e

pub count_majority : (n s : ℕ) → n < 2 * count_of s → majority n s ≡ true
unfolding majority
count_majority n s h = lt-ltb n (2 * ones s) h

pub count_minority : (n s : ℕ) → 2 * count_of s ≤ n → majority n s ≡ false
unfolding majority
count_minority n s h = le-ltb n (2 * ones s) h

-- enough for an ask and enough for a keep share a replica
pub meet : (q : Quorums) (a b : ℕ) → a < 2 ^ q.replicas → b < 2 ^ q.replicas → asks_enough q a ≡ true → keeps_enough q b ≡ true → Shared q.replicas a b
unfolding asks_enough keeps_enough
meet q a b ha hb ea eb =
    let n = q.replicas in
    meet_sizes n (count_of a) (count_of b) a b (omega (arith, majority_count n a ea, majority_count n b eb)) ha hb (omega arith) (omega arith)

-- ---- what is enough

pub least : (n : ℕ) → Least n (n / 2 + 1)
least n = record { enough = λ s h. count_majority n s (omega arith); fewer = λ s h. count_minority n s (omega arith) }

-- no replica is never enough
pub none_asks : (q : Quorums) → 1 ≤ q.replicas → asks_enough q 0 ≡ false
none_asks q h = (half_is_not_enough q 0 (omega (arith, none_count))).0

pub none_keeps : (q : Quorums) → 1 ≤ q.replicas → keeps_enough q 0 ≡ false
none_keeps q h = (half_is_not_enough q 0 (omega (arith, none_count))).1

pub none_has : (k : ℕ) → has_replica 0 k ≡ false
none_has k = zero_has 0 k (bit_none k)

pub none_within : (n : ℕ) → 0 < 2 ^ n
none_within n = pow_pos n

-- ---- every replica, and the others

pub every_is : (n : ℕ) → n ≤ set_bits → every_replica n ≡ 2 ^ n - 1
unfolding every_replica
every_is n h = let e : min n set_bits ≡ n = omega arith in rw e

pub every_below : (n : ℕ) → n ≤ set_bits → every_replica n < 2 ^ n
every_below n h = rw (every_is n h) (ones_lt n)

pub every_count : (n : ℕ) → n ≤ set_bits → count_of (every_replica n) ≡ n
every_count n h = ap ones (every_is n h) ∙ ones-ones n

every_bit : (n k : ℕ) → n ≤ set_bits → k < n → bit (every_replica n) k ≡ 1
every_bit n k h l = rw (every_is n h) (all_below_lem n k l)

every_no_bit : (n k : ℕ) → n ≤ set_bits → n ≤ k → bit (every_replica n) k ≡ 0
every_no_bit n k h l = bit_below n (every_replica n) k (every_below n h) l

pub has_every : (n k : ℕ) → n ≤ set_bits → has_replica (every_replica n) k ≡ ltb k n
has_every n k h = go (ltb k n) refl
  where
    go : (t : Bool) → ltb k n ≡ t → has_replica (every_replica n) k ≡ t
    go true e = one_has (every_replica n) k (every_bit n k h (ltb-true k n e))
    go false e = zero_has (every_replica n) k (every_no_bit n k h (ltb-false k n e))

-- the others are the replicas of n that the set hasn't got
pub has_others : (n s k : ℕ) → n ≤ set_bits → has_replica (others n s) k ≡ (ltb k n && not (has_replica s k))
unfolding others
has_others n s k h = go (ltb k n) refl (has_replica s k) refl
  where
    go : (t : Bool) → ltb k n ≡ t → (m : Bool) → has_replica s k ≡ m → has_replica (others n s) k ≡ (t && not m)
    go false e m q = zero_has (others n s) k (omega (arith, left_bit (every_replica n) s k, every_no_bit n k h (ltb-false k n e)))
    go true e true q = zero_has (others n s) k (omega (arith, left_bit (every_replica n) s k, every_bit n k h (ltb-true k n e), has_one s k q))
    go true e false q = one_has (others n s) k (omega (arith, left_bit (every_replica n) s k, every_bit n k h (ltb-true k n e), has_zero s k q))

pub others_below : (n s : ℕ) → n ≤ set_bits → others n s < 2 ^ n
unfolding others
others_below n s h = omega (arith, every_below n h)

-- ---- one replica less

-- a set of n without a replica is one of n
pub without_below : (n s k : ℕ) → s < 2 ^ n → without_replica s k < 2 ^ n
unfolding without_replica
without_below n s k h = go (has_replica s k)
  where
    go : (t : Bool) → cond t (s - 2 ^ k) s < 2 ^ n
    go true = omega arith
    go false = h

-- a member is at least its own bit
pub bit_at_most : (s k : ℕ) → has_replica s k ≡ true → 2 ^ k ≤ s
bit_at_most s k e = omega (arith, and_there s k (has_one s k e), and_le_l s (2 ^ k))

without_is : (s k : ℕ) → has_replica s k ≡ true → without_replica s k ≡ s - bit_and s (2 ^ k)
unfolding without_replica
without_is s k e = rw (e, and_there s k (has_one s k e))

-- replica j is then a member exactly when it was one and is not the one
pub has_without : (s k j : ℕ) → has_replica (without_replica s k) j ≡ (not (eqb j k) && has_replica s j)
unfolding without_replica
has_without s k j = go (has_replica s k) refl (eqb j k) refl (has_replica s j) refl
  where
    go : (h : Bool) → has_replica s k ≡ h → (t : Bool) → eqb j k ≡ t → (m : Bool) → has_replica s j ≡ m
        → has_replica (without_replica s k) j ≡ (not t && m)
    go false p true q m e = let x : j ≡ k = eqb-true j k q in rw (p, x) p
    go false p false q m e = rw p e
    go true p true q m e =
        let x : j ≡ k = eqb-true j k q in
        rw (without_is s k p, x) (zero_has (s - bit_and s (2 ^ k)) k (omega (arith, left_bit s (2 ^ k) k, pow_same k, bit_most s k)))
    go true p false q true e =
        rw (without_is s k p) (one_has (s - bit_and s (2 ^ k)) j (omega (arith, left_bit s (2 ^ k) j, pow_other k j (eqb-false j k q), has_one s j e)))
    go true p false q false e =
        rw (without_is s k p) (zero_has (s - bit_and s (2 ^ k)) j (omega (arith, left_bit s (2 ^ k) j, has_zero s j e)))
