-- The members of a set, one at a time from the lowest: the others are a set again.
use Rattle.std.specs.Prelude.{ℕ, zero, suc, ◌+◌, ◌-◌, ◌/◌, ◌%◌, ◌^◌, ◌≤◌, ◌<◌, ◌≡◌, refl, List, [], ◌∷◌, eqb, length}
use Rattle.std.proofs.Common.{ap, sym, ◌∙◌, arith, pow-suc, zero-add, shr-shr, pow_mono, pow_pos}
use Rattle.std.specs.Int.Count.{ones, count_trailing_zeros, under}
use Rattle.slots.specs.laws.Bits.{trailing_room}
use Rattle.quorum.specs.Sets.{set_bits, has_replica, keep_if, members_from, members_of, lowest_of, rest_of}
use Rattle.quorum.proofs.theorems.Members.{members_count}

-- the members by their bits: n bits of x, the lowest of which is for replica b
unfoldable bit_members : ℕ → ℕ → ℕ → List ℕ
bit_members zero b x = []
bit_members (suc n) b x = keep_if (eqb (x % 2) 1) b (bit_members n (b + 1) (x / 2))

bits_are : (n k s : ℕ) → members_from n k s ≡ bit_members n k (s / 2 ^ k)
unfolding members_from bit_members has_replica
bits_are zero k s = refl
bits_are (suc n) k s =
    let e : s / 2 ^ (k + 1) ≡ s / 2 ^ k / 2 = sym (shr-shr s k 1) in
    ap (keep_if (eqb (s / 2 ^ k % 2) 1) k) (bits_are n (k + 1) s ∙ ap (bit_members n (k + 1)) e)

none_left : (n b : ℕ) → bit_members n b 0 ≡ []
unfolding bit_members
none_left zero b = refl
none_left (suc n) b = none_left n (b + 1)

-- bits above the set's own add nothing
more_bits : (n m b x : ℕ) → x < 2 ^ n → bit_members (n + m) b x ≡ bit_members n b x
unfolding bit_members
more_bits zero m b x h = let e : x ≡ 0 = omega arith in rw e (none_left (0 + m) b)
more_bits (suc n) m b x h =
    let s : suc n + m ≡ suc (n + m) = omega arith in
    rw s (ap (keep_if (eqb (x % 2) 1) b) (more_bits n m (b + 1) (x / 2) (omega (arith, pow-suc 2 n))))

-- the lowest first
bits_next : (n b x : ℕ) → x < 2 ^ n → 0 < x → bit_members n b x ≡ (b + count_trailing_zeros n x) ∷ bit_members n b (x - 2 ^ count_trailing_zeros n x)
unfolding bit_members count_trailing_zeros
bits_next zero b x h l = absurd (omega arith)
bits_next (suc n) b x h l = go (x % 2) refl (bits_next n (b + 1) (x / 2))
  where
    go : (d : ℕ) → x % 2 ≡ d
        → (x / 2 < 2 ^ n → 0 < x / 2 → bit_members n (b + 1) (x / 2) ≡ (b + 1 + count_trailing_zeros n (x / 2)) ∷ bit_members n (b + 1) (x / 2 - 2 ^ count_trailing_zeros n (x / 2)))
        → keep_if (eqb (x % 2) 1) b (bit_members n (b + 1) (x / 2))
        ≡ (b + under (x % 2) (count_trailing_zeros n (x / 2))) ∷ bit_members (suc n) b (x - 2 ^ under (x % 2) (count_trailing_zeros n (x / 2)))
    go zero e ih =
        let p : 0 < x / 2 = omega arith in
        let r : 2 ^ count_trailing_zeros n (x / 2) ≤ x / 2 = trailing_room n (x / 2) p in
        let s : (x - 2 ^ suc (count_trailing_zeros n (x / 2))) % 2 ≡ 0 = omega (arith, pow-suc 2 (count_trailing_zeros n (x / 2))) in
        let t : (x - 2 ^ suc (count_trailing_zeros n (x / 2))) / 2 ≡ x / 2 - 2 ^ count_trailing_zeros n (x / 2) = omega (arith, pow-suc 2 (count_trailing_zeros n (x / 2))) in
        let u : b + 1 + count_trailing_zeros n (x / 2) ≡ b + suc (count_trailing_zeros n (x / 2)) = omega arith in
        rw (e, s, t) (ih (omega (arith, pow-suc 2 n)) p ∙ ap (λ (k : ℕ). k ∷ bit_members n (b + 1) (x / 2 - 2 ^ count_trailing_zeros n (x / 2))) u)
    go (suc zero) e ih =
        let s : (x - 2 ^ 0) % 2 ≡ 0 = omega arith in
        let t : (x - 2 ^ 0) / 2 ≡ x / 2 = omega arith in
        let u : b + 0 ≡ b = omega arith in
        rw (e, s, t, u)
    go (suc (suc d)) e ih = absurd (omega arith)

-- ---- the same of the members of a set among n replicas, with as many bits as a set has

members_bits : (m n x : ℕ) → n ≤ m → x < 2 ^ n → members_of n x ≡ bit_members m 0 x
members_bits m n x l h =
    let z : x / 2 ^ 0 ≡ x = omega arith in
    let e : m ≡ n + (m - n) = omega arith in
    bits_are n 0 x ∙ ap (bit_members n 0) z ∙ sym (ap (λ (k : ℕ). bit_members k 0 x) e ∙ more_bits n (m - n) 0 x h)

-- the lowest member and the others
pub members_next : (n x : ℕ) → n ≤ set_bits → x < 2 ^ n → 0 < x → members_of n x ≡ lowest_of x ∷ members_of n (rest_of x)
unfolding lowest_of rest_of
members_next n x l h p =
    let s : x < 2 ^ set_bits = omega (arith, pow_mono {i = n} {j = set_bits} l) in
    members_bits set_bits n x l h ∙ bits_next set_bits 0 x s p
    ∙ ap (λ (k : ℕ). k ∷ bit_members set_bits 0 (x - 2 ^ count_trailing_zeros set_bits x)) (zero-add (count_trailing_zeros set_bits x))
    ∙ ap (λ (ks : List ℕ). count_trailing_zeros set_bits x ∷ ks) (sym (members_bits set_bits n (x - 2 ^ count_trailing_zeros set_bits x) l (omega arith)))

pub members_none : (n : ℕ) → members_of n 0 ≡ []
members_none n =
    let z : 0 / 2 ^ 0 ≡ 0 = omega arith in
    bits_are n 0 0 ∙ ap (bit_members n 0) z ∙ none_left n 0

-- the others are fewer
pub rest_less : (x : ℕ) → 0 < x → rest_of x < x
unfolding rest_of
rest_less x p = omega (arith, pow_pos (lowest_of x))

pub ones_rest : (n x : ℕ) → n ≤ set_bits → x < 2 ^ n → 0 < x → ones (rest_of x) + 1 ≡ ones x
ones_rest n x l h p =
    omega (arith, ap length (members_next n x l h p), members_count n x h, members_count n (rest_of x) (omega (arith, rest_less x p)))
