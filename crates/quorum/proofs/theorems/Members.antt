-- A set's members in replica order: as many as are counted, each once, and just those that the set has.
use Rattle.std.specs.Prelude.{ℕ, zero, suc, ◌+◌, ◌/◌, ◌^◌, ◌≤◌, ◌<◌, ◌≡◌, refl, Bool, true, false, length, eqb}
use Rattle.std.proofs.Common.{ap, sym, ◌∙◌, ⊎_elim, arith, shr-shr, shr_lt, eqb-true}
use mathlib.Core.List.Memᴰ.{cases_cons as mem_cons}
use mathlib.Core.List.Memᴰ.{head as here}
use mathlib.Core.List.Memᴰ.{not-nil as mem_nil}
use mathlib.Core.List.Memᴰ.{tail as there}
use mathlib.Core.List.{Memᴰ}
use Rattle.std.specs.Int.Count.{ones, ones_step}
use Rattle.std.proofs.lemmas.Bool.{eqb-false}
use Rattle.quorum.specs.Sets.{has_replica, count_of, keep_if, members_from, members_of}
use Rattle.quorum.specs.laws.Bits.{bit_is, has_one, has_zero}
use Rattle.quorum.proofs.theorems.SetLaws.{has_below}
use Rattle.quorum.specs.Shared.{Rising}
use Rattle.quorum.specs.laws.Members.{Member, up_from}

-- ---- length

length_from : (n k s : ℕ) → s < 2 ^ (n + k) → length (members_from n k s) ≡ ones (s / 2 ^ k)
unfolding members_from ones
length_from zero k s h =
    let e : s / 2 ^ k ≡ 0 = omega (arith, shr_lt {n = s} 0 k h) in
    sym (ap ones e)
length_from (suc n) k s h =
    let e : suc n + k ≡ n + (k + 1) = omega arith in
    let ih : length (members_from n (k + 1) s) ≡ ones (s / 2 ^ (k + 1)) = length_from n (k + 1) s (rw e at h) in
    go (has_replica s k) refl (ih ∙ ap ones (sym (shr-shr s k 1)))
  where
    go : (t : Bool) → has_replica s k ≡ t → length (members_from n (k + 1) s) ≡ ones (s / 2 ^ k / 2)
        → length (keep_if t k (members_from n (k + 1) s)) ≡ ones (s / 2 ^ k)
    go true q ih = omega (arith, ones_step (s / 2 ^ k), bit_is s k, has_one s k q)
    go false q ih = omega (arith, ones_step (s / 2 ^ k), bit_is s k, has_zero s k q)

-- there are as many as are counted
pub members_count : (n s : ℕ) → s < 2 ^ n → length (members_of n s) ≡ count_of s
members_count n s h =
    let e : n + 0 ≡ n = omega arith in
    let z : s / 2 ^ 0 ≡ s = omega arith in
    length_from n 0 s (rw e h) ∙ ap ones z

-- ---- membership

member_from : (n k s j : ℕ) → Memᴰ j (members_from n k s) → Member n k s j
unfolding members_from
member_from zero k s j m = absurd (mem_nil m)
member_from (suc n) k s j m = go (has_replica s k) refl m (member_from n (k + 1) s j)
  where
    more : Member n (k + 1) s j → Member (suc n) k s j
    more r = record { from = omega (arith, r.from); below = omega (arith, r.below); has = r.has }

    go : (t : Bool) → has_replica s k ≡ t → Memᴰ j (keep_if t k (members_from n (k + 1) s))
        → (Memᴰ j (members_from n (k + 1) s) → Member n (k + 1) s j) → Member (suc n) k s j
    go true q m ih =
        ⊎_elim
        (λ (e : j ≡ k). record { from = omega arith; below = omega arith; has = ap (has_replica s) e ∙ q })
        (λ w. more (ih w))
        (mem_cons m)
    go false q m ih = more (ih m)

from_member : (n k s j : ℕ) → k ≤ j → j < n + k → has_replica s j ≡ true → Memᴰ j (members_from n k s)
unfolding members_from
from_member zero k s j l u e = absurd (omega arith)
from_member (suc n) k s j l u e = go (eqb j k) refl (has_replica s k) refl (λ w. from_member n (k + 1) s j w (omega arith) e)
  where
    go : (t : Bool) → eqb j k ≡ t → (m : Bool) → has_replica s k ≡ m → (k + 1 ≤ j → Memᴰ j (members_from n (k + 1) s))
        → Memᴰ j (keep_if m k (members_from n (k + 1) s))
    go true p true q ih = here (eqb-true j k p)
    go true p false q ih = absurd (let x : j ≡ k = eqb-true j k p in let z : has_replica s k ≡ true = ap (has_replica s) (sym x) ∙ e in let w : ◌≡◌ {A = ℕ} 0 1 = cc in omega arith)
    go false p true q ih = there (ih (omega (arith, eqb-false j k p)))
    go false p false q ih = ih (omega (arith, eqb-false j k p))

-- in the list is exactly what the set has
pub members_has : (n s k : ℕ) → Memᴰ k (members_of n s) → has_replica s k ≡ true
members_has n s k m = (member_from n 0 s k m).has

pub has_members : (n s k : ℕ) → s < 2 ^ n → has_replica s k ≡ true → Memᴰ k (members_of n s)
has_members n s k h e = from_member n 0 s k (omega arith) (omega (arith, has_below n s k h e)) e

-- ---- order

rising_from : (n k s : ℕ) → Rising (members_from n k s)
unfolding members_from
rising_from zero k s = tt
rising_from (suc n) k s = go (has_replica s k) (rising_from n (k + 1) s)
  where
    go : (t : Bool) → Rising (members_from n (k + 1) s) → Rising (keep_if t k (members_from n (k + 1) s))
    go true ih = (λ j m. omega (arith, (member_from n (k + 1) s j m).from), ih)
    go false ih = ih

pub members_rising : (n s : ℕ) → Rising (members_of n s)
members_rising n s = rising_from n 0 s

-- ---- every replica

every_from : (n k s : ℕ) → ((j : ℕ) → k ≤ j → j < n + k → has_replica s j ≡ true) → members_from n k s ≡ up_from n k
unfolding members_from up_from
every_from zero k s h = refl
every_from (suc n) k s h = rw (h k (omega arith) (omega arith), every_from n (k + 1) s (λ j l u. h j (omega arith) (omega arith)))
