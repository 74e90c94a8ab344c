-- What a test of each number below n tells.
use Rattle.std.specs.Prelude.{ℕ, zero, suc, ◌+◌, ◌<◌, ◌≡◌, refl, Bool, true, false, ◌&&◌, eqb}
use Rattle.std.proofs.Common.{ap, sym, ◌∙◌, arith, eqb-true}
use Rattle.std.proofs.lemmas.Bool.{eqb-false}
use Rattle.method.specs.laws.Tests.{and_left, and_right, and_true}
use Rattle.rack.specs.Sound.{all_below}

-- each number below n passes
pub all_at : (n : ℕ) (f : ℕ → Bool) → all_below n f ≡ true → (i : ℕ) → i < n → f i ≡ true
unfolding all_below
all_at zero f e i h = absurd (omega arith)
all_at (suc n) f e i h = go (eqb i n) refl (all_at n f (and_left (all_below n f) (f n) e) i)
  where
    go : (t : Bool) → eqb i n ≡ t → (i < n → f i ≡ true) → f i ≡ true
    go true q ih = rw (eqb-true i n q) (and_right (all_below n f) (f n) e)
    go false q ih = let m : i ≡ n → ⊥ = eqb-false i n q in ih (omega (arith, m))

pub all_of : (n : ℕ) (f : ℕ → Bool) → ((i : ℕ) → i < n → f i ≡ true) → all_below n f ≡ true
unfolding all_below
all_of zero f h = refl
all_of (suc n) f h = and_true (all_below n f) (f n) (all_of n f (λ i l. h i (omega arith))) (h n (omega arith))

-- one that fails
and_false : (a b : Bool) → b ≡ false → (a && b) ≡ false
and_false true b p = p
and_false false b p = refl

pub all_fail : (n i : ℕ) (f : ℕ → Bool) → i < n → f i ≡ false → all_below n f ≡ false
unfolding all_below
all_fail zero i f h e = absurd (omega arith)
all_fail (suc n) i f h e = go (eqb i n) refl (λ l. all_fail n i f l e)
  where
    go : (t : Bool) → eqb i n ≡ t → (i < n → all_below n f ≡ false) → (all_below n f && f n) ≡ false
    go true q ih = and_false (all_below n f) (f n) (ap f (sym (eqb-true i n q)) ∙ e)
    go false q ih = let m : i ≡ n → ⊥ = eqb-false i n q in rw (ih (omega (arith, m)))

pub all_none : (f : ℕ → Bool) → all_below 0 f ≡ true
unfolding all_below
all_none f = refl

pub all_next : (i : ℕ) (f : ℕ → Bool) → all_below i f ≡ true → f i ≡ true → all_below (i + 1) f ≡ true
unfolding all_below
all_next i f p q = let e : i + 1 ≡ suc i = omega arith in rw e (and_true (all_below i f) (f i) p q)
