-- What holds of free slots, for any number of them.
use Rattle.std.specs.Prelude.{ℕ, zero, suc, ◌+◌, ◌≤◌, ◌<◌, ◌≡◌, refl, Bool, true, false, cond, eqb, ltb}
use Rattle.std.proofs.Common.{ap, sym, ◌∙◌, arith, zero-add, eq-eqb, ne_eqb, eqb-true, ltb-true, ltb-false}
use Rattle.std.proofs.lemmas.Bool.{eqb-false}
use Rattle.slots.specs.Free.{slot_count, digit, first_from, count_from, first_free, count_free, taken_at, given_at}

-- ---- one slot changed

pub taken_here : (f : ℕ → Bool) (i : ℕ) → taken_at f i i ≡ false
unfolding taken_at
taken_here f i = rw (eq-eqb i i refl)

pub taken_else : (f : ℕ → Bool) (i k : ℕ) → (k ≡ i → ⊥) → taken_at f i k ≡ f k
unfolding taken_at
taken_else f i k n = rw (ne_eqb k i n)

pub given_here : (f : ℕ → Bool) (i : ℕ) → given_at f i i ≡ true
unfolding given_at
given_here f i = rw (eq-eqb i i refl)

pub given_else : (f : ℕ → Bool) (i k : ℕ) → (k ≡ i → ⊥) → given_at f i k ≡ f k
unfolding given_at
given_else f i k n = rw (ne_eqb k i n)

-- ---- the lowest free slot

pub first_most : (n b : ℕ) (f : ℕ → Bool) → first_from n b f ≤ b + n
unfolding first_from
first_most zero b f = omega arith
first_most (suc n) b f = go (f b) (first_most n (b + 1) f)
  where
    go : (t : Bool) → first_from n (b + 1) f ≤ b + 1 + n → cond t b (first_from n (b + 1) f) ≤ b + suc n
    go true h = omega arith
    go false h = omega arith

pub first_from_lem : (n b : ℕ) (f : ℕ → Bool) → b ≤ first_from n b f
unfolding first_from
first_from_lem zero b f = omega arith
first_from_lem (suc n) b f = go (f b) (first_from_lem n (b + 1) f)
  where
    go : (t : Bool) → b + 1 ≤ first_from n (b + 1) f → b ≤ cond t b (first_from n (b + 1) f)
    go true h = omega arith
    go false h = omega arith

-- where it is one of them it is free
pub first_free_lem : (n b : ℕ) (f : ℕ → Bool) → first_from n b f < b + n → f (first_from n b f) ≡ true
unfolding first_from
first_free_lem zero b f h = absurd (omega arith)
first_free_lem (suc n) b f h = go (f b) refl h (first_free_lem n (b + 1) f)
  where
    go : (t : Bool) → f b ≡ t → cond t b (first_from n (b + 1) f) < b + suc n → (first_from n (b + 1) f < b + 1 + n → f (first_from n (b + 1) f) ≡ true)
        → f (cond t b (first_from n (b + 1) f)) ≡ true
    go true e h ih = e
    go false e h ih = ih (omega arith)

-- none below it is
pub first_least : (n b : ℕ) (f : ℕ → Bool) (k : ℕ) → b ≤ k → k < first_from n b f → f k ≡ false
unfolding first_from
first_least zero b f k l h = absurd (omega arith)
first_least (suc n) b f k l h = go (f b) refl h (first_least n (b + 1) f k)
  where
    go : (t : Bool) → f b ≡ t → k < cond t b (first_from n (b + 1) f) → (b + 1 ≤ k → k < first_from n (b + 1) f → f k ≡ false) → f k ≡ false
    go true e h ih = absurd (omega arith)
    go false e h ih = at (eqb k b) refl
      where
        at : (t : Bool) → eqb k b ≡ t → f k ≡ false
        at true q = ap f (eqb-true k b q) ∙ e
        at false q = ih (omega (arith, eqb-false k b q)) h

-- and it is the only one of which both hold
pub first_only : (n b : ℕ) (f : ℕ → Bool) (i : ℕ) → b ≤ i → i < b + n → f i ≡ true → ((k : ℕ) → b ≤ k → k < i → f k ≡ false) → i ≡ first_from n b f
first_only n b f i l u e h = go (ltb i (first_from n b f)) refl (ltb (first_from n b f) i) refl
  where
    clash : {t : Bool} → t ≡ true → t ≡ false → ⊥
    clash p q = let z : ◌≡◌ {A = ℕ} 0 1 = cc in omega arith

    go : (s : Bool) → ltb i (first_from n b f) ≡ s → (t : Bool) → ltb (first_from n b f) i ≡ t → i ≡ first_from n b f
    go true p t q = absurd (clash e (first_least n b f i l (ltb-true i (first_from n b f) p)))
    go false p true q =
        let v : first_from n b f < i = ltb-true (first_from n b f) i q in
        absurd (clash (first_free_lem n b f (omega arith)) (h (first_from n b f) (first_from_lem n b f) v))
    go false p false q = omega (arith, ltb-false i (first_from n b f) p, ltb-false (first_from n b f) i q)

-- ---- how many are free

pub count_same : (n b : ℕ) (f g : ℕ → Bool) → ((j : ℕ) → b ≤ j → j < b + n → g j ≡ f j) → count_from n b g ≡ count_from n b f
unfolding count_from
count_same zero b f g h = refl
count_same (suc n) b f g h = rw (h b (omega arith) (omega arith), count_same n (b + 1) f g (λ j l u. h j (omega arith) (omega arith)))

pub count_most : (n b : ℕ) (f : ℕ → Bool) → count_from n b f ≤ n
unfolding count_from
count_most zero b f = omega arith
count_most (suc n) b f = go (f b) (count_most n (b + 1) f)
  where
    go : (t : Bool) → count_from n (b + 1) f ≤ n → digit t + count_from n (b + 1) f ≤ suc n
    go true h = omega arith
    go false h = omega arith

-- the slots of two stretches are counted apart
pub count_cat : (n m b : ℕ) (f : ℕ → Bool) → count_from (n + m) b f ≡ count_from n b f + count_from m (b + n) f
unfolding count_from
count_cat zero m b f = let e : 0 + m ≡ m = omega arith in let d : b + 0 ≡ b = omega arith in rw (e, d) (omega arith)
count_cat (suc n) m b f =
    let e : suc n + m ≡ suc (n + m) = omega arith in
    let d : b + suc n ≡ b + 1 + n = omega arith in
    let ih : count_from (n + m) (b + 1) f ≡ count_from n (b + 1) f + count_from m (b + 1 + n) f = count_cat n m (b + 1) f in
    rw (e, d) (omega arith)

-- one is free exactly where the lowest is one of them
pub count_first : (n b : ℕ) (f : ℕ → Bool) → first_from n b f < b + n → 0 < count_from n b f
unfolding first_from count_from
count_first zero b f h = absurd (omega arith)
count_first (suc n) b f h = go (f b) h (count_first n (b + 1) f)
  where
    go : (t : Bool) → cond t b (first_from n (b + 1) f) < b + suc n → (first_from n (b + 1) f < b + 1 + n → 0 < count_from n (b + 1) f)
        → 0 < digit t + count_from n (b + 1) f
    go true h ih = omega arith
    go false h ih = let r : 0 < count_from n (b + 1) f = ih (omega arith) in omega arith

pub first_count : (n b : ℕ) (f : ℕ → Bool) → 0 < count_from n b f → first_from n b f < b + n
unfolding first_from count_from
first_count zero b f h = absurd (omega arith)
first_count (suc n) b f h = go (f b) h (first_count n (b + 1) f)
  where
    go : (t : Bool) → 0 < digit t + count_from n (b + 1) f → (0 < count_from n (b + 1) f → first_from n (b + 1) f < b + 1 + n)
        → cond t b (first_from n (b + 1) f) < b + suc n
    go true h ih = omega arith
    go false h ih = let r : first_from n (b + 1) f < b + 1 + n = ih (omega arith) in omega arith

-- f and g differ at i only, which is free in f and not in g
pub record Filled (f g : ℕ → Bool) (i : ℕ) : Type 0 where
  pub was : f i ≡ true
  pub is : g i ≡ false
  pub else : (j : ℕ) → (j ≡ i → ⊥) → g j ≡ f j

pub count_filled : (n b k : ℕ) (f g : ℕ → Bool) → k < n → Filled f g (b + k) → count_from n b g + 1 ≡ count_from n b f
unfolding count_from
count_filled zero b k f g h d = absurd (omega arith)
count_filled (suc n) b zero f g h d =
    let z : b + 0 ≡ b = omega arith in
    let s : count_from n (b + 1) g ≡ count_from n (b + 1) f = count_same n (b + 1) f g (λ j l u. d.else j (λ e. omega arith)) in
    let p : f b ≡ true = ap f (sym z) ∙ d.was in
    let q : g b ≡ false = ap g (sym z) ∙ d.is in
    rw (p, q) (omega arith)
count_filled (suc n) b (suc k) f g h d =
    let z : b + 1 + k ≡ b + suc k = omega arith in
    let d2 : Filled f g (b + 1 + k) = rw z d in
    let s : count_from n (b + 1) g + 1 ≡ count_from n (b + 1) f = count_filled n (b + 1) k f g (omega arith) d2 in
    let p : g b ≡ f b = d.else b (λ e. omega arith) in
    rw p (omega arith)

pub taken_fills : (f : ℕ → Bool) (i : ℕ) → f i ≡ true → Filled f (taken_at f i) i
taken_fills f i h = record { was = h; is = taken_here f i; else = taken_else f i }

pub given_frees : (f : ℕ → Bool) (i : ℕ) → f i ≡ false → Filled (given_at f i) f i
given_frees f i h = record { was = given_here f i; is = h; else = λ j n. sym (given_else f i j n) }

-- ---- the wire's slots

pub lowest_free : (f : ℕ → Bool) → first_free f < slot_count → f (first_free f) ≡ true
lowest_free f h = first_free_lem slot_count 0 f h

pub lowest_least : (f : ℕ → Bool) (k : ℕ) → k < first_free f → f k ≡ false
lowest_least f k h = first_least slot_count 0 f k (omega arith) h

pub some_free : (f : ℕ → Bool) → 0 < count_free f → first_free f < slot_count
some_free f h = first_count slot_count 0 f h

-- one less is free after one was taken, one more after one is given back, and the others don't count
pub count_taken : (f : ℕ → Bool) (i : ℕ) → i < slot_count → f i ≡ true → count_free (taken_at f i) + 1 ≡ count_free f
count_taken f i h e = let d : Filled f (taken_at f i) (0 + i) = rw (zero-add i) (taken_fills f i e) in count_filled slot_count 0 i f (taken_at f i) h d

pub count_given : (f : ℕ → Bool) (i : ℕ) → i < slot_count → f i ≡ false → count_free (given_at f i) ≡ count_free f + 1
count_given f i h e = let d : Filled (given_at f i) f (0 + i) = rw (zero-add i) (given_frees f i e) in sym (count_filled slot_count 0 i (given_at f i) f h d)
