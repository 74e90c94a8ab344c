-- Decided by trying every order: whether operations are lawful. For a few operations; it needs no distinct values.
use Rattle.std.specs.Prelude.{◌≡◌, refl, ◌≢◌, ◌⊎◌, Bool, true, false, List, [], ◌∷◌, ℕ, zero, suc, ◌≤◌, ◌<◌, T, eqb, ℤ, pos, length}
use Rattle.std.proofs.Common.{sym, ap, ◌∙◌, inl, inr, ⊎_elim, arith, eqb-true}
use Rattle.std.proofs.Math.Bool.{Bool-discrete}
use mathlib.Core.List.Memᴰ.{cases_cons as mem_cons}
use mathlib.Core.List.Memᴰ.{cast as mem_cast}
use mathlib.Core.List.Memᴰ.{head as here}
use mathlib.Core.List.Memᴰ.{not-nil as no_mem}
use mathlib.Core.List.Memᴰ.{tail as there}
use Rattle.std.proofs.Math.Decide.{ℕ_discrete, dec_lt}
use Rattle.std.proofs.lemmas.Bool.{eqb-false}
use Rattle.law.specs.Operation.{Op}
use Rattle.law.specs.Order.{In, Pairs, Before, after, Reads, Lawful}
use Rattle.law.proofs.theorems.Locality.{lawful_by, order_of, orderly}
use Rattle.law.specs.laws.Decide.{dec_as, dec_both, dec_not, dec_to, dec_T, dec_all, dec_some, dec_value, dec_op, dec_before}

-- l is a lawful order of what is left, s, where the cells hold m
pub record From (m : ℕ → ℤ) (s l : List Op) : Type 0 where
  pub of : {x : Op} → In x l → In x s
  pub all : {x : Op} → In x s → T x.over → In x l
  pub ended : {x : Op} → In x l → x.write ≡ false → T x.over
  pub once : Pairs (λ x y. x.number ≢ y.number) l
  pub respects : Pairs (λ x y. ¬ Before y x) l
  pub reads : Reads m l

-- ---- what is left after x

-- x is left out if the test says so, else it stands before the rest
abbrev pub drop_if : Bool → Op → List Op → List Op
drop_if true x l = l
drop_if false x l = x ∷ l

-- all but those of x's number
unfoldable pub without : ℕ → List Op → List Op
without n [] = []
without n (x ∷ xs) = drop_if (eqb x.number n) x (without n xs)

without_of : (n : ℕ) (l : List Op) {y : Op} → In y (without n l) → In y l × (y.number ≢ n)
unfolding without
without_of n [] m = absurd (no_mem m)
without_of n (x ∷ xs) {y} m = go (eqb x.number n) refl m (λ r. without_of n xs r)
  where
    go : (t : Bool) → eqb x.number n ≡ t → In y (drop_if t x (without n xs)) → (In y (without n xs) → In y xs × (y.number ≢ n)) → In y (x ∷ xs) × (y.number ≢ n)
    go true q r f = (there (f r).0, (f r).1)
    go false q (here e) f = (here e, λ z. eqb-false x.number n q (sym (ap (λ (o : Op). o.number) e) ∙ z))
    go false q (there r) f = (there (f r).0, (f r).1)

without_in : (n : ℕ) (l : List Op) {y : Op} → In y l → y.number ≢ n → In y (without n l)
unfolding without
without_in n [] m d = absurd (no_mem m)
without_in n (x ∷ xs) {y} m d = go (eqb x.number n) refl (mem_cons m) (λ r. without_in n xs r d)
  where
    go : (t : Bool) → eqb x.number n ≡ t → (y ≡ x) ⊎ In y xs → (In y xs → In y (without n xs)) → In y (drop_if t x (without n xs))
    go true q (inl e) f = absurd (d (ap (λ (o : Op). o.number) e ∙ eqb-true x.number n q))
    go true q (inr r) f = f r
    go false q (inl e) f = here e
    go false q (inr r) f = there (f r)

without_most : (n : ℕ) (l : List Op) → length (without n l) ≤ length l
unfolding without
without_most n [] = omega arith
without_most n (x ∷ xs) = go (eqb x.number n) (without_most n xs)
  where
    go : (t : Bool) → length (without n xs) ≤ length xs → length (drop_if t x (without n xs)) ≤ suc (length xs)
    go true h = omega arith
    go false h = omega arith

pub without_less : (x : Op) (l : List Op) → In x l → length (without x.number l) < length l
unfolding without
without_less x [] m = absurd (no_mem m)
without_less x (y ∷ ys) m = go (eqb y.number x.number) refl (mem_cons m) (λ r. without_less x ys r) (without_most x.number ys)
  where
    go : (t : Bool) → eqb y.number x.number ≡ t → (x ≡ y) ⊎ In x ys → (In x ys → length (without x.number ys) < length ys)
        → length (without x.number ys) ≤ length ys → length (drop_if t y (without x.number ys)) < suc (length ys)
    go true q r f h = omega arith
    go false q (inl e) f h = absurd (eqb-false y.number x.number q (ap (λ (o : Op). o.number) (sym e)))
    go false q (inr r) f h = let k = f r in omega arith

-- ---- one operation first

-- x may stand first: no unfinished read, it gives what its cell holds, nothing left is before it, and no other has its number
abbrev pub Next : (ℕ → ℤ) → List Op → Op → Type 0
Next m s x =
    (x.write ≡ false → T x.over) × ((x.write ≡ false → x.value ≡ m x.cell)
    × (((y : Op) → In y (without x.number s) → ¬ Before y x) × ((y : Op) → In y s → T y.over → y.number ≡ x.number → y ≡ x)))

-- whether x may stand first
unfoldable pub dec_next : (m : ℕ → ℤ) (s : List Op) (x : Op) → Dec (Next m s x)
unfolding without dec_both dec_to dec_all dec_not dec_before dec_T dec_value dec_op ℕ_discrete dec_lt
dec_next m s x =
    dec_both (dec_to (Bool-discrete x.write false) (dec_T x.over))
    (dec_both (dec_to (Bool-discrete x.write false) (dec_value x.value (m x.cell)))
    (dec_both (dec_all (λ y. ¬ Before y x) (λ y. dec_not (dec_before y x)) (without x.number s))
    (dec_all (λ y. T y.over → y.number ≡ x.number → y ≡ x)
    (λ y. dec_to (dec_T y.over) (dec_to (ℕ_discrete y.number x.number) (dec_op y x))) s)))

-- an order with x first
abbrev pub Starts : (ℕ → ℤ) → List Op → Op → Type 0
Starts m s x = Next m s x × ((l : List Op) × From (after m x) (without x.number s) l)

pub from_next : (m : ℕ → ℤ) (s : List Op) → (x : Op) × (In x s × Starts m s x) → (l : List Op) × From m s l
from_next m s w = (
  x ∷ l,
  record {
    of = λ {x = y} i. ⊎_elim (λ e. mem_cast e w.1.0) (λ r. (without_of x.number s (o.of r)).0) (mem_cons i);
    all = λ {x = y} i t. kept y i t (ℕ_discrete y.number x.number);
    ended = λ {x = y} i e. ⊎_elim (λ q. rw q (n.0 (rw q at e))) (λ r. o.ended r e) (mem_cons i);
    once = (λ y r e. (without_of x.number s (o.of r)).1 (sym e), o.once);
    respects = (λ y r. n.1.1.0 y (o.of r), o.respects);
    reads = (n.1.0, o.reads);
  },
)
  where
    x : Op
    x = w.0

    n : Next m s w.0
    n = w.1.1.0

    l : List Op
    l = w.1.1.1.0

    o : From (after m w.0) (without w.0.number s) w.1.1.1.0
    o = w.1.1.1.1

    kept : (y : Op) → In y s → T y.over → Dec (y.number ≡ w.0.number) → In y (w.0 ∷ w.1.1.1.0)
    kept y i t (yes e) = here (n.1.1.1 y i t e)
    kept y i t (no d) = there (o.all (without_in w.0.number s i d) t)

pub next_from : (m : ℕ → ℤ) (s : List Op) → (x : Op) (l : List Op) → From m s (x ∷ l) → (x : Op) × (In x s × Starts m s x)
next_from m s x l o = (
  x,
  (
    o.of (here refl),
    (
      (
        o.ended (here refl),
        (
          o.reads.0,
          (
            λ y i b. let k = without_of x.number s i in o.respects.0 y (later y k.1 (o.all k.0 b.0)) b,
            λ y i t e. ⊎_elim (λ q. q) (λ r. absurd (o.once.0 y r (sym e))) (mem_cons (o.all i t)),
          ),
        ),
      ),
      (
        l,
        record {
          of = λ {x = y} r. without_in x.number s (o.of (there r)) (λ e. o.once.0 y r (sym e));
          all = λ {x = y} i t. let k = without_of x.number s i in later y k.1 (o.all k.0 t);
          ended = λ r. o.ended (there r);
          once = o.once.1;
          respects = o.respects.1;
          reads = o.reads.1;
        },
      ),
    ),
  ),
)
  where
    later : (y : Op) → y.number ≢ x.number → In y (x ∷ l) → In y l
    later y d i = ⊎_elim (λ e. absurd (d (ap (λ (z : Op). z.number) e))) (λ r. r) (mem_cons i)

-- ---- every order

-- nothing left must be ordered
abbrev pub Rested : List Op → Type 0
Rested s = (x : Op) → In x s → ¬ T x.over

pub from_rested : (m : ℕ → ℤ) (s : List Op) → Rested s → From m s []
from_rested m s h =
    record {
      of = λ i. absurd (no_mem i);
      all = λ {x} i t. absurd (h x i t);
      ended = λ i. absurd (no_mem i);
      once = tt;
      respects = tt;
      reads = tt;
    }

pub not_from : (m : ℕ → ℤ) (s : List Op) → ¬ Rested s → ¬ ((x : Op) × (In x s × Starts m s x)) → ¬ ((l : List Op) × From m s l)
not_from m s h k w = go w.0 w.1
  where
    go : (l : List Op) → From m s l → ⊥
    go [] o = h (λ x i t. no_mem (o.all i t))
    go (x ∷ l) o = k (next_from m s x l o)

-- whether what is left, n operations at most, has a lawful order where the cells hold m
unfoldable pub dec_from : (n : ℕ) (m : ℕ → ℤ) (s : List Op) → length s ≤ n → Dec ((l : List Op) × From m s l)
unfolding dec_all dec_not dec_T dec_some dec_both dec_next
dec_from zero m [] b = yes ([], from_rested m [] (λ x i. absurd (no_mem i)))
dec_from zero m (x ∷ xs) b = absurd (omega arith)
dec_from (suc n) m s b =
    go (dec_all (λ x. ¬ T x.over) (λ x. dec_not (dec_T x.over)) s)
    (dec_some (Starts m s) s (λ x i. dec_both (dec_next m s x)
    (dec_from n (after m x) (without x.number s) (let k = without_less x s i in omega arith))))
  where
    go : Dec (Rested s) → Dec ((x : Op) × (In x s × Starts m s x)) → Dec ((l : List Op) × From m s l)
    go (yes h) d = yes ([], from_rested m s h)
    go (no h) (yes w) = yes (from_next m s w)
    go (no h) (no k) = no (not_from m s h k)

pub from_lawful : (s : List Op) → (l : List Op) × From (λ c. pos 0) s l → Lawful s
from_lawful s w =
    let o = w.1 in
    lawful_by w.0
    (record { of = λ i. o.of i; all = λ i t. o.all i t; ended = λ i e. o.ended i e; once = o.once; respects = o.respects; reads = o.reads })

pub lawful_from : (s : List Op) → Lawful s → (l : List Op) × From (λ c. pos 0) s l
lawful_from s h =
    let o = orderly h in
    (order_of h, record { of = λ i. o.of i; all = λ i t. o.all i t; ended = λ i e. o.ended i e; once = o.once; respects = o.respects; reads = o.reads })

-- whether s is lawful
unfoldable pub dec_lawful : (s : List Op) → Dec (Lawful s)
unfolding dec_as dec_from
dec_lawful s = dec_as (from_lawful s) (lawful_from s) (dec_from (length s) (λ c. pos 0) s (let k : length s ≤ length s = omega arith in k))
