-- A stable sort of any list by a number that each element has.
use Rattle.std.specs.Prelude.{◌≡◌, refl, ◌⊎◌, Bool, true, false, List, [], ◌∷◌, ℕ, ◌≤◌, ◌<◌, leb}
use Rattle.std.proofs.Common.{ap, inl, inr, ⊎_elim, arith, leb-true, leb-false}
use mathlib.Core.List.Memᴰ.{cases_cons as mem_cons}
use mathlib.Core.List.Memᴰ.{head as here}
use mathlib.Core.List.Memᴰ.{not-nil as no_mem}
use mathlib.Core.List.Memᴰ.{tail as there}
use Rattle.std.proofs.Math.Decide.{dec_lt}
use Rattle.law.specs.Order.{In, Pairs}

module _ {A : Type 0} (key : A → ℕ) where
  -- x before y, or y before the rest r
  abbrev pub place : Bool → A → A → List A → List A → List A
  place true x y ys r = x ∷ y ∷ ys
  place false x y ys r = y ∷ r

  -- x in front of the first element whose key is not below its own
  abbrev pub insert : A → List A → List A
  insert x [] = x ∷ []
  insert x (y ∷ ys) = place (leb (key x) (key y)) x y ys (insert x ys)

  -- by rising keys; elements of one key stay in their order
  abbrev pub sort : List A → List A
  sort [] = []
  sort (x ∷ xs) = insert x (sort xs)

  -- nothing is lost and nothing comes in
  pub insert_of : (x : A) (l : List A) {y : A} → In y (insert x l) → In y (x ∷ l)
  insert_of x [] m = m
  insert_of x (z ∷ zs) {y} m = go (leb (key x) (key z)) m (λ n. insert_of x zs n)
    where
      go : (t : Bool) → In y (place t x z zs (insert x zs)) → (In y (insert x zs) → In y (x ∷ zs)) → In y (x ∷ z ∷ zs)
      go true n f = n
      go false (here e) f = there (here e)
      go false (there n) f = ⊎_elim (λ e. here e) (λ k. there (there k)) (mem_cons (f n))

  pub insert_in : (x : A) (l : List A) {y : A} → In y (x ∷ l) → In y (insert x l)
  insert_in x [] m = m
  insert_in x (z ∷ zs) {y} m = go (leb (key x) (key z)) m (λ n. insert_in x zs n)
    where
      go : (t : Bool) → In y (x ∷ z ∷ zs) → (In y (x ∷ zs) → In y (insert x zs)) → In y (place t x z zs (insert x zs))
      go true n f = n
      go false (here e) f = there (f (here e))
      go false (there (here e)) f = here e
      go false (there (there n)) f = there (f (there n))

  pub sort_of : (l : List A) {y : A} → In y (sort l) → In y l
  sort_of [] m = m
  sort_of (x ∷ xs) m = ⊎_elim (λ e. here e) (λ n. there (sort_of xs n)) (mem_cons (insert_of x (sort xs) m))

  pub sort_in : (l : List A) {y : A} → In y l → In y (sort l)
  sort_in [] m = m
  sort_in (x ∷ xs) (here e) = insert_in x (sort xs) (here e)
  sort_in (x ∷ xs) (there n) = insert_in x (sort xs) (there (sort_in xs n))

  -- x stands before y: a smaller key, or the same and R
  abbrev pub First : (A → A → Type 0) → A → A → Type 0
  First R x y = (key x < key y) ⊎ ((key x ≡ key y) × R x y)

  -- what held of the pairs of the list holds of those with the same key
  pub insert_pairs : (R : A → A → Type 0) (x : A) (l : List A) → Pairs (First R) l → ((y : A) → In y l → R x y) → Pairs (First R) (insert x l)
  insert_pairs R x [] p h = (λ y m. absurd (no_mem m), tt)
  insert_pairs R x (z ∷ zs) p h = go (leb (key x) (key z)) refl (insert_pairs R x zs p.1 (λ y m. h y (there m)))
    where
      near : (y : A) → R x y → key x ≤ key y → First R x y
      near y r l = elim (dec_lt (key x) (key y)) [ yes q ↦ inl q | no q ↦ inr (omega (arith, q), r) ]

      first : (y : A) → In y (z ∷ zs) → key x ≤ key z → First R x y
      first y (here e) l = near y (h y (here e)) (let w = ap key e in omega arith)
      first y (there m) l = near y (h y (there m)) (⊎_elim (λ q. omega arith) (λ q. omega (arith, q.0)) (p.0 y m))

      go : (t : Bool) → leb (key x) (key z) ≡ t → Pairs (First R) (insert x zs) → Pairs (First R) (place t x z zs (insert x zs))
      go true e r = (λ y m. first y m (leb-true (key x) (key z) e), p)
      go false e r = (λ y m. ⊎_elim (λ q. inl (let w = ap key q in omega (arith, leb-false (key x) (key z) e))) (λ n. p.0 y n) (mem_cons (insert_of x zs m)), r)

  pub sort_pairs : (R : A → A → Type 0) (l : List A) → Pairs R l → Pairs (First R) (sort l)
  sort_pairs R [] p = tt
  sort_pairs R (x ∷ xs) p = insert_pairs R x (sort xs) (sort_pairs R xs p.1) (λ y m. p.0 y (sort_of xs m))
