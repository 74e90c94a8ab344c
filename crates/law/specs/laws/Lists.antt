-- Laws on lists: what stands in a list, what holds of each pair, the operations of a cell.
use Rattle.std.specs.Prelude.{◌≡◌, refl, ◌⊎◌, Bool, true, false, List, [], ◌∷◌, ◌++◌, map, ℕ, ◌<◌, eqb, leb}
use Rattle.std.proofs.Common.{sym, ap, ◌∙◌, inl, inr, ⊎_elim, arith, eqb-true}
use mathlib.Core.List.Memᴰ.{cases_cons as mem_cons}
use mathlib.Core.List.Memᴰ.{head as here}
use mathlib.Core.List.Memᴰ.{not-nil as no_mem}
use mathlib.Core.List.Memᴰ.{tail as there}
use mathlib.Core.List.Memᴰ.{append_cases as mem_append}
use mathlib.Core.List.Memᴰ.{map as mem_map}
use mathlib.Core.List.Memᴰ.{of_map as mem_of_map}
use Rattle.std.proofs.lemmas.Bool.{eqb-false}
use Rattle.law.specs.Operation.{Op}
use Rattle.law.specs.Order.{In, Pairs}
use Rattle.law.specs.Part.{keep_if, of_cell}
use Rattle.law.specs.laws.Sort.{place, insert, sort, insert_of, sort_of}

-- ---- what stands in a list

-- one element more
pub in_next : {A : Type 0} (l : List A) {x y : A} → In y (l ++ (x ∷ [])) → In y l ⊎ (y ≡ x)
in_next l m = ⊎_elim (λ r. inl r) (λ r. ⊎_elim (λ e. inr e) (λ z. absurd (no_mem z)) (mem_cons r)) (mem_append l m)

-- a change that leaves each element as it is
pub map_same : {A : Type 0} (f : A → A) (l : List A) → ((x : A) → In x l → f x ≡ x) → map f l ≡ l
map_same f [] h = refl
map_same f (x ∷ xs) h = let e = map_same f xs (λ y m. h y (there m)) in let d = h x (here refl) in cc

-- ---- pairs

-- what follows from R where both stand in the list holds of each pair too
pub pairs_imp : {A : Type 0} (R Q : A → A → Type 0) (l : List A) → ((x y : A) → In x l → In y l → R x y → Q x y) → Pairs R l → Pairs Q l
pairs_imp R Q [] f h = tt
pairs_imp R Q (x ∷ xs) f h = (λ y m. f x y (here refl) (there m) (h.0 y m), pairs_imp R Q xs (λ a b m n. f a b (there m) (there n)) h.1)

-- the pairs of two lists, one after the other
pub pairs_append : {A : Type 0} (R : A → A → Type 0) (a b : List A) → Pairs R a → Pairs R b → ((x y : A) → In x a → In y b → R x y) → Pairs R (a ++ b)
pairs_append R [] b p q h = q
pairs_append R (x ∷ xs) b p q h = (
  λ y m. ⊎_elim (λ n. p.0 y n) (λ n. h x y (here refl) n) (mem_append xs m),
  pairs_append R xs b p.1 q (λ u v m n. h u v (there m) n),
)

-- the pairs of a list's images
pub pairs_map : {A B : Type 0} (f : A → B) (R : B → B → Type 0) (l : List A) → Pairs (λ a b. R (f a) (f b)) l → Pairs R (map f l)
pairs_map f R [] h = tt
pairs_map f R (x ∷ xs) h = (λ y m. let w = mem_of_map f xs m in rw w.2 at (h.0 w.0 w.1), pairs_map f R xs h.1)

pub map_pairs : {A B : Type 0} (f : A → B) (R : B → B → Type 0) (l : List A) → Pairs R (map f l) → Pairs (λ a b. R (f a) (f b)) l
map_pairs f R [] h = tt
map_pairs f R (x ∷ xs) h = (λ y m. h.0 (f y) (mem_map f m), map_pairs f R xs h.1)

-- where a number rises along a list, it tells the elements apart
pub single : {A : Type 0} (key : A → ℕ) (l : List A) → Pairs (λ a b. key a < key b) l → (x y : A) → In x l → In y l → key x ≡ key y → x ≡ y
single key [] p x y m n e = absurd (no_mem m)
single key (z ∷ zs) p x y (here a) (here b) e = a ∙ sym b
single key (z ∷ zs) p x y (here a) (there n) e = absurd (let w = ap key a in omega (arith, p.0 y n))
single key (z ∷ zs) p x y (there m) (here b) e = absurd (let w = ap key b in omega (arith, p.0 x m))
single key (z ∷ zs) p x y (there m) (there n) e = single key zs p.1 x y m n e

-- ---- sorting keeps what holds of two elements in either order

module _ {A : Type 0} (key : A → ℕ) (R : A → A → Type 0) (turn : (a b : A) → R a b → R b a) where
  insert_either : (x : A) (l : List A) → Pairs R l → ((y : A) → In y l → R x y) → Pairs R (insert key x l)
  insert_either x [] p h = (λ y m. absurd (no_mem m), tt)
  insert_either x (z ∷ zs) p h = go (leb (key x) (key z)) (insert_either x zs p.1 (λ y m. h y (there m)))
    where
      go : (t : Bool) → Pairs R (insert key x zs) → Pairs R (place key t x z zs (insert key x zs))
      go true r = (h, p)
      go false r = (λ y m. ⊎_elim (λ e. rw e (turn x z (h z (here refl)))) (λ n. p.0 y n) (mem_cons (insert_of key x zs m)), r)

  pub sort_either : (l : List A) → Pairs R l → Pairs R (sort key l)
  sort_either [] p = tt
  sort_either (x ∷ xs) p = insert_either x (sort key xs) (sort_either xs p.1) (λ y m. p.0 y (sort_of key xs m))

-- ---- the operations of a cell

pub of_cell_in : (c : ℕ) (l : List Op) {y : Op} → In y l → y.cell ≡ c → In y (of_cell c l)
unfolding of_cell
of_cell_in c [] m e = absurd (no_mem m)
of_cell_in c (x ∷ xs) {y} m e = go (eqb x.cell c) refl (mem_cons m) (λ n. of_cell_in c xs n e)
  where
    go : (t : Bool) → eqb x.cell c ≡ t → (y ≡ x) ⊎ In y xs → (In y xs → In y (of_cell c xs)) → In y (keep_if t x (of_cell c xs))
    go true q (inl p) f = here p
    go true q (inr n) f = there (f n)
    go false q (inl p) f = absurd (eqb-false x.cell c q (ap (λ (o : Op). o.cell) (sym p) ∙ e))
    go false q (inr n) f = f n

pub of_cell_of : (c : ℕ) (l : List Op) {y : Op} → In y (of_cell c l) → In y l × (y.cell ≡ c)
unfolding of_cell
of_cell_of c [] m = absurd (no_mem m)
of_cell_of c (x ∷ xs) {y} m = go (eqb x.cell c) refl m (λ n. of_cell_of c xs n)
  where
    go : (t : Bool) → eqb x.cell c ≡ t → In y (keep_if t x (of_cell c xs)) → (In y (of_cell c xs) → In y xs × (y.cell ≡ c)) → In y (x ∷ xs) × (y.cell ≡ c)
    go true q (here p) f = (here p, ap (λ (o : Op). o.cell) p ∙ eqb-true x.cell c q)
    go true q (there n) f = (there (f n).0, (f n).1)
    go false q n f = (there (f n).0, (f n).1)

pub of_cell_pairs : (R : Op → Op → Type 0) (c : ℕ) (l : List Op) → Pairs R l → Pairs R (of_cell c l)
unfolding of_cell
of_cell_pairs R c [] h = tt
of_cell_pairs R c (x ∷ xs) h = go (eqb x.cell c) (of_cell_pairs R c xs h.1)
  where
    go : (t : Bool) → Pairs R (of_cell c xs) → Pairs R (keep_if t x (of_cell c xs))
    go true r = (λ y m. h.0 y (of_cell_of c xs m).0, r)
    go false r = r

-- one operation more
pub of_cell_append : (c : ℕ) (l : List Op) (x : Op) → of_cell c (l ++ (x ∷ [])) ≡ of_cell c l ++ keep_if (eqb x.cell c) x []
unfolding of_cell
of_cell_append c [] x = refl
of_cell_append c (y ∷ ys) x = go (eqb y.cell c) (of_cell_append c ys x)
  where
    go : (t : Bool) → of_cell c (ys ++ (x ∷ [])) ≡ of_cell c ys ++ keep_if (eqb x.cell c) x []
        → keep_if t y (of_cell c (ys ++ (x ∷ []))) ≡ keep_if t y (of_cell c ys) ++ keep_if (eqb x.cell c) x []
    go true e = ap (λ (r : List Op). y ∷ r) e
    go false e = e

-- a change that keeps the cells
pub of_cell_map : (c : ℕ) (f : Op → Op) → ((x : Op) → (f x).cell ≡ x.cell) → (l : List Op) → of_cell c (map f l) ≡ map f (of_cell c l)
unfolding of_cell
of_cell_map c f same [] = refl
of_cell_map c f same (x ∷ xs) =
    ap (λ (n : ℕ). keep_if (eqb n c) (f x) (of_cell c (map f xs))) (same x) ∙ go (eqb x.cell c) (of_cell_map c f same xs)
  where
    go : (t : Bool) → of_cell c (map f xs) ≡ map f (of_cell c xs) → keep_if t (f x) (of_cell c (map f xs)) ≡ map f (keep_if t x (of_cell c xs))
    go true e = ap (λ (r : List Op). f x ∷ r) e
    go false e = e
