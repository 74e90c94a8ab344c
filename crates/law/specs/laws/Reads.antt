-- The reads of one cell at a time: a list's reads are right exactly when those of each cell are.
use Rattle.std.specs.Prelude.{◌≡◌, refl, ◌≢◌, Bool, true, false, cond, ◌&&◌, List, [], ◌∷◌, ◌++◌, ℕ, eqb, ℤ}
use Rattle.std.proofs.Common.{sym, ap, ◌∙◌, eqb-true, ne_eqb}
use mathlib.Core.List.Memᴰ.{head as here}
use mathlib.Core.List.Memᴰ.{tail as there}
use Rattle.std.proofs.lemmas.Bool.{eqb-false}
use Rattle.law.specs.Operation.{Op}
use Rattle.law.specs.Order.{In, after, Reads}
use Rattle.law.specs.Part.{keep_if, of_cell}

-- what cell c holds after x, if it held v
abbrev pub now : ℕ → ℤ → Op → ℤ
now c v x = cond (x.write && eqb x.cell c) x.value v

-- each read of cell c gives what the cell holds, which is v at first
abbrev pub ReadsAt : ℕ → ℤ → List Op → Type 0
ReadsAt c v [] = Unit {0}
ReadsAt c v (x ∷ xs) = (x.write ≡ false → x.cell ≡ c → x.value ≡ v) × ReadsAt c (now c v x) xs

pub reads_at : (m : ℕ → ℤ) (l : List Op) → Reads m l → (c : ℕ) → ReadsAt c (m c) l
reads_at m [] h c = tt
reads_at m (x ∷ xs) h c = (λ w e. h.0 w ∙ ap m e, reads_at (after m x) xs h.1 c)

pub at_reads : (m : ℕ → ℤ) (l : List Op) → ((c : ℕ) → ReadsAt c (m c) l) → Reads m l
at_reads m [] h = tt
at_reads m (x ∷ xs) h = (λ w. (h x.cell).0 w refl, at_reads (after m x) xs (λ c. (h c).1))

and_false : (b : Bool) → (b && false) ≡ false
and_false true = refl
and_false false = refl

-- an operation of another cell changes nothing
pub now_other : (c : ℕ) (v : ℤ) (x : Op) → eqb x.cell c ≡ false → now c v x ≡ v
now_other c v x q = rw (q, and_false)

-- the operations of other cells may be left out
pub of_cell_reads : (c : ℕ) (v : ℤ) (l : List Op) → ReadsAt c v l → ReadsAt c v (of_cell c l)
unfolding of_cell
of_cell_reads c v [] h = tt
of_cell_reads c v (x ∷ xs) h = go (eqb x.cell c) refl (of_cell_reads c (now c v x) xs h.1)
  where
    go : (t : Bool) → eqb x.cell c ≡ t → ReadsAt c (now c v x) (of_cell c xs) → ReadsAt c v (keep_if t x (of_cell c xs))
    go true q r = (h.0, r)
    go false q r = rw (now_other c v x q) at r

-- operations of other cells only
pub none_reads : (c : ℕ) (v : ℤ) (l : List Op) → ((y : Op) → In y l → y.cell ≢ c) → ReadsAt c v l
none_reads c v [] h = tt
none_reads c v (x ∷ xs) h = (λ w e. absurd (h x (here refl) e), none_reads c (now c v x) xs (λ y m. h y (there m)))

-- a list with no operation of c, after or before, changes nothing for c
pub reads_left : (c : ℕ) (v : ℤ) (a b : List Op) → ReadsAt c v a → ((y : Op) → In y b → y.cell ≢ c) → ReadsAt c v (a ++ b)
reads_left c v [] b h far = none_reads c v b far
reads_left c v (x ∷ xs) b h far = (h.0, reads_left c (now c v x) xs b h.1 far)

pub reads_right : (c : ℕ) (v : ℤ) (a b : List Op) → ((y : Op) → In y a → y.cell ≢ c) → ReadsAt c v b → ReadsAt c v (a ++ b)
reads_right c v [] b far h = h
reads_right c v (x ∷ xs) b far h =
    (λ w e. absurd (far x (here refl) e), rw (now_other c v x (ne_eqb _ _ (far x (here refl)))) (reads_right c v xs b (λ y m. far y (there m)) h))

-- two operations of different cells change places
pub swap_reads : (c : ℕ) (v : ℤ) (x y : Op) (l : List Op) → x.cell ≢ y.cell → ReadsAt c v (x ∷ y ∷ l) → ReadsAt c v (y ∷ x ∷ l)
swap_reads c v x y l d h = go (eqb x.cell c) refl (eqb y.cell c) refl
  where
    go : (s : Bool) → eqb x.cell c ≡ s → (t : Bool) → eqb y.cell c ≡ t → ReadsAt c v (y ∷ x ∷ l)
    go true p true q = absurd (d (eqb-true x.cell c p ∙ sym (eqb-true y.cell c q)))
    go false p t q =
        let k = rw (now_other c v x p) at h.1 in
        (k.0, (λ w e. absurd (eqb-false x.cell c p e), rw (now_other c (now c v y) x p) k.1))
    go true p false q = (λ w e. absurd (eqb-false y.cell c q e), rw (now_other c v y q) (h.0, rw (now_other c (now c v x) y q) at h.1.1))
