-- Decided by computing: statements, elements of lists, and operations.
use Rattle.std.specs.Prelude.{◌≡◌, refl, Bool, true, false, List, [], ◌∷◌, T, ℤ, pos, negsuc}
use Rattle.std.proofs.Common.{sym, ap, ⊎_elim}
use mathlib.Core.HLevel.{Discrete}
use Rattle.std.proofs.Math.Bool.{Bool-discrete}
use mathlib.Core.List.Memᴰ.{cases_cons as mem_cons}
use mathlib.Core.List.Memᴰ.{head as here}
use mathlib.Core.List.Memᴰ.{not-nil as no_mem}
use mathlib.Core.List.Memᴰ.{tail as there}
use Rattle.std.proofs.Math.Decide.{ℕ_discrete, dec_lt}
use Rattle.std.proofs.Math.IntN.{pos-ne-negsuc}
use Rattle.law.specs.Operation.{Op}
use Rattle.law.specs.Order.{In, Before}

-- ---- of any statements

-- a statement is decided by one that holds exactly when it does
unfoldable pub dec_as : {A B : Type 0} → (A → B) → (B → A) → Dec A → Dec B
dec_as f g (yes a) = yes (f a)
dec_as f g (no h) = no (λ b. h (g b))

-- whether two statements both hold
unfoldable pub dec_both : {A B : Type 0} → Dec A → Dec B → Dec (A × B)
dec_both (yes a) (yes b) = yes (a, b)
dec_both (yes a) (no b) = no (λ p. b p.1)
dec_both (no a) d = no (λ p. a p.0)

-- whether a statement does not hold
unfoldable pub dec_not : {A : Type 0} → Dec A → Dec (¬ A)
dec_not (yes a) = no (λ f. f a)
dec_not (no a) = yes a

-- whether one statement follows from another
unfoldable pub dec_to : {A B : Type 0} → Dec A → Dec B → Dec (A → B)
dec_to (yes a) (yes b) = yes (λ x. b)
dec_to (yes a) (no b) = no (λ f. b (f a))
dec_to (no a) d = yes (λ x. absurd (a x))

-- whether a test says yes
unfoldable pub dec_T : (b : Bool) → Dec (T b)
dec_T true = yes tt
dec_T false = no (λ t. t)

-- of every element
unfoldable pub dec_all : {A : Type 0} (P : A → Type 0) → ((a : A) → Dec (P a)) → (l : List A) → Dec ((a : A) → In a l → P a)
dec_all P d [] = yes (λ a m. absurd (no_mem m))
dec_all {A} P d (x ∷ xs) = go (d x) (dec_all P d xs)
  where
    go : Dec (P x) → Dec ((a : A) → In a xs → P a) → Dec ((a : A) → In a (x ∷ xs) → P a)
    go (yes p) (yes q) = yes (λ a m. ⊎_elim (λ e. rw e p) (λ n. q a n) (mem_cons m))
    go (yes p) (no q) = no (λ f. q (λ a m. f a (there m)))
    go (no p) r = no (λ f. p (f x (here refl)))

-- of some element
unfoldable pub dec_some : {A : Type 0} (P : A → Type 0) (l : List A) → ((a : A) → In a l → Dec (P a)) → Dec ((a : A) × (In a l × P a))
dec_some P [] d = no (λ w. no_mem w.1.0)
dec_some {A} P (x ∷ xs) d = go (d x (here refl)) (dec_some P xs (λ a m. d a (there m)))
  where
    go : Dec (P x) → Dec ((a : A) × (In a xs × P a)) → Dec ((a : A) × (In a (x ∷ xs) × P a))
    go (yes p) r = yes (x, (here refl, p))
    go (no p) (yes w) = yes (w.0, (there w.1.0, w.1.1))
    go (no p) (no q) = no (λ w. ⊎_elim (λ e. p (rw e at w.1.1)) (λ n. q (w.0, (n, w.1.1))) (mem_cons w.1.0))

-- the answer, read off: it is yes
abbrev pub Yes : {A : Type 0} → Dec A → Type 0
Yes (yes a) = Unit {0}
Yes (no h) = ⊥

-- the answer, read off: it is no
abbrev pub No : {A : Type 0} → Dec A → Type 0
No (yes a) = ⊥
No (no h) = Unit {0}

pub by_yes : {A : Type 0} (d : Dec A) → Yes d → A
by_yes (yes a) t = a
by_yes (no h) t = absurd t

pub by_no : {A : Type 0} (d : Dec A) → No d → ¬ A
by_no (yes a) t = absurd t
by_no (no h) t = h

-- ---- of operations

-- whether two values are the same
unfoldable pub dec_value : Discrete ℤ
unfolding dec_as
dec_value (pos m) (pos n) = dec_as (λ e. ap pos e) (λ p. cc) (ℕ_discrete m n)
dec_value (pos m) (negsuc n) = no (pos-ne-negsuc m n)
dec_value (negsuc m) (pos n) = no (λ p. pos-ne-negsuc n m (sym p))
dec_value (negsuc m) (negsuc n) = dec_as (λ e. ap negsuc e) (λ p. cc) (ℕ_discrete m n)

-- two operations agree in every field
abbrev pub Fields : Op → Op → Type 0
Fields a b =
    (a.number ≡ b.number) × ((a.client ≡ b.client) × ((a.cell ≡ b.cell) × ((a.write ≡ b.write) × ((a.value ≡ b.value)
    × ((a.start ≡ b.start) × ((a.over ≡ b.over) × (a.stop ≡ b.stop)))))))

pub same_op : (a b : Op) → Fields a b → a ≡ b
same_op a b p =
    λ i. record {
      number = p.0 i;
      client = p.1.0 i;
      cell = p.1.1.0 i;
      write = p.1.1.1.0 i;
      value = p.1.1.1.1.0 i;
      start = p.1.1.1.1.1.0 i;
      over = p.1.1.1.1.1.1.0 i;
      stop = p.1.1.1.1.1.1.1 i;
    }

pub op_same : (a b : Op) → a ≡ b → Fields a b
op_same a b e =
    (λ i. (e i).number, (λ i. (e i).client, (λ i. (e i).cell, (λ i. (e i).write, (λ i. (e i).value, (λ i. (e i).start, (λ i. (e i).over, λ i. (e i).stop)))))))

-- whether two operations are the same
unfoldable pub dec_op : Discrete Op
unfolding dec_as dec_both ℕ_discrete dec_value
dec_op a b =
    dec_as (same_op a b) (op_same a b)
    (dec_both (ℕ_discrete a.number b.number) (dec_both (ℕ_discrete a.client b.client) (dec_both (ℕ_discrete a.cell b.cell)
    (dec_both (Bool-discrete a.write b.write) (dec_both (dec_value a.value b.value) (dec_both (ℕ_discrete a.start b.start)
    (dec_both (Bool-discrete a.over b.over) (ℕ_discrete a.stop b.stop))))))))

-- whether one operation is before another
unfoldable pub dec_before : (a b : Op) → Dec (Before a b)
dec_before a b = dec_both (dec_T a.over) (dec_lt a.stop b.start)
