-- A lawful order of operations, whatever their times are, and lawful. The paper: "What lawful means". Nothing here knows of refusal 29:
-- values may be written twice, and zero too.
use Rattle.std.specs.Prelude.{ℕ, ◌<◌, ◌≡◌, ◌≢◌, false, cond, ◌&&◌, T, eqb, ℤ, pos}
use mathlib.Core.List.{List, [], ◌∷◌, map, Memᴰ}
use Rattle.law.specs.Operation.{Op}

-- x stands in the list, as data: where it stands
abbrev pub In : {A : Type 0} → A → List A → Type 0
In x l = Memᴰ x l

-- each element stands in R to every later one
abbrev pub Pairs : {A : Type 0} → (A → A → Type 0) → List A → Type 0
Pairs R [] = Unit {0}
Pairs {A} R (x ∷ xs) = ((y : A) → In y xs → R x y) × Pairs R xs

-- one operation is before another when its end stands before the other's start
abbrev pub Before : Op → Op → Type 0
Before a b = T a.over × (a.stop < b.start)

-- what each cell holds after x, where it held m
abbrev pub after : (ℕ → ℤ) → Op → ℕ → ℤ
after m x c = cond (x.write && eqb x.cell c) x.value (m c)

-- each read of the list gives what its cell holds, where the cells hold m at first
abbrev pub Reads : (ℕ → ℤ) → List Op → Type 0
Reads m [] = Unit {0}
Reads m (x ∷ xs) = (x.write ≡ false → x.value ≡ m x.cell) × Reads (after m x) xs

-- l is a lawful order of the operations s
pub record Ordered (s l : List Op) : Type 0 where
  -- only operations of s
  pub of : {x : Op} → In x l → In x s
  -- every finished operation
  pub all : {x : Op} → In x s → T x.over → In x l
  -- no unfinished reads
  pub ended : {x : Op} → In x l → x.write ≡ false → T x.over
  -- each once
  pub once : Pairs (λ x y. x.number ≢ y.number) l
  -- nothing stands before what ended before it began
  pub respects : Pairs (λ x y. ¬ Before y x) l
  -- every read gives the last value written to its cell, or zero
  pub reads : Reads (λ c. pos 0) l

-- an order is a list of start-entry numbers: those of operations that stand in a lawful order
abbrev pub LawfulOrder : List Op → List ℕ → Type 0
LawfulOrder s order = (l : List Op) × (map (λ (x : Op). x.number) l ≡ order) × Ordered s l

-- lawful: such an order exists
abbrev pub Lawful : List Op → Type 0
Lawful s = (order : List ℕ) × LawfulOrder s order
