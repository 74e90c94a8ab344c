-- A cell's part of a record: the entries of its operations, in record order. The paper: "What lawful means".
use Rattle.std.specs.Prelude.{ℕ, List, [], ◌∷◌, Bool, true, false, cond, eqb}
use Rattle.record.specs.declared.Entry.{Entry}
use Rattle.record.specs.declared.Entry.TheVariants.{ReadAsked, WriteAsked, Told, Done}
use Rattle.law.specs.Operation.{Op}

-- the cells that the clients are at after one asked
abbrev pub moved : (ℕ → ℕ) → ℕ → ℕ → ℕ → ℕ
moved at client cell k = cond (eqb k client) cell (at k)

-- an element before the others, if the test says so
abbrev pub keep_if : {A : Type 0} → Bool → A → List A → List A
keep_if true x xs = x ∷ xs
keep_if false x xs = xs

-- the entries of es that are of operations of cell c, where `at` gives the cell of each client's last operation so far
unfoldable pub part_from : ℕ → (ℕ → ℕ) → List Entry → List Entry
part_from c at [] = []
part_from c at (ReadAsked client cell ∷ es) =
    keep_if (eqb cell.0 c) (ReadAsked client cell) (part_from c (moved at client.0 cell.0) es)
part_from c at (WriteAsked client cell value ∷ es) =
    keep_if (eqb cell.0 c) (WriteAsked client cell value) (part_from c (moved at client.0 cell.0) es)
part_from c at (Told client value ∷ es) = keep_if (eqb (at client.0) c) (Told client value) (part_from c at es)
part_from c at (Done client ∷ es) = keep_if (eqb (at client.0) c) (Done client) (part_from c at es)

-- cell c's part of a record
unfoldable pub part_of : ℕ → List Entry → List Entry
part_of c es = part_from c (λ k. 0) es

-- the operations of cell c
unfoldable pub of_cell : ℕ → List Op → List Op
of_cell c [] = []
of_cell c (x ∷ xs) = keep_if (eqb x.cell c) x (of_cell c xs)
