-- What a cell's part is to its record: a record itself, whose operations are those of the cell, renumbered.
use Rattle.std.specs.Prelude.{◌≡◌, List, map, ℕ, ◌<◌, length, get_or, cond}
use Rattle.record.specs.declared.Entry.{Entry}
use Rattle.record.specs.Legal.{Legal}
use Rattle.law.specs.Operation.{operations, Op}
use Rattle.law.specs.Part.{part_of, of_cell}

-- entry i is called f i: the operation with its number, its start, and its stop if it is finished
abbrev pub renumbered : (ℕ → ℕ) → Op → Op
renumbered f x =
    record {
      number = f x.number;
      client = x.client;
      cell = x.cell;
      write = x.write;
      value = x.value;
      start = f x.start;
      over = x.over;
      stop = cond x.over (f x.stop) x.stop;
    }

-- a later entry has a greater number
abbrev pub Rises : (ℕ → ℕ) → Type 0
Rises f = (i j : ℕ) → i < j → f i < f j

-- Cell c's part of the record es: where its entries stand, that it is a record without a fault, and whose operations its are.
pub record CellPart (c : ℕ) (es : List Entry) : Type 0 where
  pub place : ℕ → ℕ
  pub rises : Rises place
  pub stands : (d : Entry) (i : ℕ) → i < length (part_of c es) → (place i < length es) × (get_or es (place i) d ≡ get_or (part_of c es) i d)
  pub legal : Legal (part_of c es)
  pub same : map (renumbered place) (operations (part_of c es)) ≡ of_cell c (operations es)
