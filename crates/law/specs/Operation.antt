-- The operations of a record. The paper: "What lawful means".
use Rattle.std.specs.Prelude.{ℕ, suc, List, [], ◌∷◌, ◌++◌, map, Bool, true, false, cond, not, ◌&&◌, eqb, ℤ, pos}
use Rattle.record.specs.declared.Entry.{Entry}
use Rattle.record.specs.declared.Entry.TheVariants.{ReadAsked, WriteAsked, Told, Done}

-- An operation: its start entry's number, its client and cell, whether it is a write, its value (of a write what was asked, of a
-- read what was end_told), its start, whether it is finished, and its stop if so.
pub record Op : Type 0 where
  pub number : ℕ
  pub client : ℕ
  pub cell : ℕ
  pub write : Bool
  pub value : ℤ
  pub start : ℕ
  pub over : Bool
  pub stop : ℕ

-- place in the record is the time: of the entry with number n
abbrev pub time_of : ℕ → Entry → ℕ
time_of n e = n

-- an operation that entry n starts, unfinished
abbrev pub asked : ℕ → ℕ → ℕ → Bool → ℤ → ℕ → Op
asked n client cell write value time =
    record { number = n; client = client; cell = cell; write = write; value = value; start = time; over = false; stop = 0 }

-- x finished at a time, with its value
abbrev pub finished : ℕ → ℤ → Op → Op
finished time value x =
    record { number = x.number; client = x.client; cell = x.cell; write = x.write; value = value; start = x.start; over = true; stop = time }

-- whether x is the client's open operation
abbrev pub open_of : ℕ → Op → Bool
open_of client x = eqb x.client client && not x.over

-- end_told: the client's open operation gives the value
abbrev pub end_told : ℕ → ℕ → ℤ → Op → Op
end_told time client value x = cond (open_of client x) (finished time value x) x

-- end_done: the client's open operation ends, its value as asked
abbrev pub end_done : ℕ → ℕ → Op → Op
end_done time client x = cond (open_of client x) (finished time x.value x) x

-- the operations after entry n, in the order of their starts
unfoldable pub note : ℕ → Entry → List Op → List Op
note n (ReadAsked client cell) ops = ops ++ (asked n client.0 cell.0 false (pos 0) (time_of n (ReadAsked client cell)) ∷ [])
note n (WriteAsked client cell value) ops = ops ++ (asked n client.0 cell.0 true value (time_of n (WriteAsked client cell value)) ∷ [])
note n (Told client value) ops = map (end_told (time_of n (Told client value)) client.0 value) ops
note n (Done client) ops = map (end_done (time_of n (Done client)) client.0) ops

-- the operations after the entries es, of which the first has number n
unfoldable pub notes : ℕ → List Entry → List Op → List Op
notes n [] ops = ops
notes n (e ∷ es) ops = notes (suc n) es (note n e ops)

-- the operations of a record
unfoldable pub operations : List Entry → List Op
operations es = notes 0 es []
