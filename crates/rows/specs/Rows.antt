-- A record in lent memory: what rows hold, and what the reader and the writer answer and leave. The paper: "The record and its bytes".
use Rattle.std.specs.Prelude.{ℕ, ◌+◌, ◌≡◌, List, ◌++◌, cond, length, drop, ltb, leb, Ok, Err}
use Rattle.record.specs.declared.Entry.{Entry}
use Rattle.refusal.specs.declared.Refusal.{Refusal}
use Rattle.refusal.specs.declared.Refusal.TheVariants.{TooShort}
use Rattle.record.specs.Record.{Answer, entry_limit, fresh, Held, entries, fault, held_from, bytes_held, all_of, bytes_of}
use Rattle.rows.specs.Row.{row_of, row_at}

-- the rows of a record
abbrev pub rows_of : List Entry → List ℕ
rows_of es = all_of row_of es

-- what the rows ws hold; numbers after the last whole row are no entry
unfoldable pub rows_held : List ℕ → Held
rows_held ws = held_from (λ at. leb (at + 4) (length ws)) (row_at ws) entry_limit 0 0 fresh

-- what a call answers, and what then stands in the lent memory
pub record Outcome : Type 0 where
  pub answer : Answer
  pub lent : List ℕ

-- an answer and memory are those of an outcome
pub record Leaves (o : Outcome) (answer : Answer) (lent : List ℕ) : Type 0 where
  pub answers : answer ≡ o.answer
  pub leaves : lent ≡ o.lent

-- nothing is written
abbrev pub refused : Refusal → ℕ → List ℕ → Outcome
refused k n d = record { answer = Err (k, n); lent = d }

-- out is written at the front, and what stands beyond it stays; 20: the lent memory is too short (entry 0 is named)
unfoldable pub stored : List ℕ → ℕ → List ℕ → Outcome
stored out count d =
    cond (ltb (length d) (length out)) (refused TooShort 0 d) (record { answer = Ok count; lent = out ++ drop (length out) d })

-- reading what is held into lent memory d: how many entries
unfoldable pub read_into : Held → List ℕ → Outcome
read_into (fault k n) d = refused k n d
read_into (entries es) d = stored (rows_of es) (length es) d

-- writing what is held into lent memory d: how many bytes
unfoldable pub write_into : Held → List ℕ → Outcome
write_into (fault k n) d = refused k n d
write_into (entries es) d = stored (bytes_of es) (length (bytes_of es)) d

-- the reader: bytes to rows
abbrev pub read_outcome : List ℕ → List ℕ → Outcome
read_outcome s d = read_into (bytes_held s) d

-- the writer: rows to bytes
abbrev pub write_outcome : List ℕ → List ℕ → Outcome
write_outcome ws d = write_into (rows_held ws) d
