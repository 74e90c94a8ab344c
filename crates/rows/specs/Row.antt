-- An entry in memory: a row of four numbers. The paper: "The record and its bytes".
use Rattle.std.specs.Prelude.{ℕ, ◌+◌, List, [], ◌∷◌, Bool, cond, ◌||◌, ◌&&◌, get_or, length, ltb, leb, eqb, Ok, Err}
use Rattle.std.proofs.lemmas.List.Edits.{sets}
use Rattle.number.specs.Value.{alternating_of, signed_of}
use Rattle.record.specs.declared.Entry.{Entry}
use Rattle.record.specs.declared.Entry.TheVariants.{ReadAsked, WriteAsked, Told, Done}
use Rattle.record.specs.Entry.{Found, last_client, last_cell}
use Rattle.refusal.specs.declared.Refusal.TheVariants.{KindAbove, FieldAbove}

-- an entry in memory is a row of four numbers: kind, client, cell, value as it is written; a field its kind hasn't got stands as 0
unfoldable pub row_of : Entry → List ℕ
row_of (ReadAsked client cell) = 0 ∷ client.0 ∷ cell.0 ∷ 0 ∷ []
row_of (WriteAsked client cell v) = 1 ∷ client.0 ∷ cell.0 ∷ alternating_of v ∷ []
row_of (Told client v) = 2 ∷ client.0 ∷ 0 ∷ alternating_of v ∷ []
row_of (Done client) = 3 ∷ client.0 ∷ 0 ∷ 0 ∷ []

-- whether lent rows have room for one at place at
unfoldable pub room_at : List ℕ → ℕ → Bool
room_at rows at = leb (at + 4) (length rows)

-- lent rows after an entry is stored at place at: its row stands there if it has room, else nothing changes
unfoldable pub stored_at : List ℕ → ℕ → Entry → List ℕ
stored_at rows at e = cond (room_at rows at) (sets rows at (row_of e)) rows

-- the entry of a row's four numbers; a field its kind hasn't got is no part of it
unfoldable pub entry_of : ℕ → ℕ → ℕ → ℕ → Entry
entry_of kind client cell value =
    cond (eqb kind 0) (ReadAsked (record { 0 = client }) (record { 0 = cell }))
    (cond (eqb kind 1) (WriteAsked (record { 0 = client }) (record { 0 = cell }) (signed_of value))
    (cond (eqb kind 2) (Told (record { 0 = client }) (signed_of value))
    (Done (record { 0 = client }))))

-- what a row's four numbers give, up to place next; 24: kind above 3; 25: client above 7 or cell above 15
unfoldable pub row_found : ℕ → ℕ → ℕ → ℕ → ℕ → Found
row_found kind client cell value next =
    cond (ltb 3 kind) (Err KindAbove)
    (cond (ltb last_client client || (ltb kind 2 && ltb last_cell cell)) (Err FieldAbove)
    (Ok (entry_of kind client cell value, next)))

-- what the row at place at of ws gives
unfoldable pub row_at : List ℕ → ℕ → Found
row_at ws at = row_found (get_or ws at 0) (get_or ws (at + 1) 0) (get_or ws (at + 2) 0) (get_or ws (at + 3) 0) (at + 4)
