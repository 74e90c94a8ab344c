-- What one entry leaves in the arrays.
use Rattle.std.specs.Prelude.{ℕ, ◌<◌, ◌≡◌, List, length, get_or, set}
use Rattle.number.specs.Value.{alternating_of}
use Rattle.record.specs.declared.Client.{Client}
use Rattle.record.specs.declared.Cell.{Cell}
use Rattle.record.specs.declared.Entry.{Entry}
use Rattle.record.specs.declared.Entry.TheVariants.{ReadAsked, WriteAsked, Told, Done}
use Rattle.record.specs.Record.{entry_limit}
use Rattle.pairs.specs.declared.Row.{Row}

-- each array has a place for every entry that a record may hold
pub record Long (kinds cells values starts : List ℕ) : Type 0 where
  pub kinds_long : length kinds ≡ entry_limit
  pub cells_long : length cells ≡ entry_limit
  pub values_long : length values ≡ entry_limit
  pub starts_long : length starts ≡ entry_limit

-- every start that is kept by client is an entry's number
abbrev pub Low : List ℕ → Type 0
Low opened = (k : ℕ) → get_or opened k 0 < entry_limit

-- of entry n, which starts an operation
abbrev pub start_row : ℕ → Client → ℕ → Cell → ℕ → Row
start_row n client kind cell value = record { client = client; kind = kind; cell = cell; value = value; start = n }

-- of an entry that ends the client's open operation, which starts at the place kept in opened: cell and start are that one's
abbrev pub end_row : List ℕ → List ℕ → Client → ℕ → ℕ → Row
end_row cells opened client kind value =
    let start = get_or opened client.0 0 in
    record { client = client; kind = kind; cell = record { 0 = get_or cells start 0 }; value = value; start = start }

-- kinds: 0 a read asked, 1 a write asked, 2 told, 3 done; the value as the number that it is written as, 0 where the entry has none
abbrev pub note_row : List ℕ → List ℕ → ℕ → Entry → Row
note_row cells opened n (ReadAsked client cell) = start_row n client 0 cell 0
note_row cells opened n (WriteAsked client cell v) = start_row n client 1 cell (alternating_of v)
note_row cells opened n (Told client v) = end_row cells opened client 2 (alternating_of v)
note_row cells opened n (Done client) = end_row cells opened client 3 0

-- a row is stored at place n, and its start as its client's
pub record Noted (kinds cells values starts opened : List ℕ) (n : ℕ) (row : Row) (kinds' cells' values' starts' opened' : List ℕ) : Type 0 where
  pub kinds_set : kinds' ≡ set kinds n row.kind
  pub cells_set : cells' ≡ set cells n row.cell.0
  pub values_set : values' ≡ set values n row.value
  pub starts_set : starts' ≡ set starts n row.start
  pub opened_set : opened' ≡ set opened row.client.0 row.start
