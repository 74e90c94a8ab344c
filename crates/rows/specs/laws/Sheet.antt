-- The bench sheet's record as rows, and the smallest rows: worked examples that the promises of these calls cite.
use Rattle.std.specs.Prelude.{[], ◌∷◌, ◌≡◌, refl}
use Rattle.number.specs.Value.{alternating_of}
use Rattle.record.specs.declared.Entry.TheVariants.{ReadAsked}
use Rattle.record.specs.laws.Sheet.{sheet_entries}
use Rattle.record.specs.Record.{fault_after, standing_after, entries, fault, before, unless_refused, enter, held_from, all_of}
use Rattle.rows.specs.Row.{row_of, entry_of, row_found, row_at}
use Rattle.rows.specs.Rows.{rows_held, rows_of}
use Rattle.refusal.specs.declared.Refusal.TheVariants.{FieldAbove}

-- the sheet's four entries
pub sheet_rows : rows_of sheet_entries ≡ 1 ∷ 0 ∷ 2 ∷ 10 ∷ 3 ∷ 0 ∷ 0 ∷ 0 ∷ 0 ∷ 1 ∷ 2 ∷ 0 ∷ 2 ∷ 1 ∷ 0 ∷ 10 ∷ []
unfolding all_of row_of alternating_of
sheet_rows = refl

-- there is no client 8
pub row_client_8 : rows_held (0 ∷ 8 ∷ 0 ∷ 0 ∷ []) ≡ fault FieldAbove 0
unfolding rows_held held_from enter row_at row_found
row_client_8 = refl

-- one row; its field that a read asked hasn't got is no part of it
pub one_row : rows_held (0 ∷ 0 ∷ 2 ∷ 77 ∷ []) ≡ entries (ReadAsked (record { 0 = 0 }) (record { 0 = 2 }) ∷ [])
unfolding rows_held held_from enter unless_refused before fault_after standing_after row_at row_found entry_of
one_row = refl
