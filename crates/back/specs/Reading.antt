-- A record reads back. The paper: "The record and its bytes", and the judge's 16,385 bytes.
use Rattle.std.specs.Prelude.{ℕ, ◌*◌, ◌≤◌, ◌≡◌, List, ◌++◌, length, drop, Ok}
use Rattle.record.specs.declared.Entry.{Entry}
use Rattle.record.specs.Record.{entries, bytes_of, bytes_held}
use Rattle.rows.specs.Rows.{rows_of, read_outcome, write_outcome}
use Rattle.number.specs.Below.{Bytes}
use Rattle.verdict.specs.declared.Verdict.TheVariants.{Refused as says_refused}
use Rattle.verdict.specs.Verdict.{taken_for, Judges}

-- The writer puts the record's bytes wherever they have room, and none of 24 to 28 is met; the reader gives its rows back from these bytes wherever
-- they have room, and none of 21 to 28 is met; the judge takes the bytes whole, and refuses them with 29 or not at all.
pub record ReadsBack (es : List Entry) : Type 0 where
  pub writes : (d : List ℕ) → length (bytes_of es) ≤ length d
      → write_outcome (rows_of es) d ≡ record { answer = Ok (length (bytes_of es)); lent = bytes_of es ++ drop (length (bytes_of es)) d }
  pub holds : bytes_held (bytes_of es) ≡ entries es
  pub reads : (d : List ℕ) → 4 * length es ≤ length d → read_outcome (bytes_of es) d ≡ record { answer = Ok (length es); lent = rows_of es ++ drop (4 * length es) d }
  pub bytes : Bytes (bytes_of es)
  pub few : length (bytes_of es) ≤ 16384
  pub judged : (k n : ℕ) → Judges (taken_for (bytes_of es)) (says_refused k n) → k ≡ 29
