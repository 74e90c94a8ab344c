-- What a row gives, test by test in the order of the code; when a row is stored; how many numbers rows have, and how many bytes their entries.
use Rattle.std.specs.Prelude.{ℕ, ◌+◌, ◌*◌, ◌/◌, ◌≤◌, ◌<◌, List, [], ◌∷◌, length, get_or, ◌≡◌, refl, Bool, true, false, cond, ◌||◌, ◌&&◌, ltb, leb, Ok, Err}
use Rattle.std.proofs.Common.{length-append, ap, sym, arith}
use Rattle.std.proofs.lemmas.List.Edits.{sets}
use borrow.Author.Tests.{lt-ltb, le-ltb, le-leb, lt-leb}
use Rattle.number.specs.Value.{signed_of}
use Rattle.record.specs.declared.Entry.{Entry}
use Rattle.record.specs.declared.Entry.TheVariants.{ReadAsked, WriteAsked, Told, Done}
use Rattle.number.specs.laws.NumberLaws.{same_read}
use Rattle.record.specs.Entry.{Found, last_client, last_cell, entry_bytes}
use Rattle.record.specs.Record.{Held, entries, fault, all_of}
use Rattle.record.specs.laws.Steps.{total, tally}
use Rattle.rows.specs.Row.{row_of, room_at, stored_at, entry_of, row_found, row_at}
use Rattle.rows.specs.Rows.{rows_of}
use Rattle.rows.specs.laws.Storing.{measure_of}
use Rattle.refusal.specs.declared.Refusal.TheVariants.{KindAbove, FieldAbove}

module _ (kind client cell value next : ℕ) where
  pub row_24 : 3 < kind → row_found kind client cell value next ≡ Err KindAbove
  unfolding row_found
  row_24 h = simp (lt-ltb 3 kind h)

  pub row_25_client : kind ≤ 3 → last_client < client → row_found kind client cell value next ≡ Err FieldAbove
  unfolding row_found
  row_25_client h g = simp (le-ltb 3 kind h, lt-ltb last_client client g)

  pub row_25_cell : kind ≤ 3 → client ≤ last_client → kind < 2 → last_cell < cell → row_found kind client cell value next ≡ Err FieldAbove
  unfolding row_found
  row_25_cell h g k l = simp (le-ltb 3 kind h, le-ltb last_client client g, lt-ltb kind 2 k, lt-ltb last_cell cell l)

  pub row_done : client ≤ last_client → kind ≡ 3 → row_found kind client cell value next ≡ Ok (Done (record { 0 = client }), next)
  unfolding row_found entry_of
  row_done g e = simp (e, le-ltb last_client client g)

  pub row_told : client ≤ last_client → kind ≡ 2 → row_found kind client cell value next ≡ Ok (Told (record { 0 = client }) (signed_of value), next)
  unfolding row_found entry_of
  row_told g e = simp (e, le-ltb last_client client g)

  pub row_read : client ≤ last_client → cell ≤ last_cell → kind ≡ 0 → row_found kind client cell value next ≡ Ok (ReadAsked (record { 0 = client }) (record { 0 = cell }), next)
  unfolding row_found entry_of
  row_read g l e = simp (e, le-ltb last_client client g, le-ltb last_cell cell l)

  pub row_write : client ≤ last_client → cell ≤ last_cell → kind ≡ 1 → row_found kind client cell value next
      ≡ Ok (WriteAsked (record { 0 = client }) (record { 0 = cell }) (signed_of value), next)
  unfolding row_found entry_of
  row_write g l e = simp (e, le-ltb last_client client g, le-ltb last_cell cell l)

-- a row is four numbers long
pub row_next : (ws : List ℕ) (at : ℕ) (e : Entry) (next : ℕ) → row_at ws at ≡ Ok (e, next) → next ≡ at + 4
unfolding row_at row_found
row_next ws at e next p = go (ltb 3 (get_or ws at 0)) (ltb last_client (get_or ws (at + 1) 0) || (ltb (get_or ws at 0) 2 && ltb last_cell (get_or ws (at + 2) 0)))
    (entry_of (get_or ws at 0) (get_or ws (at + 1) 0) (get_or ws (at + 2) 0) (get_or ws (at + 3) 0)) p
  where
    go : (t u : Bool) (f : Entry) → cond {A = Found} t (Err KindAbove) (cond u (Err FieldAbove) (Ok (f, at + 4))) ≡ Ok (e, next) → next ≡ at + 4
    go true u f q = let z : ◌≡◌ {A = ℕ} 0 1 = cc in absurd (omega arith)
    go false true f q = let z : ◌≡◌ {A = ℕ} 0 1 = cc in absurd (omega arith)
    go false false f q = sym (same_read q).1

-- whether a whole row stands after n others
pub more_rows : (ws : List ℕ) (n : ℕ) → n < length ws / 4 → leb (4 * n + 4) (length ws) ≡ true
more_rows ws n h = le-leb (4 * n + 4) (length ws) (omega arith)

pub no_more_rows : (ws : List ℕ) (n : ℕ) → length ws / 4 ≤ n → leb (4 * n + 4) (length ws) ≡ false
no_more_rows ws n h = lt-leb (4 * n + 4) (length ws) (omega arith)

-- a row is four numbers
pub row_length : (e : Entry) → length (row_of e) ≡ 4
unfolding row_of
row_length (ReadAsked client cell) = refl
row_length (WriteAsked client cell v) = refl
row_length (Told client v) = refl
row_length (Done client) = refl

-- where there is room the row is stored
pub room_in : (d : List ℕ) (at : ℕ) → at + 4 ≤ length d → room_at d at ≡ true
unfolding room_at
room_in d at h = le-leb (at + 4) (length d) h

pub stored_in : (d : List ℕ) (at : ℕ) (e : Entry) → at + 4 ≤ length d → stored_at d at e ≡ sets d at (row_of e)
unfolding stored_at
stored_in d at e h = rw (room_in d at h)

-- where there isn't nothing changes
pub room_out : (d : List ℕ) (at : ℕ) → length d < at + 4 → room_at d at ≡ false
unfolding room_at
room_out d at h = lt-leb (at + 4) (length d) h

pub stored_out : (d : List ℕ) (at : ℕ) (e : Entry) → length d < at + 4 → stored_at d at e ≡ d
unfolding stored_at
stored_out d at e h = rw (room_out d at h)

-- and there are four to an entry
pub rows_length : (es : List Entry) → length (rows_of es) ≡ 4 * length es
unfolding all_of
rows_length [] = refl
rows_length (e ∷ es) = simp length-append (omega (arith, row_length e, rows_length es))

-- ---- how many bytes the entries take

pub total_all : (f : Entry → List ℕ) (es : List Entry) → total (λ e. length (f e)) es ≡ length (all_of f es)
unfolding total all_of
total_all f [] = refl
total_all f (e ∷ es) = simp length-append (omega (arith, total_all f es))

pub measure_tally : (h : Held) → measure_of h ≡ tally (λ e. length (entry_bytes e)) 0 h
unfolding measure_of tally
measure_tally (entries es) = ap Ok (omega (arith, total_all entry_bytes es))
measure_tally (fault k n) = refl
