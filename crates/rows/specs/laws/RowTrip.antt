-- One entry and its row: the row of an entry is read as the entry, and what a row gives is in range.
use Rattle.std.specs.Prelude.{ℕ, zero, suc, ◌+◌, ◌^◌, ◌<◌, ◌≤◌, List, [], ◌∷◌, ◌++◌, ◌≡◌, refl, Bool, true, false, drop, get_or, ltb, Ok}
use Rattle.std.proofs.Common.{ap, ◌∙◌, sym, subst, arith, get_or-drop, ltb-true, ltb-false}
use Rattle.number.specs.laws.NumberLaws.{same_read}
use Rattle.record.specs.Entry.{Found, last_client, last_cell}
use Rattle.number.specs.Value.{alternating_of}
use Rattle.number.specs.laws.ValueLaws.{signed_alternating, signed_fits}
use Rattle.record.specs.declared.Entry.{Entry}
use Rattle.record.specs.declared.Entry.TheVariants.{ReadAsked, WriteAsked, Told, Done}
use Rattle.record.specs.Legal.{InRange}
use Rattle.number.specs.Below.{Words}
use Rattle.record.proofs.theorems.EntryTrip.{never, below_none}
use Rattle.rows.specs.Row.{row_of, row_found, row_at}
use Rattle.rows.specs.laws.RowLaws.{row_24, row_25_client, row_25_cell, row_done, row_told, row_read, row_write}

-- a row's four numbers at place at
row_there : (ws : List ℕ) (at kind client cell value : ℕ) (more : List ℕ) → drop at ws ≡ kind ∷ client ∷ cell ∷ value ∷ more
    → row_at ws at ≡ row_found kind client cell value (at + 4)
unfolding row_at
row_there ws at kind client cell value more e =
    let a : get_or ws at 0 ≡ kind = ap (λ (i : ℕ). get_or ws i 0) (omega arith) ∙ sym (get_or-drop at ws 0 0) ∙ ap (λ (l : List ℕ). get_or l 0 0) e in
    let b : get_or ws (at + 1) 0 ≡ client = sym (get_or-drop at ws 1 0) ∙ ap (λ (l : List ℕ). get_or l 1 0) e in
    let c : get_or ws (at + 2) 0 ≡ cell = sym (get_or-drop at ws 2 0) ∙ ap (λ (l : List ℕ). get_or l 2 0) e in
    let d : get_or ws (at + 3) 0 ≡ value = sym (get_or-drop at ws 3 0) ∙ ap (λ (l : List ℕ). get_or l 3 0) e in
    rw (a, b, c, d)

-- an entry's row at place at is the entry, whatever follows
pub reads_row : (e : Entry) (ws : List ℕ) (at : ℕ) (more : List ℕ) → InRange e → drop at ws ≡ row_of e ++ more → row_at ws at ≡ Ok (e, at + 4)
unfolding row_of
reads_row (ReadAsked client cell) ws at more h e = row_there ws at _ _ _ _ more e ∙ row_read 0 client.0 cell.0 0 (at + 4) h.0 h.1 refl
reads_row (WriteAsked client cell v) ws at more h e =
    row_there ws at _ _ _ _ more e ∙ row_write 1 client.0 cell.0 (alternating_of v) (at + 4) h.0 h.1 refl
    ∙ ap (λ x. Ok (WriteAsked client cell x, at + 4)) (signed_alternating v)
reads_row (Told client v) ws at more h e =
    row_there ws at _ _ _ _ more e ∙ row_told 2 client.0 0 (alternating_of v) (at + 4) h.0 refl
    ∙ ap (λ x. Ok (Told client x, at + 4)) (signed_alternating v)
reads_row (Done client) ws at more h e = row_there ws at _ _ _ _ more e ∙ row_done 3 client.0 0 0 (at + 4) h refl

-- a row that gives an entry is within the limits
module _ (kind client cell value next : ℕ) (e : Entry) (next' : ℕ) (p : row_found kind client cell value next ≡ Ok (e, next')) where
  row_client : kind ≤ 3 → client ≤ last_client
  row_client h = go (ltb last_client client) refl
    where
      go : (t : Bool) → ltb last_client client ≡ t → client ≤ last_client
      go true q = never (sym (row_25_client kind client cell value next h (ltb-true last_client client q)) ∙ p)
      go false q = ltb-false last_client client q

  row_cell : kind < 2 → cell ≤ last_cell
  row_cell h = go (ltb last_cell cell) refl
    where
      go : (t : Bool) → ltb last_cell cell ≡ t → cell ≤ last_cell
      go true q = never (sym (row_25_cell kind client cell value next (omega arith) (row_client (omega arith)) h (ltb-true last_cell cell q)) ∙ p)
      go false q = ltb-false last_cell cell q

in_range : {e e' : Entry} {next next' : ℕ} → ◌≡◌ {A = Found} (Ok (e, next)) (Ok (e', next')) → InRange e → InRange e'
in_range {e} {e'} p h = subst InRange (same_read p).0 h

found_range : (kind client cell value next : ℕ) (e : Entry) (next' : ℕ) → value < 2 ^ 32 → row_found kind client cell value next ≡ Ok (e, next') → InRange e
found_range zero client cell value next e next' h p =
    let a = row_client zero client cell value next e next' p (omega arith) in
    let b = row_cell zero client cell value next e next' p (omega arith) in
    in_range (sym (row_read zero client cell value next a b refl) ∙ p) (a, b)
found_range (suc zero) client cell value next e next' h p =
    let a = row_client 1 client cell value next e next' p (omega arith) in
    let b = row_cell 1 client cell value next e next' p (omega arith) in
    in_range (sym (row_write 1 client cell value next a b refl) ∙ p) (a, b, signed_fits value h)
found_range (suc (suc zero)) client cell value next e next' h p =
    let a = row_client 2 client cell value next e next' p (omega arith) in
    in_range (sym (row_told 2 client cell value next a refl) ∙ p) (a, signed_fits value h)
found_range (suc (suc (suc zero))) client cell value next e next' h p =
    let a = row_client 3 client cell value next e next' p (omega arith) in
    in_range (sym (row_done 3 client cell value next a refl) ∙ p) a
found_range (suc (suc (suc (suc k)))) client cell value next e next' h p =
    never (sym (row_24 (suc (suc (suc (suc k)))) client cell value next (omega arith)) ∙ p)

-- an entry that a row gives is in range
pub row_range : (ws : List ℕ) (at : ℕ) (e : Entry) (next : ℕ) → Words ws → row_at ws at ≡ Ok (e, next) → InRange e
unfolding row_at
row_range ws at e next h p = found_range (get_or ws at 0) (get_or ws (at + 1) 0) (get_or ws (at + 2) 0) (get_or ws (at + 3) 0) (at + 4) e next (h (at + 3)) p

four_words : (a b c d : ℕ) → a < 2 ^ 32 → b < 2 ^ 32 → c < 2 ^ 32 → d < 2 ^ 32 → Words (a ∷ b ∷ c ∷ d ∷ [])
four_words a b c d ha hb hc hd zero = ha
four_words a b c d ha hb hc hd (suc zero) = hb
four_words a b c d ha hb hc hd (suc (suc zero)) = hc
four_words a b c d ha hb hc hd (suc (suc (suc zero))) = hd
four_words a b c d ha hb hc hd (suc (suc (suc (suc i)))) = below_none (2 ^ 32) (omega arith) i
