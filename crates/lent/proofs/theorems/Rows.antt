-- In words that calls left, the rows of the record stand one after another: the writer takes them as they stand.
use Rattle.std.specs.Prelude.{ℕ, zero, suc, ◌+◌, ◌*◌, ◌≤◌, ◌<◌, ◌≡◌, refl, Bool, true, false, List, [], ◌∷◌, ◌++◌, eqb, length, take, drop, Ok}
use Rattle.std.proofs.Common.{ap, ap₂, sym, ◌∙◌, subst, arith, length-drop, ext_get_or, take-add, drop-drop, get_or-take, get_or-drop, length-take-le, eq-eqb}
use Rattle.std.proofs.lemmas.Bool.{eqb-false}
use Rattle.record.specs.declared.Entry.{Entry}
use Rattle.record.specs.declared.Entry.TheVariants.{ReadAsked}
use Rattle.record.specs.Record.{all_of, bytes_of}
use Rattle.rows.specs.Row.{row_of}
use Rattle.rows.specs.Rows.{rows_of, write_outcome}
use Rattle.rows.specs.laws.RowLaws.{row_length}
use Rattle.rack.specs.declared.Line.{Line}
use Rattle.rack.specs.declared.Rack.{Rack}
use Rattle.rack.specs.Places.{of_sizes, record_of}
use Rattle.rack.specs.Sound.{sound_of}
use Rattle.rack.specs.laws.SoundLaws.{sound_of_lem}
use Rattle.rack.specs.Run.{fresh_rack, made_of, run_of}
use Rattle.runs.specs.laws.Parts.{run_stays}
use Rattle.back.specs.laws.Lines.{entries_of, entry_next, rows_append, rows_one}
use Rattle.layout.specs.Layout.{word_count, entry_place, word}
use Rattle.layout.specs.Reading.{rack_of}
use Rattle.layout.specs.Writing.{entry_in, written_of}
use Rattle.layout.specs.laws.PlaceLaws.{Stands}
use Rattle.layout.proofs.theorems.Again.{row_stands}
use Rattle.layout.specs.Calls.{WordsOutcome, run_outcome}
use Rattle.lent.specs.Called.{Called, made, ran}
use Rattle.lent.specs.Handed.{rows_in}
use Rattle.lent.specs.laws.Read.{count_is, read_writable, made_fresh}
use Rattle.lent.specs.laws.Again.{made_reads_again, some_done}
use Rattle.lent.proofs.theorems.Calls.{called_long, called_led, calls_read_back, called_reads_again}
use Rattle.lent.proofs.theorems.Twice.{run_none, run_some}

-- ---- each row stands at its place

-- the rows of the record of the words stand in them
abbrev RowsStand : List ℕ → Type 0
RowsStand ws = (i : ℕ) → i < (rack_of ws).count → Stands ws (entry_place i) (row_of (entry_in (rack_of ws).lines i))

made_none : (replicas clients cells : ℕ) → (made_of (of_sizes replicas clients cells)).rack.count ≡ 0
unfolding fresh_rack
made_none replicas clients cells = made_fresh (λ (r : Rack). r.count ≡ 0) replicas clients cells (λ e. refl) refl

-- a rack that is written and read again has its rows there
written_rows : (q : Rack) (ws : List ℕ) → sound_of q ≡ true → length ws ≡ word_count → rack_of (written_of q ws) ≡ q → RowsStand (written_of q ws)
written_rows q ws s l e i h =
    subst (λ (x : Rack). Stands (written_of q ws) (entry_place i) (row_of (entry_in x.lines i))) (sym e)
    (row_stands q ws s l i (omega (arith, ap (λ (x : Rack). x.count) e)))

rows_stand : {ws : List ℕ} → Called ws → RowsStand ws
rows_stand (made replicas clients cells ws l) =
    λ i h. absurd (omega (arith, ap (λ (x : Rack). x.count) (made_reads_again replicas clients cells ws l), made_none replicas clients cells))
rows_stand (ran ws n es w c) = go (eqb (run_of (rack_of ws) n es).done 0) refl (rows_stand c)
  where
    long : eqb (length ws) word_count ≡ true
    long = eq-eqb (length ws) word_count (called_long c)

    go : (t : Bool) → eqb (run_of (rack_of ws) n es).done 0 ≡ t → RowsStand ws → RowsStand (run_outcome ws n es).lent
    go true e ih = subst (λ (o : WordsOutcome). RowsStand o.lent) (sym (run_none ws n es long e)) ih
    go false e ih =
        let q : Rack = (run_of (rack_of ws) n es).rack in
        let s : sound_of q ≡ true = run_stays (rack_of ws) n es (some_done (rack_of ws) n es (eqb-false (run_of (rack_of ws) n es).done 0 e)) in
        let same : rack_of (written_of q ws) ≡ q = subst (λ (o : WordsOutcome). rack_of o.lent ≡ q) (run_some ws n es long e) (called_reads_again ws n es c) in
        subst (λ (o : WordsOutcome). RowsStand o.lent) (sym (run_some ws n es long e)) (written_rows q ws s (called_long c) same)

-- ---- so all of them stand in a row

row_here : (ws : List ℕ) (at : ℕ) (e : Entry) → at + 4 ≤ length ws → Stands ws at (row_of e) → take 4 (drop at ws) ≡ row_of e
row_here ws at e h s =
    let l : length (take 4 (drop at ws)) ≡ 4 = length-take-le 4 (drop at ws) (omega (arith, length-drop at ws)) in
    ext_get_or 0 (take 4 (drop at ws)) (row_of e) (l ∙ sym (row_length e))
    (λ i k. get_or-take 4 (drop at ws) i 0 (omega arith) ∙ get_or-drop at ws i 0 ∙ s i (omega (arith, row_length e)))

rows_first : (ws : List ℕ) (lines : List Line) (n : ℕ) → entry_place 0 + 4 * n ≤ length ws → n ≤ length lines
    → ((i : ℕ) → i < n → Stands ws (entry_place i) (row_of (entry_in lines i))) → take (4 * n) (drop (entry_place 0) ws) ≡ rows_of (entries_of n lines)
unfolding all_of
rows_first ws lines zero h k s = refl
rows_first ws lines (suc n) h k s =
    let none : Line = record { entry = ReadAsked (record { 0 = 0 }) (record { 0 = 0 }) } in
    let a : 4 * suc n ≡ 4 * n + 4 = omega arith in
    let b : suc n ≡ n + 1 = omega arith in
    let e : Entry = entry_in lines n in
    let row : take 4 (drop (4 * n) (drop (entry_place 0) ws)) ≡ row_of e = ap (take 4) (drop-drop (4 * n) (entry_place 0) ws)
    ∙ row_here ws (entry_place n) e (omega arith) (s n (omega arith)) in
    let first : take (4 * n) (drop (entry_place 0) ws) ≡ rows_of (entries_of n lines) = rows_first ws lines n (omega arith) (omega arith) (λ i l. s i (omega arith)) in
    let more : rows_of (entries_of n lines) ++ row_of e ≡ rows_of (entries_of (n + 1) lines) =
    ap (λ (x : List ℕ). rows_of (entries_of n lines) ++ x) (sym (rows_one e))
    ∙ sym (rows_append (entries_of n lines) (e ∷ []))
    ∙ ap rows_of (sym (entry_next n lines none (omega arith))) in
    ap (λ (x : ℕ). take x (drop (entry_place 0) ws)) a
    ∙ take-add (4 * n) 4 (drop (entry_place 0) ws)
    ∙ ap₂ (λ (x y : List ℕ). x ++ y) first row
    ∙ more
    ∙ ap (λ (x : ℕ). rows_of (entries_of x lines)) (sym b)

-- The rows that a caller hands to the writer are those of the record.
pub called_rows : (ws : List ℕ) → Called ws → rows_in ws ≡ rows_of (record_of (rack_of ws))
unfolding record_of rack_of
called_rows ws c =
    let s : sound_of (rack_of ws) ≡ true = (called_led c).sound in
    let n : (rack_of ws).count ≡ word ws 4 = count_is ws s in
    let few = (sound_of_lem (rack_of ws) s).entries in
    ap (λ (k : ℕ). take (4 * k) (drop (entry_place 0) ws)) (sym n)
    ∙ rows_first ws (rack_of ws).lines (rack_of ws).count (omega (arith, called_long c)) (omega (arith, (read_writable ws s).beyond.lines_long)) (rows_stand c)

-- So where 16,384 bytes are lent the writer puts the record's bytes at their front, and refuses nothing.
pub called_writes : (ws d : List ℕ) → Called ws → 16384 ≤ length d
    → let es = record_of (rack_of ws) in
    write_outcome (rows_in ws) d ≡ record { answer = Ok (length (bytes_of es)); lent = bytes_of es ++ drop (length (bytes_of es)) d }
called_writes ws d c room =
    let back = calls_read_back ws c in
    ap (λ (rows : List ℕ). write_outcome rows d) (called_rows ws c) ∙ back.writes d (omega (arith, back.few))
