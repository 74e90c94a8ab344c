-- The lines of a rack and the entries on them.
use Rattle.std.specs.Prelude.{ℕ, suc, ◌+◌, ◌*◌, ◌≤◌, ◌<◌, ◌≡◌, min, refl, List, [], ◌∷◌, ◌++◌, map, get_or, set, take, drop, length}
use Rattle.std.proofs.Common.{ap, sym, ◌∙◌, append_assoc, append-nil, arith, length-take-le, take_all, take-suc, take-suc-set, take_at}
use Rattle.std.proofs.lemmas.List.Edits.{sets}
use Rattle.std.proofs.Math.Seq.{length-sets}
use Rattle.std.proofs.Math.Nat.{min-eq_left, le-min}
use Rattle.std.proofs.Math.Decide.{dec_le}
use Rattle.record.specs.declared.Entry.{Entry}
use Rattle.rows.specs.Row.{row_of, stored_at}
use Rattle.record.specs.Record.{Answer}
use Rattle.record.specs.Record.{all_of}
use Rattle.rows.specs.Rows.{rows_of, write_outcome, Leaves}
use Rattle.rows.specs.laws.RowLaws.{rows_length, stored_in}
use Rattle.number.specs.laws.WroteLaws.{sets_append, sets_front}
use Rattle.rack.specs.declared.Line.{Line}
use Rattle.rack.specs.declared.Rack.{Rack}
use Rattle.method.specs.declared.Event.{Event}
use Rattle.method.specs.declared.Note.{Note}
use Rattle.method.specs.declared.Note.TheVariants.{Nothing, Asked, Ended}
use Rattle.method.specs.declared.Plan.{Plan}
use Rattle.rack.specs.Places.{record_of}
use Rattle.rack.specs.Run.{entries_in, recorded, applied_of}

-- the entries of the first n lines
abbrev pub entries_of : ℕ → List Line → List Entry
entries_of n lines = map (λ (l : Line). l.entry) (take n lines)

map_next : (ls : List Line) (l : Line) → map (λ (x : Line). x.entry) (ls ++ (l ∷ [])) ≡ map (λ (x : Line). x.entry) ls ++ (l.entry ∷ [])
map_next [] l = refl
map_next (x ∷ ls) l = ap (λ (es : List Entry). x.entry ∷ es) (map_next ls l)

-- a line stored at place n is the next entry
line_next : (n : ℕ) (lines : List Line) (e : Entry) → n < length lines → entries_of (n + 1) (set lines n (record { entry = e })) ≡ entries_of n lines ++ (e ∷ [])
line_next n lines e h =
    let s : n + 1 ≡ suc n = omega arith in
    ap (λ (k : ℕ). entries_of k (set lines n (record { entry = e }))) s
    ∙ ap (map (λ (l : Line). l.entry)) (take-suc-set lines n (record { entry = e }) h)
    ∙ map_next (take n lines) (record { entry = e })

-- the entry that a note adds
abbrev pub added : Note → List Entry
added Nothing = []
added (Asked e) = e ∷ []
added (Ended e) = e ∷ []

note_adds : (note : Note) (n : ℕ) (lines : List Line) → n + entries_in note ≤ length lines
    → entries_of (n + entries_in note) (recorded note n lines) ≡ entries_of n lines ++ added note
unfolding entries_in recorded
note_adds Nothing n lines h = let s : n + 0 ≡ n = omega arith in ap (λ (k : ℕ). entries_of k lines) s ∙ sym (append-nil (entries_of n lines))
note_adds (Asked e) n lines h = line_next n lines e (omega arith)
note_adds (Ended e) n lines h = line_next n lines e (omega arith)

-- the record after an event
pub applied_adds : (r : Rack) (e : Event) (p : Plan) → r.count + entries_in p.note ≤ length r.lines → record_of (applied_of r e p) ≡ record_of r ++ added p.note
unfolding record_of applied_of
applied_adds r e p h = note_adds p.note r.count r.lines h

-- the line that stands at place n is the next entry
pub entry_next : (n : ℕ) (lines : List Line) (d : Line) → n < length lines → entries_of (n + 1) lines ≡ entries_of n lines ++ ((get_or lines n d).entry ∷ [])
entry_next n lines d h =
    let s : n + 1 ≡ suc n = omega arith in
    ap (λ (k : ℕ). entries_of k lines) s ∙ ap (map (λ (l : Line). l.entry)) (take-suc lines n d h) ∙ map_next (take n lines) (get_or lines n d)

entries_long : (ls : List Line) → length (map (λ (l : Line). l.entry) ls) ≡ length ls
entries_long [] = refl
entries_long (l ∷ ls) = ap suc (entries_long ls)

-- there are n of them
pub n_long : (n : ℕ) (lines : List Line) → n ≤ length lines → length (entries_of n lines) ≡ n
n_long n lines h = entries_long (take n lines) ∙ length-take-le n lines h

-- a count beyond the last line counts that far
pub n_beyond : (m n : ℕ) (lines : List Line) → length lines ≤ m → length lines ≤ n → entries_of m lines ≡ entries_of n lines
n_beyond m n lines h k = ap (map (λ (l : Line). l.entry)) (take_all m lines h ∙ sym (take_all n lines k))

-- nor does a count that is no more than there are places for
pub n_capped : (m n : ℕ) (lines : List Line) → length lines ≡ m → entries_of (min n m) lines ≡ entries_of n lines
n_capped m n lines h = elim (dec_le n m) [
  | yes l ↦ rw (min-eq_left l)
  | no b ↦ n_beyond (min n m) n lines (le-min (omega (arith, b)) (omega arith)) (omega (arith, b))
]

-- the record is as long as its count says
pub count_long : (r : Rack) → r.count ≤ length r.lines → length (record_of r) ≡ r.count
unfolding record_of
count_long r h = n_long r.count r.lines h

-- ---- their rows

pub rows_append : (es fs : List Entry) → rows_of (es ++ fs) ≡ rows_of es ++ rows_of fs
unfolding all_of
rows_append [] fs = refl
rows_append (e ∷ es) fs = ap (λ (l : List ℕ). row_of e ++ l) (rows_append es fs) ∙ sym (append_assoc (row_of e) (rows_of es) (rows_of fs))

pub rows_one : (e : Entry) → rows_of (e ∷ []) ≡ row_of e
unfolding all_of
rows_one e = append-nil (row_of e)

-- Storing rows, a line at a time. The rows of the first i of n lines stand at the front of d:
pub record Stored (d : List ℕ) (lines : List Line) (n : ℕ) (now : List ℕ) (i : ℕ) : Type 0 where
  pub few : i ≤ n
  pub rows : now ≡ sets d 0 (rows_of (entries_of i lines))

-- none at first
pub stored_none : (d : List ℕ) (lines : List Line) (n : ℕ) → Stored d lines n d 0
unfolding all_of
stored_none d lines n = record { few = omega arith; rows = refl }

-- no length changes
pub stored_long : {d : List ℕ} {lines : List Line} {n : ℕ} {now : List ℕ} {i : ℕ} → Stored d lines n now i → length now ≡ length d
stored_long {d} {lines} {n} {now} {i} w = ap length w.rows ∙ length-sets d 0 (rows_of (entries_of i lines))

-- one line more
pub stored_next : {d : List ℕ} {lines : List Line} {n : ℕ} {now : List ℕ} {i : ℕ} → Stored d lines n now i → (next : List ℕ) (l : Line) → i < n → n ≤ length lines
    → 4 * n ≤ length d → next ≡ stored_at now (4 * i) (get_or lines i l).entry → Stored d lines n next (i + 1)
stored_next {d} {lines} {n} {now} {i} w next l h k room q =
    let es : List Entry = entries_of i lines in
    let e : Entry = (get_or lines i l).entry in
    let long : 4 * i ≡ 0 + length (rows_of es) = omega (arith, rows_length es, n_long i lines (omega arith)) in
    let more : rows_of es ++ row_of e ≡ rows_of (entries_of (i + 1) lines) =
    ap (λ (x : List ℕ). rows_of es ++ x) (sym (rows_one e)) ∙ sym (rows_append es (e ∷ [])) ∙ ap rows_of (sym (entry_next i lines l (omega arith))) in
    record {
      few = omega arith;
      rows = q
          ∙ stored_in now (4 * i) e (omega (arith, stored_long w))
          ∙ ap (λ (x : List ℕ). sets x (4 * i) (row_of e)) w.rows
          ∙ ap (λ (m : ℕ). sets (sets d 0 (rows_of es)) m (row_of e)) long
          ∙ sets_append d 0 (rows_of es) (row_of e)
          ∙ ap (λ (x : List ℕ). sets d 0 x) more;
    }

-- all of them
pub stored_all : {d : List ℕ} {lines : List Line} {n : ℕ} {now : List ℕ} {i : ℕ} → Stored d lines n now i → n ≤ i → now ≡ sets d 0 (rows_of (entries_of n lines))
stored_all {d} {lines} {n} {now} {i} w h = let e : i ≡ n = omega (arith, w.few) in w.rows ∙ ap (λ (k : ℕ). sets d 0 (rows_of (entries_of k lines))) e

-- What a rack's first n lines store is what its record's rows are, where they fit.
pub record Lined (r : Rack) (n : ℕ) (d now : List ℕ) : Type 0 where
  pub few : n ≤ length r.lines
  pub all : entries_of n r.lines ≡ entries_of r.count r.lines
  pub room : 4 * n ≤ length d
  pub rows : now ≡ sets d 0 (rows_of (entries_of n r.lines))

pub lined_long : {r : Rack} {n : ℕ} {d now : List ℕ} → Lined r n d now → 4 * n ≡ length (take (4 * n) now)
lined_long {r} {n} {d} {now} w =
    let l : length now ≡ length d = ap length w.rows ∙ length-sets d 0 (rows_of (entries_of n r.lines)) in
    sym (length-take-le (4 * n) now (omega (arith, w.room)))

pub lined_rows : {r : Rack} {n : ℕ} {d now : List ℕ} → Lined r n d now → take (4 * n) now ≡ rows_of (record_of r)
unfolding record_of
lined_rows {r} {n} {d} {now} w =
    let xs : List ℕ = rows_of (entries_of n r.lines) in
    let l : length xs ≡ 4 * n = omega (arith, rows_length (entries_of n r.lines), n_long n r.lines w.few) in
    ap (take (4 * n)) (w.rows ∙ sets_front xs d (omega (arith, w.room)))
    ∙ take_at xs (drop (length xs) d) (4 * n) l
    ∙ ap rows_of w.all

-- so writing them is writing the record
pub lined_writes : {r : Rack} {n : ℕ} {d now : List ℕ} → Lined r n d now → (bytes left : List ℕ) (a : Answer) → Leaves (write_outcome (take (4 * n) now) bytes) a left
    → Leaves (write_outcome (rows_of (record_of r)) bytes) a left
lined_writes w bytes left a h = rw (← lined_rows w) h
