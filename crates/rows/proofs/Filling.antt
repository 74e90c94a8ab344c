-- The reader's second pass: i entries are stored, the next one stands at place at of the bytes.
use Rattle.std.specs.Prelude.{Ok, Err, IsOk}
use Prim.Native.Nat.{ℕ, ◌+◌, ◌*◌, ◌≤◌, ◌<◌}
use mathlib.Core.Path.{◌≡◌, refl, sym, ap, ap₂, ◌∙◌}
use mathlib.Core.List.{List}
use native.Mathlib.Omega.{arith}
use lib.ListN.{length}
use lib.Seq.{sets}
use lib.Dec.{ltb}
use Rattle.record.specs.declared.Entry.{Entry}
use Rattle.record.specs.Entry.{entry_at}
use Rattle.record.specs.Record.{entry_limit, fresh, bytes_held, Held, entries, fault, survey_of}
use Rattle.refusal.specs.declared.Refusal.{Refusal}
use Rattle.refusal.specs.declared.Refusal.TheVariants.{TooShort}
use Rattle.number.specs.laws.NumberLaws.{same_read}
use Rattle.record.specs.laws.Steps.{same_fault}
use Rattle.rows.specs.Row.{row_of}
use Rattle.rows.specs.Rows.{rows_of, refused, read_into, read_outcome, Outcome}
use Rattle.rows.specs.laws.RowLaws.{row_length, rows_length}
use Rattle.rows.specs.laws.Storing.{Storable, Going, Next, step, same_going, finish, stored_fits, stored_short}

pub record Filling (s rows₀ : List ℕ) (n : ℕ) (rows : List ℕ) (at i : ℕ) : Type 0 where
  pub all : List Entry
  pub held : bytes_held s ≡ entries all
  pub fits : length (rows_of all) ≤ length rows₀
  pub going : Going (λ j. ltb j (length s)) (entry_at s) row_of rows₀ all rows at (4 * i)
  pub count : i + length going.rest ≡ n

-- before the first entry
pub fills : (s rows : List ℕ) (n : ℕ) → Storable (bytes_held s) n rows → Filling s rows n rows 0 0
unfolding bytes_held
fills s rows n w = record {
  all = w.all;
  held = w.held;
  fits = w.room;
  going = record { left = entry_limit; n = 0; st = fresh; rest = w.all; held = w.held; same = refl; room = omega (arith, w.room); long = refl };
  count = omega (arith, w.count);
}

module _ (s rows₀ : List ℕ) (n : ℕ) (rows : List ℕ) (at i : ℕ) (w : Filling s rows₀ n rows at i) where
  -- the entry that is next
  waits : i < n → Next (λ j. ltb j (length s)) (entry_at s) row_of rows₀ w.all rows at (4 * i) (length w.going.rest)
  waits l = step (λ j. ltb j (length s)) (entry_at s) row_of rows₀ w.all rows at (4 * i) w.going (omega (arith, w.count))

  pub fills_room : i < n → 4 * i + 4 ≤ length rows
  fills_room l = let x = waits l in omega (arith, x.room, row_length x.e)

  pub fills_ok : i < n → IsOk (entry_at s at)
  fills_ok l = rw (waits l).is refl

  pub fills_on : (e : Entry) (next : ℕ) (rows' : List ℕ) → i < n → entry_at s at ≡ Ok (e, next) → rows' ≡ sets rows (4 * i) (row_of e) → Filling s rows₀ n rows' next (i + 1)
  unfolding same_going
  fills_on e next rows' l f r =
      let x = waits l in
      let y = x.is in
      let both = same_read (sym y ∙ f) in
      let same : x.e ≡ e = both.0 in
      let place : x.next ≡ next = both.1 in
      let out : 4 * i + length (row_of x.e) ≡ 4 * (i + 1) = omega (arith, row_length x.e) in
      let stored : sets rows (4 * i) (row_of x.e) ≡ rows' = ap (λ (z : Entry). sets rows (4 * i) (row_of z)) same ∙ sym r in
      record {
        all = w.all;
        held = w.held;
        fits = w.fits;
        going = same_going (λ j. ltb j (length s)) (entry_at s) row_of rows₀ w.all x.going stored place out;
        count = omega (arith, w.count, x.fewer);
      }

  pub fills_long : length rows ≡ length rows₀
  fills_long = w.going.long

  pub fills_end : n ≤ i → rows ≡ (read_outcome s rows₀).lent
  unfolding read_into
  fills_end l =
      let e = finish (λ j. ltb j (length s)) (entry_at s) row_of rows₀ w.all rows at (4 * i) w.going (omega (arith, w.count)) w.fits in
      e ∙ sym (ap (λ h. (read_into h rows₀).lent) w.held ∙ ap (λ (o : Outcome). o.lent) (stored_fits (rows_of w.all) (length w.all) rows₀ w.fits))

-- ---- the reader's answer, by what the survey said

-- what was counted is held
survey_held : (h : Held) (n : ℕ) → survey_of h ≡ Ok n → (es : List Entry) × ((h ≡ entries es) × (length es ≡ n))
unfolding survey_of
survey_held (entries es) n p = (es, (refl, cc))
survey_held (fault k m) n p = let z : ◌≡◌ {A = ℕ} 0 1 = cc in absurd (omega arith)

pub read_refused : (h : Held) (k : Refusal) (n : ℕ) (d : List ℕ) → survey_of h ≡ Err (k, n) → read_into h d ≡ refused k n d
unfolding survey_of read_into
read_refused (entries es) k n d p = let z : ◌≡◌ {A = ℕ} 0 1 = cc in absurd (omega arith)
read_refused (fault j m) k n d p = let e = same_fault p in ap₂ (λ (x : Refusal) (y : ℕ). refused x y d) e.0 e.1

module _ (h : Held) (n : ℕ) (d : List ℕ) (p : survey_of h ≡ Ok n) where
  pub read_short : length d < 4 * n → read_into h d ≡ refused TooShort 0 d
  unfolding read_into
  read_short l =
      let w = survey_held h n p in
      ap (λ (x : Held). read_into x d) w.1.0 ∙ stored_short (rows_of w.0) (length w.0) d (omega (arith, rows_length w.0, w.1.1))

  pub read_storable : 4 * n ≤ length d → Storable h n d
  read_storable l =
      let w = survey_held h n p in
      record { all = w.0; held = w.1.0; count = w.1.1; room = omega (arith, rows_length w.0, w.1.1) }

  pub read_all : 4 * n ≤ length d → (read_into h d).answer ≡ Ok n
  unfolding read_into
  read_all l =
      let w = survey_held h n p in
      ap (λ (x : Held). (read_into x d).answer) w.1.0
      ∙ ap (λ (o : Outcome). o.answer) (stored_fits (rows_of w.0) (length w.0) d (omega (arith, rows_length w.0, w.1.1)))
      ∙ ap Ok w.1.1
