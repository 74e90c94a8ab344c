-- The writer's second pass: n rows are written, the next bytes go to place out.
use Rattle.std.specs.Prelude.{Ok, Err, IsOk}
use Prim.Native.Nat.{ℕ, ◌+◌, ◌*◌, ◌/◌, ◌≤◌, ◌<◌}
use mathlib.Core.Path.{◌≡◌, refl, sym, ap, ap₂, ◌∙◌}
use mathlib.Core.List.{List}
use native.Mathlib.Omega.{arith}
use lib.ListN.{length}
use lib.Seq.{sets}
use lib.Dec.{leb}
use Rattle.record.specs.declared.Entry.{Entry}
use Rattle.record.specs.Entry.{entry_bytes}
use Rattle.record.specs.Record.{entry_limit, fresh, Held, entries, fault, bytes_of}
use Rattle.refusal.specs.declared.Refusal.{Refusal}
use Rattle.refusal.specs.declared.Refusal.TheVariants.{TooShort}
use Rattle.number.specs.laws.NumberLaws.{same_read}
use Rattle.record.specs.laws.Steps.{same_fault}
use Rattle.rows.specs.Row.{row_at}
use Rattle.rows.specs.Rows.{rows_held, refused, write_into, write_outcome, Outcome}
use Rattle.rows.specs.laws.Storing.{measure_of, Writable, Going, Next, step, some_left, none_left, same_going, finish, stored_fits, stored_short}
use Rattle.rows.specs.laws.RowLaws.{row_next, more_rows, no_more_rows}
use Rattle.number.specs.Wrote.{Wrote}

pub record Emitting (rows bytes₀ bytes : List ℕ) (n out : ℕ) : Type 0 where
  pub all : List Entry
  pub held : rows_held rows ≡ entries all
  pub fits : length (bytes_of all) ≤ length bytes₀
  pub going : Going (λ i. leb (i + 4) (length rows)) (row_at rows) entry_bytes bytes₀ all bytes (4 * n) out

-- before the first row
pub emits : (rows bytes : List ℕ) → Writable (rows_held rows) bytes → Emitting rows bytes bytes 0 0
unfolding rows_held
emits rows bytes w = record {
  all = w.all;
  held = w.held;
  fits = w.room;
  going = record { left = entry_limit; n = 0; st = fresh; rest = w.all; held = w.held; same = refl; room = omega (arith, w.room); long = refl };
}

module _ (rows bytes₀ bytes : List ℕ) (n out : ℕ) (w : Emitting rows bytes₀ bytes n out) where
  -- the entry that is next
  waits : n < length rows / 4 → Next (λ i. leb (i + 4) (length rows)) (row_at rows) entry_bytes bytes₀ w.all bytes (4 * n) out (length w.going.rest)
  waits l = step (λ i. leb (i + 4) (length rows)) (row_at rows) entry_bytes bytes₀ w.all bytes (4 * n) out w.going
      (some_left (λ i. leb (i + 4) (length rows)) (row_at rows) entry_bytes bytes₀ w.all bytes (4 * n) out w.going (more_rows rows n l))

  pub emits_ok : n < length rows / 4 → IsOk (row_at rows (4 * n))
  emits_ok l = rw (waits l).is refl

  pub emits_room : (e : Entry) (next : ℕ) → n < length rows / 4 → row_at rows (4 * n) ≡ Ok (e, next) → out + length (entry_bytes e) ≤ length bytes
  emits_room e next l f = let x = waits l in let y = x.is in let same = (same_read (sym y ∙ f)).0 in rw (← same) x.room

  pub emits_on : (e : Entry) (next : ℕ) (bytes' : List ℕ) (out' : ℕ) → n < length rows / 4 → row_at rows (4 * n) ≡ Ok (e, next)
      → Wrote bytes out (entry_bytes e) out' bytes' → Emitting rows bytes₀ bytes' (n + 1) out'
  emits_on e next bytes' out' l f r =
      let x = waits l in
      let y = x.is in
      let same : x.e ≡ e = (same_read (sym y ∙ f)).0 in
      let after : x.next ≡ 4 * (n + 1) = row_next rows (4 * n) x.e x.next y ∙ omega arith in
      let place : out + length (entry_bytes x.e) ≡ out' = ap (λ (z : Entry). out + length (entry_bytes z)) same ∙ sym r.place in
      let stored : sets bytes out (entry_bytes x.e) ≡ bytes' = ap (λ (z : Entry). sets bytes out (entry_bytes z)) same ∙ sym r.list in
      record {
        all = w.all;
        held = w.held;
        fits = w.fits;
        going = same_going (λ i. leb (i + 4) (length rows)) (row_at rows) entry_bytes bytes₀ w.all x.going stored after place;
      }

  pub emits_long : length bytes ≡ length bytes₀
  emits_long = w.going.long

  pub emits_end : length rows / 4 ≤ n → bytes ≡ (write_outcome rows bytes₀).lent
  unfolding write_into
  emits_end l =
      let none = none_left (λ i. leb (i + 4) (length rows)) (row_at rows) entry_bytes bytes₀ w.all bytes (4 * n) out w.going (no_more_rows rows n l) in
      let e = finish (λ i. leb (i + 4) (length rows)) (row_at rows) entry_bytes bytes₀ w.all bytes (4 * n) out w.going none w.fits in
      e ∙ sym (ap (λ h. (write_into h bytes₀).lent) w.held ∙ ap (λ (o : Outcome). o.lent) (stored_fits (bytes_of w.all) (length (bytes_of w.all)) bytes₀ w.fits))

-- ---- the writer's answer, by what was measured

measure_held : (h : Held) (n : ℕ) → measure_of h ≡ Ok n → (es : List Entry) × ((h ≡ entries es) × (length (bytes_of es) ≡ n))
unfolding measure_of
measure_held (entries es) n p = (es, (refl, cc))
measure_held (fault k m) n p = let z : ◌≡◌ {A = ℕ} 0 1 = cc in absurd (omega arith)

pub write_refused : (h : Held) (k : Refusal) (n : ℕ) (d : List ℕ) → measure_of h ≡ Err (k, n) → write_into h d ≡ refused k n d
unfolding measure_of write_into
write_refused (entries es) k n d p = let z : ◌≡◌ {A = ℕ} 0 1 = cc in absurd (omega arith)
write_refused (fault j m) k n d p = let e = same_fault p in ap₂ (λ (x : Refusal) (y : ℕ). refused x y d) e.0 e.1

module _ (h : Held) (n : ℕ) (d : List ℕ) (p : measure_of h ≡ Ok n) where
  pub write_short : length d < n → write_into h d ≡ refused TooShort 0 d
  unfolding write_into
  write_short l =
      let w = measure_held h n p in
      ap (λ (x : Held). write_into x d) w.1.0 ∙ stored_short (bytes_of w.0) (length (bytes_of w.0)) d (omega (arith, w.1.1))

  pub write_writable : n ≤ length d → Writable h d
  write_writable l = let w = measure_held h n p in record { all = w.0; held = w.1.0; room = omega (arith, w.1.1) }

  pub write_all : n ≤ length d → (write_into h d).answer ≡ Ok n
  unfolding write_into
  write_all l =
      let w = measure_held h n p in
      ap (λ (x : Held). (write_into x d).answer) w.1.0
      ∙ ap (λ (o : Outcome). o.answer) (stored_fits (bytes_of w.0) (length (bytes_of w.0)) d (omega (arith, w.1.1)))
      ∙ ap Ok w.1.1
