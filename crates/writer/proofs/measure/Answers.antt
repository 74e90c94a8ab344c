use Rattle.std.specs.Prelude.{None, Ok}
use Rattle.std.proofs.Common.{ℕ, ◌+◌, ◌*◌, ◌/◌, ◌<◌, ◌≡◌, refl, sym, ◌∙◌, arith, length, leb, List}
use Rattle.record.specs.Entry.{entry_bytes}
use Rattle.record.specs.Record.{entry_limit, fault_after, standing_after}
use Rattle.record.specs.declared.Entry.{Entry}
use Rattle.record.specs.declared.Standing.{Standing}
use Rattle.record.proofs.theorems.EntryTrip.{entry_most}
use Rattle.record.specs.laws.Steps.{Counting, counts_end, counts_full, counts_unread, counts_misplaced, counts_on}
use Rattle.rows.specs.laws.RowLaws.{row_next, more_rows, no_more_rows, measure_tally}
use Rattle.rows.specs.Row.{row_at}
use Rattle.rows.specs.Rows.{rows_held}
use Rattle.writer.proofs.measure.Goals as goal

-- a row more is counted
measures_on : (rows : List ℕ) (n sum : ℕ) (st st' : Standing) (e : Entry) (next long : ℕ)
    → Counting (λ i. leb (i + 4) (length rows)) (row_at rows) (λ f. length (entry_bytes f)) (rows_held rows) (4 * n) n sum st
    → n < length rows / 4 → (n ≡ entry_limit → ⊥) → row_at rows (4 * n) ≡ Ok (e, next) → fault_after st e ≡ None → st' ≡ standing_after st e → long ≡ length (entry_bytes e)
    → Counting (λ i. leb (i + 4) (length rows)) (row_at rows) (λ f. length (entry_bytes f)) (rows_held rows) (4 * (n + 1)) (n + 1) (sum + long) st'
measures_on rows n sum st st' e next long k l m f z p q =
    let place : next ≡ 4 * (n + 1) = row_next rows (4 * n) e next f ∙ omega arith in
    rw (← place, p, q) (counts_on (λ i. leb (i + 4) (length rows)) (row_at rows) (λ f. length (entry_bytes f)) (rows_held rows) (4 * n) n sum st k e next (more_rows rows n l) m f z)

pub loop-n-init : goal.loop-n-init
unfolding rows_held
loop-n-init c = rw c.fresh-st.ensures (record { left = entry_limit; limit = refl; same = refl }, omega arith)

pub returns-then-n-eq-ENTRY_LIMIT : goal.returns-then-n-eq-ENTRY_LIMIT
returns-then-n-eq-ENTRY_LIMIT c =
    counts_full _ _ _ _ _ _ _ _ c.loop-n.invariant.0 (more_rows c.args.rows.now _ c.loop-n-test.true)
    c.if-n-eq-ENTRY_LIMIT.true ∙ sym (measure_tally _)

pub returns-in-Err : goal.returns-in-Err
returns-in-Err c =
    counts_unread _ _ _ _ _ _ _ _ c.loop-n.invariant.0 _ (more_rows c.args.rows.now _ c.loop-n-test.true)
    c.if-n-eq-ENTRY_LIMIT.false c.in-Err.ensures ∙ sym (measure_tally _)

pub returns-in-Some : goal.returns-in-Some
returns-in-Some c =
    counts_misplaced _ _ _ _ _ _ _ _ c.loop-n.invariant.0 _ _ _ (more_rows c.args.rows.now _ c.loop-n-test.true)
    c.if-n-eq-ENTRY_LIMIT.false c.in-Ok.ensures (sym c.in-Some.ensures) ∙ sym (measure_tally _)

pub overflow_add-sum : goal.overflow_add-sum
overflow_add-sum c =
    omega (
      arith,
      c.entry_length-sum.ensures,
      entry_most c.in-Ok.e,
      c.loop-n.invariant.1,
      c.loop-n.invariant.0.limit,
    )

pub loop-n-preserved : goal.loop-n-preserved
loop-n-preserved c = (
  measures_on _ _ _ _ _ _ _ _ c.loop-n.invariant.0 c.loop-n-test.true c.if-n-eq-ENTRY_LIMIT.false
      c.in-Ok.ensures (sym c.in_default.ensures) c.after-st.ensures c.entry_length-sum.ensures,
  omega (
    arith,
    c.entry_length-sum.ensures,
    entry_most c.in-Ok.e,
    c.loop-n.invariant.1,
  ),
)

pub returns : goal.returns
returns c =
    counts_end _ _ _ _ _ _ _ _ c.loop-n.invariant.0 (no_more_rows c.args.rows.now _ c.loop-n-test.false)
    ∙ sym (measure_tally _)
