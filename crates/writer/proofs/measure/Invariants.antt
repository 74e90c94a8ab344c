-- `writer::measure` meets its contract. The invariant: what is held from here on, with the bytes counted, is what is held in all.
-- Assumes nothing.
use Rattle.std.proofs.Common.{◌+◌, ◌*◌, ◌≤◌, length, leb}
use Rattle.record.specs.Entry.{entry_bytes}
use Rattle.record.specs.laws.Steps.{Counting}
use Rattle.rows.specs.Row.{row_at}
use Rattle.rows.specs.Rows.{rows_held}
use Rattle.writer.proofs.measure.Given as goal

abbrev pub invariant-loop-n : goal.invariant-loop-n
invariant-loop-n l = Counting (λ i. leb (i + 4) (length l.rows)) (row_at l.rows) (λ e. length (entry_bytes e)) (rows_held l.rows) (4 * l.n) l.n l.sum l.st × (l.sum ≤ 20 * l.n)
