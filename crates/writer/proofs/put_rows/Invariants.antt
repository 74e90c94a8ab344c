-- `writer::put_rows` meets its contract. The invariant: n rows are written, and writing the rest gives what writing all gives.
-- Assumes nothing.
use Rattle.writer.proofs.Emitting.{Emitting}
use Rattle.writer.proofs.put_rows.Given as goal

abbrev pub invariant-loop-n : goal.invariant-loop-n
invariant-loop-n l = Emitting l.rows l.initial.bytes l.bytes l.n l.out
