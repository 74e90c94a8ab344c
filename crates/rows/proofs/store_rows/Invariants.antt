-- `rows::store_rows` meets its contract. The invariant: i entries are stored, and storing the rest gives what storing all gives.
-- Assumes nothing.
use Rattle.rows.proofs.Filling.{Filling}
use Rattle.rows.proofs.store_rows.Given as goal

abbrev pub invariant-loop-i : goal.invariant-loop-i
invariant-loop-i l = Filling l.s l.initial.rows l.n l.rows l.at l.i
