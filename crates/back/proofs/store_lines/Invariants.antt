-- `back::store_lines` meets its contract. The invariant: the rows of the first i lines are stored. Assumes nothing.
use Rattle.back.specs.laws.Lines.{Stored}
use Rattle.back.proofs.store_lines.Given as goal

abbrev pub invariant-loop-i : goal.invariant-loop-i
invariant-loop-i l = Stored l.initial.rows l.rack.lines l.n l.rows l.i
