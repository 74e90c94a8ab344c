-- `script::fill` meets its contract. Assumes nothing.
use Rattle.std.proofs.Common.{◌/◌, length}
use Rattle.script.proofs.Filling.{Filling}
use Rattle.script.proofs.fill.Given as goal

abbrev pub invariant-loop-i : goal.invariant-loop-i
invariant-loop-i l = Filling l.s l.at (length l.initial.words / 4) l.initial.words l.words l.i l.next
