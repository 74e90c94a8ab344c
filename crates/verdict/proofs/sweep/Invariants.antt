-- `verdict::sweep` meets its contract. The invariant: the places before p are swept. Assumes nothing.
use Rattle.clusters.specs.laws.Arrays.{Sweeping}
use Rattle.verdict.proofs.sweep.Given as goal

abbrev pub invariant-loop-p : goal.invariant-loop-p
invariant-loop-p l = Sweeping l.entries l.n l.zones.least l.zones.most l.initial.cells.reach l.initial.cells.bad l.p l.cells.reach l.cells.bad
