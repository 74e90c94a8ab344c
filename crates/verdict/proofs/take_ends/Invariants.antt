-- `verdict::take_ends` meets its contract. The invariant: the sums are those of the entries before p. Assumes nothing.
use Rattle.clusters.specs.laws.Arrays.{Tally}
use Rattle.verdict.proofs.take_ends.Given as goal

abbrev pub invariant-loop-p : goal.invariant-loop-p
invariant-loop-p l = Tally l.entries l.n l.p l.zones.least l.zones.most l.cells.reach l.cells.bad
