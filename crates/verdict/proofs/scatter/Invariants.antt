-- `verdict::scatter` meets its contract. The invariant: the writes before p stand at their places. Assumes nothing.
use Rattle.clusters.specs.laws.Arrays.{Scattered}
use Rattle.verdict.proofs.scatter.Given as goal

abbrev pub invariant-loop-p : goal.invariant-loop-p
invariant-loop-p l = Scattered l.entries l.n l.zones.least l.zones.most l.p l.at
