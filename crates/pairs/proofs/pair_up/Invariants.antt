-- `pairs::pair_up` meets its contract. The invariant: the entries read so far, their operations in the arrays, and what is held from here on.
-- Assumes nothing.
use Rattle.pairs.specs.laws.Pairing.{Pairing}
use Rattle.pairs.proofs.pair_up.Given as goal

abbrev pub invariant-loop-n : goal.invariant-loop-n
invariant-loop-n l = Pairing l.s l.entries.kinds l.entries.cells l.entries.values l.entries.starts l.opened l.st l.at l.n
