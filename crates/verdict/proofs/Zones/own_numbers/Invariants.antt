-- `verdict::Zones::own_numbers` meets its contract. The invariant: each place before i holds its own number, and the least stops stay. Assumes nothing.
use Rattle.std.proofs.Common.{◌≡◌}
use Rattle.clusters.specs.laws.Arrays.{OwnNumbers}
use Rattle.verdict.proofs.Zones.own_numbers.Given as goal

abbrev pub invariant-loop-i : goal.invariant-loop-i
invariant-loop-i l = OwnNumbers l.i l.self.most × (l.self.least ≡ l.initial.self.least)
