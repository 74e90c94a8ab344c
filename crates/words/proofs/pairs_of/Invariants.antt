-- `words::pairs_of` meets its contract.
use Rattle.std.proofs.Common.{◌≡◌, ◌++◌, drop}
use Rattle.layout.specs.Layout.{pair_place, firsts}
use Rattle.layout.specs.Reading.{pair_in}
use Rattle.words.proofs.pairs_of.Given as goal

abbrev pub invariant-loop-i : goal.invariant-loop-i
invariant-loop-i l = l.pairs ≡ firsts l.i (λ j. pair_in l.words (pair_place j)) ++ drop l.i l.initial.pairs
