-- `words::lines_of` meets its contract.
use Rattle.std.proofs.Common.{◌≡◌, ◌++◌, drop}
use Rattle.layout.specs.Layout.{entry_place, firsts}
use Rattle.layout.specs.Reading.{line_in}
use Rattle.words.proofs.lines_of.Given as goal

abbrev pub invariant-loop-i : goal.invariant-loop-i
invariant-loop-i l = l.lines ≡ firsts l.i (λ j. line_in l.words (entry_place j)) ++ drop l.i l.initial.lines
