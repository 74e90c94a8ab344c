-- `words::parties_of` meets its contract.
use Rattle.std.proofs.Common.{◌≡◌, ◌++◌, drop}
use Rattle.layout.specs.Layout.{party_place, firsts}
use Rattle.layout.specs.Reading.{party_in}
use Rattle.words.proofs.parties_of.Given as goal

abbrev pub invariant-loop-i : goal.invariant-loop-i
invariant-loop-i l = l.parties ≡ firsts l.i (λ j. party_in l.words (party_place j)) ++ drop l.i l.initial.parties
