-- `words::wire_of` meets its contract.
use Rattle.std.proofs.Common.{◌≡◌, ◌++◌, drop}
use Rattle.layout.specs.Layout.{slot_place, firsts}
use Rattle.layout.specs.Reading.{slot_in}
use Rattle.words.proofs.wire_of.Given as goal

abbrev pub invariant-loop-i : goal.invariant-loop-i
invariant-loop-i l = l.wire ≡ firsts l.i (λ j. slot_in l.words (slot_place j)) ++ drop l.i l.initial.wire
