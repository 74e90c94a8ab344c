-- `words::put_wire` meets its contract.
use Rattle.std.proofs.Common.{◌≡◌}
use Rattle.rack.specs.Places.{held_at}
use Rattle.layout.specs.Layout.{slot_place}
use Rattle.layout.specs.Writing.{slot_words, put_firsts}
use Rattle.words.proofs.put_wire.Given as goal

abbrev pub invariant-loop-i : goal.invariant-loop-i
invariant-loop-i l = l.words ≡ put_firsts l.i slot_place (λ j. slot_words (held_at l.rack j)) l.initial.words
