-- `words::put_lines` meets its contract.
use Rattle.std.proofs.Common.{◌≡◌}
use Rattle.rows.specs.Row.{row_of}
use Rattle.layout.specs.Layout.{entry_place}
use Rattle.layout.specs.Writing.{entry_in, put_firsts}
use Rattle.words.proofs.put_lines.Given as goal

abbrev pub invariant-loop-i : goal.invariant-loop-i
invariant-loop-i l = l.words ≡ put_firsts l.i entry_place (λ j. row_of (entry_in l.rack.lines j)) l.initial.words
