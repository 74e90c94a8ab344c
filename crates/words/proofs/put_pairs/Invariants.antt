-- `words::put_pairs` meets its contract.
use Rattle.std.proofs.Common.{◌≡◌, get_or}
use Rattle.stamps.specs.Stamp.{fresh_pair}
use Rattle.layout.specs.Layout.{pair_place}
use Rattle.layout.specs.Writing.{pair_written, put_firsts}
use Rattle.words.proofs.put_pairs.Given as goal

abbrev pub invariant-loop-i : goal.invariant-loop-i
invariant-loop-i l = l.words ≡ put_firsts l.i pair_place (λ j. pair_written l.rack.settings.cells j (get_or l.rack.pairs j fresh_pair)) l.initial.words
