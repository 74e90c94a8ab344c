-- `show::put_pairs` meets its contract. The loop's invariant: the pairs for the cells before the next are written. Assumes nothing.
use Rattle.std.proofs.Common.{◌≡◌, ◌++◌}
use Rattle.text.specs.Pages.{with_text}
use Rattle.rack.specs.Places.{pair_at}
use Rattle.lines.specs.Words.{space}
use Rattle.lines.specs.Lines.{each_below, pair_text}
use Rattle.show.proofs.put_pairs.Given as goal

abbrev pub invariant-loop-x : goal.invariant-loop-x
invariant-loop-x l = l.page ≡ with_text l.initial.page (each_below l.x (λ y. space ++ pair_text (pair_at l.rack l.k.0 y)))
