-- `show::put_members` meets its contract. The loop's invariant: the members below the next number are written. Assumes nothing.
use Rattle.std.proofs.Common.{◌≡◌}
use Rattle.text.specs.Pages.{with_text}
use Rattle.lines.specs.Lines.{each_below, member_text}
use Rattle.show.proofs.put_members.Given as goal

abbrev pub invariant-loop-k : goal.invariant-loop-k
invariant-loop-k l = l.page ≡ with_text l.initial.page (each_below l.k (λ j. member_text l.set j))
