-- `show::put_replicas` meets its contract. The loop's invariant: the lines of the replicas before the next are written. Assumes nothing.
use Rattle.std.proofs.Common.{◌≡◌}
use Rattle.text.specs.Pages.{with_text}
use Rattle.lines.specs.Lines.{each_below, replica_line}
use Rattle.show.proofs.put_replicas.Given as goal

abbrev pub invariant-loop-k : goal.invariant-loop-k
invariant-loop-k l = l.page ≡ with_text l.initial.page (each_below l.k (λ j. replica_line l.rack j))
