-- `show::put_wire` meets its contract. The loop's invariant: the lines of the slots before the next are written. Assumes nothing.
use Rattle.std.proofs.Common.{◌≡◌}
use Rattle.text.specs.Pages.{with_text}
use Rattle.rack.specs.Places.{held_at}
use Rattle.lines.specs.Lines.{each_below, slot_line}
use Rattle.show.proofs.put_wire.Given as goal

abbrev pub invariant-loop-i : goal.invariant-loop-i
invariant-loop-i l = l.page ≡ with_text l.initial.page (each_below l.i (λ j. slot_line j (held_at l.rack j)))
