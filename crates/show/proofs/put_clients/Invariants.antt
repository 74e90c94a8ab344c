-- `show::put_clients` meets its contract. The loop's invariant: the lines of the clients before the next are written. Assumes nothing.
use Rattle.std.proofs.Common.{◌≡◌}
use Rattle.text.specs.Pages.{with_text}
use Rattle.rack.specs.Places.{party_at}
use Rattle.lines.specs.Lines.{each_below, client_line}
use Rattle.show.proofs.put_clients.Given as goal

abbrev pub invariant-loop-i : goal.invariant-loop-i
invariant-loop-i l = l.page ≡ with_text l.initial.page (each_below l.i (λ j. client_line j (party_at l.rack j)))
