-- `script::check_events` meets its contract. The invariant: the first fault from here on is the first fault. The measure is how many bytes are left.
use Rattle.std.proofs.Common.{◌-◌, ◌≡◌, length, Ok}
use Rattle.script.specs.Script.{events_from, unless_fault}
use Rattle.script.proofs.check_events.Given as goal

abbrev pub invariant-loop-at : goal.invariant-loop-at
invariant-loop-at l = unless_fault (events_from l.s l.first) (Ok (tt {0})) ≡ unless_fault (events_from l.s l.at) (Ok (tt {0}))

abbrev pub decreases-loop-at : goal.decreases-loop-at
decreases-loop-at l = length l.s - l.at
