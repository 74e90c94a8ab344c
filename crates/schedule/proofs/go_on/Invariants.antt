-- After i events: running on from here gives the whole run.
use Rattle.runs.specs.laws.Loop.{Going}
use Rattle.schedule.proofs.go_on.Given as goal

abbrev pub invariant-loop-i : goal.invariant-loop-i
invariant-loop-i l = Going l.fn.rack l.allowance l.events l.rack l.free.map l.free.room l.i
