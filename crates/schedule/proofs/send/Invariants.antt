-- What was sent, and the slots and the replicas that are left.
use Rattle.runs.specs.laws.Loop.{Shipping}
use Rattle.schedule.proofs.send.Given as goal

abbrev pub invariant-loop-left : goal.invariant-loop-left
invariant-loop-left l = Shipping l.initial.rack l.message l.to l.rack l.map l.left

abbrev pub decreases-loop-left : goal.decreases-loop-left
decreases-loop-left l = l.left
