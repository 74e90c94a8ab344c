-- The slots below i are in the map.
use Rattle.slots.specs.Words.{Maps}
use Rattle.slots.specs.laws.UpTo.{free_below}
use Rattle.rack.specs.Places.{free_at}
use Rattle.schedule.proofs.free_of.Given as goal

abbrev pub invariant-loop-i : goal.invariant-loop-i
invariant-loop-i l = Maps (free_below l.i (free_at l.rack.wire)) l.map
