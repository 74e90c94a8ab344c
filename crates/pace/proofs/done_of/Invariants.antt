-- No more are done than were tried.
use Rattle.std.proofs.Common.{◌≤◌}
use Rattle.pace.proofs.done_of.Given as goal

abbrev pub invariant-loop-i : goal.invariant-loop-i
invariant-loop-i l = l.done ≤ l.i
