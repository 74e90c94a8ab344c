-- The answers owed so far are those of the clients that were looked at.
use Rattle.std.proofs.Common.{◌≤◌, ◌≡◌}
use Rattle.rack.specs.Sound.{owed_in}
use Rattle.rack.proofs.owed.owed_by_all.Given as goal

abbrev pub invariant-loop-party : goal.invariant-loop-party
invariant-loop-party l = (l.owed ≡ owed_in l.party-index l.fn.parties) × (l.owed ≤ l.party-index)
