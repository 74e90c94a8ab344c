-- `number::write_groups` meets its contract. The loop's invariant: writing what is left of the number here gives what writing all of it at first gives.
-- Assumes nothing.
use Rattle.number.specs.Number.{number_bytes}
use Rattle.number.proofs.Laws.{WritesOn}
use Rattle.number.proofs.write_groups.Given as goal

abbrev pub invariant-loop-m : goal.invariant-loop-m
invariant-loop-m l = WritesOn l.initial.buf l.at (number_bytes l.n) l.buf l.i l.m

abbrev pub decreases-loop-m : goal.decreases-loop-m
decreases-loop-m l = l.m
