use Rattle.std.proofs.Common.{arith}
use Rattle.quorum.proofs.theorems.LowestMember.{rest_less}
use Rattle.runs.specs.laws.Sending.{sending_place, sending_more}
use Rattle.runs.specs.laws.Loop.{shipping_more}
use Rattle.schedule.proofs.send.Goals as goal

pub bounds-rack-slot : goal.bounds-rack-slot
bounds-rack-slot c =
    sending_place _ _ _ _ _ _ _ c.loop-left.invariant.send c.loop-left-test.true _ _ (c.take-slot.ensures.1 _ c.loop-left.invariant.send.tied)

pub loop-left-smaller : goal.loop-left-smaller
loop-left-smaller c = omega (arith, c.rest-left.ensures, rest_less _ c.loop-left-test.true)

pub loop-left-preserved : goal.loop-left-preserved
loop-left-preserved c =
    shipping_more _ _ _ _ _ _ c.loop-left.invariant _ _ _
    (sending_more _ _ _ _ _ _ _ c.loop-left.invariant.send c.loop-left-test.true _ _ _ _ _ (c.take-slot.ensures.1 _ c.loop-left.invariant.send.tied)
    (λ i. (c.lowest-k.ensures i).0) c.rest-left.ensures c.message_to.ensures)
