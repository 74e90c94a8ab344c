use Rattle.slots.specs.laws.UpTo.{upto_start}
use Rattle.std.proofs.Common.{rules}
use Rattle.rack.specs.Places.{room_of}
use Rattle.runs.specs.laws.Sending.{map_next, map_all}
use Rattle.schedule.proofs.Laws.{holds_none}
use Rattle.schedule.proofs.free_of.Goals as goal

pub loop-i-init : goal.loop-i-init
loop-i-init c = upto_start _

pub loop-i-preserved : goal.loop-i-preserved
loop-i-preserved c = map_next _ _ _ _ (holds_none _ _ c.is_none.ensures) (c.mark.ensures _ c.loop-i.invariant)

pub returns : goal.returns
unfolding room_of
returns c =
    let t = map_all _ _ _ (search rules) (search rules) c.loop-i.invariant in
    (t, c.count.ensures.1 _ t)
