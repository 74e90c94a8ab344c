-- `words::wire_of` meets its contract.
use Rattle.std.proofs.Common.{refl, rules, arith}
use Rattle.rack.specs.Places.{slot_limit}
use Rattle.layout.specs.Layout.{firsts}
use Rattle.words.proofs.Reading.{fill_more, fill_whole}
use Rattle.words.proofs.wire_of.Goals as goal

pub loop-i-init : goal.loop-i-init
unfolding firsts
loop-i-init c = refl

pub loop-i-preserved : goal.loop-i-preserved
loop-i-preserved c = fill_more _ _ _ c.loop-i.i _ c.loop-i.invariant (omega arith) c.slot_at.ensures

pub returns : goal.returns
returns c = fill_whole _ _ _ c.loop-i.i slot_limit c.loop-i.invariant (search rules) (omega arith)
