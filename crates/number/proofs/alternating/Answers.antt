-- `number::alternating` meets its contract: a test of the sign says which natural number the value or -1 - v is. Assumes nothing.
use Rattle.std.proofs.Common.{sym, ap}
use Rattle.number.specs.Value.{alternating_of}
use Rattle.number.proofs.Signs.{below, not_below}
use Rattle.number.proofs.alternating.Goals as goal

pub returns-then-v-lt0 : goal.returns-then-v-lt0
unfolding alternating_of
returns-then-v-lt0 c =
    let d = below c.args.v c.ranges.v c.if-v-lt0.true in
    simp d.back (sym (ap alternating_of d.is))

pub returns-else-v-lt0 : goal.returns-else-v-lt0
unfolding alternating_of
returns-else-v-lt0 c =
    let d = not_below c.args.v c.ranges.v c.if-v-lt0.false in
    simp d.back (sym (ap alternating_of d.is))
