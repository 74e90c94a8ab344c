-- `quorum::others` meets its contract.
use lib.Bits.{and_le_l}
use Rattle.quorum.specs.Sets.{others}
use Rattle.quorum.proofs.others.Goals as goal

pub overflow_sub-result : goal.overflow_sub-result
overflow_sub-result c = and_le_l c.every-all.result c.args.set

pub returns : goal.returns
unfolding others
returns c = rw c.every-all.ensures
