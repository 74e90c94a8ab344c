-- `quorum::within` meets its contract: with as many replicas as there are bits, or more, every set is one of theirs.
use Rattle.std.proofs.Common.{rules}
use Rattle.quorum.specs.Sets.{set_bits}
use Rattle.quorum.proofs.Laws.{within_more, within_fewer}
use Rattle.quorum.proofs.within.Goals as goal

pub returns-then-n-ge-SET_BITS : goal.returns-then-n-ge-SET_BITS
unfolding set_bits
returns-then-n-ge-SET_BITS c = within_more c.args.n c.args.set (search rules) c.if-n-ge-SET_BITS.true

pub returns-else-n-ge-SET_BITS : goal.returns-else-n-ge-SET_BITS
unfolding set_bits
returns-else-n-ge-SET_BITS c = within_fewer c.args.n c.args.set c.if-n-ge-SET_BITS.false
