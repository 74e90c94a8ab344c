-- `quorum::every` meets its contract: as far as there are bits by a shift, from there on all of them.
use Rattle.quorum.specs.Sets.{set_bits}
use Rattle.quorum.proofs.Laws.{every_more, every_fewer, shl_pos}
use Rattle.quorum.proofs.every.Goals as goal

pub returns-then-n-ge-SET_BITS : goal.returns-then-n-ge-SET_BITS
unfolding set_bits
returns-then-n-ge-SET_BITS c = every_more c.args.n c.if-n-ge-SET_BITS.true

pub overflow_sub-result : goal.overflow_sub-result
unfolding set_bits
overflow_sub-result c = shl_pos c.args.n c.if-n-ge-SET_BITS.false

pub returns : goal.returns
unfolding set_bits
returns c = every_fewer c.args.n c.if-n-ge-SET_BITS.false
