-- `quorum::rest` meets its contract: the lowest replica of a set that has some has its bit in it, and that can be taken away.
use Rattle.std.proofs.Common.{rules}
use Rattle.quorum.specs.Sets.{set_bits}
use Rattle.quorum.proofs.Laws.{rest_none, lowest_low, rest_room, rest_is}
use Rattle.quorum.proofs.rest.Goals as goal

pub returns-then-set-eq0 : goal.returns-then-set-eq0
returns-then-set-eq0 c = rest_none _ c.if-set-eq0.true

pub overflow_shl-result : goal.overflow_shl-result
unfolding set_bits
overflow_shl-result c = lowest_low c.args.set _ (search rules) c.if-set-eq0.false (λ i. (c.lowest.ensures i).0)

pub overflow_sub-result : goal.overflow_sub-result
unfolding set_bits
overflow_sub-result c = rest_room c.args.set _ (search rules) c.if-set-eq0.false (λ i. (c.lowest.ensures i).0)

pub returns : goal.returns
unfolding set_bits
returns c = rest_is c.args.set _ (search rules) c.if-set-eq0.false (λ i. (c.lowest.ensures i).0)
