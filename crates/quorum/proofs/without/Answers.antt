-- `quorum::without` meets its contract: a member has its bit in the set, and it can be taken away.
use Rattle.std.proofs.Common.{◌∙◌, sym, rules}
use Rattle.quorum.specs.Sets.{set_bits}
use Rattle.quorum.proofs.Laws.{has_low, bit_fits, without_bit, without_none}
use Rattle.quorum.proofs.without.Goals as goal

pub overflow_shl-result : goal.overflow_shl-result
unfolding set_bits
overflow_shl-result c = has_low c.args.set c.args.k.0 (search rules) (sym c.has.ensures ∙ c.if-has.true)

pub overflow_sub-result : goal.overflow_sub-result
unfolding set_bits
overflow_sub-result c = bit_fits c.args.set c.args.k.0 (search rules) (sym c.has.ensures ∙ c.if-has.true)

pub returns-then-has : goal.returns-then-has
unfolding set_bits
returns-then-has c = without_bit c.args.set c.args.k.0 (search rules) (sym c.has.ensures ∙ c.if-has.true)

pub returns : goal.returns
returns c = without_none c.args.set c.args.k.0 (sym c.has.ensures ∙ c.if-has.false)
