-- `quorum::has` meets its contract: a set has no replica beyond its bits.
use Rattle.std.proofs.Common.{refl, rules}
use Rattle.quorum.proofs.Laws.{has_no_bit}
use Rattle.quorum.specs.Sets.{set_bits, has_replica}
use Rattle.quorum.proofs.has.Goals as goal

pub returns-else-k-lt-SET_BITS : goal.returns-else-k-lt-SET_BITS
unfolding set_bits
returns-else-k-lt-SET_BITS c = has_no_bit c.args.set c.args.k.0 (search rules) c.if-k-lt-SET_BITS.false

pub returns-then-k-lt-SET_BITS : goal.returns-then-k-lt-SET_BITS
unfolding has_replica
returns-then-k-lt-SET_BITS c = refl
