-- `quorum::with` meets its contract.
use Rattle.quorum.specs.Sets.{set_bits}
use Rattle.quorum.proofs.Laws.{with_no_bit, with_bit}
use Rattle.quorum.proofs.with.Goals as goal

pub returns-then-k-ge-SET_BITS : goal.returns-then-k-ge-SET_BITS
unfolding set_bits
returns-then-k-ge-SET_BITS c = with_no_bit c.args.set c.args.k.0 c.if-k-ge-SET_BITS.true

pub returns : goal.returns
unfolding set_bits
returns c = with_bit c.args.set c.args.k.0 c.if-k-ge-SET_BITS.false
