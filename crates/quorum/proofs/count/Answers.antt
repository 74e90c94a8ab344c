-- `quorum::count` meets its contract: a set has no more ones than bits.
use Rattle.std.proofs.Common.{refl, rules}
use lib.Count.{ones-le}
use Rattle.quorum.specs.Sets.{set_bits}
use Rattle.quorum.proofs.count.Goals as goal

pub returns : goal.returns
unfolding set_bits
returns c = (refl, ones-le set_bits _ (search rules))
