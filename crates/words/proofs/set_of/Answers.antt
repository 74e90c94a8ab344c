-- `words::set_of` meets its contract.
use Rattle.std.proofs.Common.{◌∙◌}
use Rattle.quorum.specs.Sets.{set_bits}
use Rattle.layout.specs.Reading.{set_of}
use Rattle.words.proofs.Reading.{smaller}
use Rattle.words.proofs.set_of.Goals as goal

pub returns : goal.returns
unfolding set_of set_bits
returns c = c.unwrap_or.ensures ∙ smaller 65536 65535 c.args.word c.try_from.result c.try_from.ensures
