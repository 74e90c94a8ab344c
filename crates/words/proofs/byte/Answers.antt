-- `words::byte` meets its contract.
use Rattle.std.proofs.Common.{◌∙◌}
use Rattle.layout.specs.Reading.{byte_of}
use Rattle.words.proofs.Reading.{smaller}
use Rattle.words.proofs.byte.Goals as goal

pub returns : goal.returns
unfolding byte_of
returns c = c.unwrap_or.ensures ∙ smaller 256 255 c.args.word c.try_from.result c.try_from.ensures
