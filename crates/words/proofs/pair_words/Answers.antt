-- `words::pair_words` meets its contract.
use Rattle.std.proofs.Common.{rules}
use Rattle.layout.specs.Writing.{pair_words}
use Rattle.number.specs.laws.ValueLaws.{alternating_of_bits}
use Rattle.words.proofs.pair_words.Goals as goal

pub returns : goal.returns
unfolding pair_words
returns c = rw (alternating_of_bits c.args.pair.value c.alternating.result (search rules) c.alternating.ensures) (search rules)
