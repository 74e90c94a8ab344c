-- `words::open_words` meets its contract.
use Rattle.std.proofs.Common.{rules}
use Rattle.layout.specs.Writing.{open_words}
use Rattle.number.specs.laws.ValueLaws.{alternating_of_bits}
use Rattle.words.proofs.open_words.Goals as goal

pub returns-in-Write : goal.returns-in-Write
unfolding open_words
returns-in-Write c =
    rw (c.in-Write.is, alternating_of_bits c.in-Write.v c.alternating.result (search rules) c.alternating.ensures) (search rules)
