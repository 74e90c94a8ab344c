-- `words::operation_words` meets its contract.
use Rattle.std.proofs.Common.{rules}
use Rattle.layout.specs.Writing.{operation_words}
use Rattle.words.proofs.Writing.{three, five}
use Rattle.words.proofs.operation_words.Goals as goal

pub returns : goal.returns
unfolding operation_words
returns c =
    rw (
      three c.held_words.result (search rules),
      five c.open_words.result c.held_words.result (search rules),
      c.held_words.ensures,
      c.open_words.ensures,
      c.phase_word-phase.ensures,
    )
