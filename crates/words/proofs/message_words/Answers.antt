-- `words::message_words` meets its contract.
use Rattle.std.proofs.Common.{rules}
use Rattle.layout.specs.Writing.{slot_words}
use Rattle.words.proofs.Writing.{three}
use Rattle.words.proofs.message_words.Goals as goal

pub returns : goal.returns
unfolding slot_words
returns c = rw (three c.body_words.result (search rules), c.body_words.ensures, c.body_kind.ensures) (search rules)
