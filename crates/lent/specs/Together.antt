-- Two calls taken together.
use Rattle.std.specs.Prelude.{◌+◌}
use Rattle.layout.specs.Calls.{WordsOutcome, answer_of}

-- two calls, one after the other: the events done by both, the refusal that stopped the second, and the words that it left
unfoldable pub together : WordsOutcome → WordsOutcome → WordsOutcome
together first second = record { answer = answer_of (first.answer.done + second.answer.done) second.answer.refusal; lent = second.lent }
