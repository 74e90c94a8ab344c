-- `words::held_at` meets its contract.
use Rattle.std.proofs.Common.{sym, ◌∙◌, rules}
use Rattle.words.proofs.Reading.{message_op}
use Rattle.words.proofs.held_at.Goals as goal

pub full_at-requires : goal.full_at-requires
full_at-requires c = (search rules, message_op _ _ _ (sym c.message_known.ensures ∙ c.if-message_known.true))
