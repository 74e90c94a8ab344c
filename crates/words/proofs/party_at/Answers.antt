-- `words::party_at` meets its contract.
use Rattle.std.proofs.Common.{sym, ◌∙◌}
use Rattle.words.proofs.Reading.{party_op}
use Rattle.words.proofs.party_at.Goals as goal

pub overflow_cast-result : goal.overflow_cast-result
overflow_cast-result c = record { fits = party_op _ _ _ _ (sym c.party_known.ensures ∙ c.if-party_known.true) }
