-- `words::goal_of` meets its contract.
use Rattle.std.proofs.Common.{ne_eqb, rules}
use Rattle.number.specs.laws.ValueLaws.{signed_of_bits}
use Rattle.layout.specs.Reading.{goal_of}
use Rattle.words.proofs.goal_of.Goals as goal

pub returns-else-goal-eq0 : goal.returns-else-goal-eq0
unfolding goal_of
returns-else-goal-eq0 c = rw (signed_of_bits c.signed.result _ (search rules) c.signed.ensures, ne_eqb _ _ c.if-goal-eq0.false)
