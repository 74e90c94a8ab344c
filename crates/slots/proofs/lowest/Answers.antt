-- `slots::lowest` meets its contract.
use Rattle.std.proofs.Common.{sym, ◌∙◌, rules}
use Rattle.slots.proofs.Laws.{found_here, found_none}
use Rattle.slots.proofs.lowest.Goals as goal

pub returns-in-Some : goal.returns-in-Some
returns-in-Some c = (search rules, λ f t. found_here f _ c.in-Some.j c.low.result t (sym c.first_word.ensures ∙ c.in-Some.is) c.low.ensures.0)

pub returns-in-None : goal.returns-in-None
returns-in-None c = (search rules, λ f t. found_none f _ t (sym c.first_word.ensures ∙ c.in-None.is))
