-- `slots::take` meets its contract.
use Rattle.std.proofs.Common.{sym, ◌∙◌, rules}
use Rattle.slots.proofs.Laws.{took_here, took_nothing}
use Rattle.slots.proofs.take.Goals as goal

pub returns-in-Some : goal.returns-in-Some
returns-in-Some c =
    (search rules, λ f t. took_here f _ c.in-Some.j c.low.result t (sym c.first_word.ensures ∙ c.in-Some.is) c.low.ensures.0 _ c.rest.ensures)

pub returns-in-None : goal.returns-in-None
returns-in-None c = (search rules, λ f t. took_nothing f _ t (sym c.first_word.ensures ∙ c.in-None.is))
