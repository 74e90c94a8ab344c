-- `slots::mark` meets its contract.
use Rattle.slots.proofs.Laws.{marked_yes, marked_no}
use Rattle.slots.proofs.mark.Goals as goal

pub returns-then-clear : goal.returns-then-clear
returns-then-clear c = λ f t. marked_yes f _ _ _ c.if-clear.true (c.give.ensures f t)

pub returns-else-clear : goal.returns-else-clear
returns-else-clear c = λ f t. marked_no f _ _ _ c.if-clear.false t
