-- `chains::Table::asks_again` meets its contract: a write of 0 asks again, and else the search of what came before decides. Assumes nothing.
use Rattle.chains.proofs.Entering.{again_told}
use Rattle.chains.proofs.Table.asks_again.Goals as goal

pub returns-else-value-eq0 : goal.returns-else-value-eq0
returns-else-value-eq0 c = rw c.is_some.ensures (again_told _ c.requires.1 c.if-value-eq0.false c.find.ensures)
