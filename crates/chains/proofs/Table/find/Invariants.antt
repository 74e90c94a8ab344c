-- `chains::Table::find` meets its contract. The invariant: every write that asks this is below the link, and the link is of its chain.
-- The measure is the link: a chain leads to ever earlier entries. Assumes nothing.
use Rattle.chains.proofs.Walking.{Walk}
use Rattle.chains.proofs.Table.find.Given as goal

abbrev pub invariant-loop-link : goal.invariant-loop-link
invariant-loop-link l = Walk l.entries.kinds l.entries.cells l.entries.values l.n l.self.head l.self.next l.cell.0 l.value l.link

abbrev pub decreases-loop-link : goal.decreases-loop-link
decreases-loop-link l = l.link
