-- `chains::Table::link` meets its contract. The invariant: the entries before p are in the table, and none of them asks again. Assumes nothing.
use Rattle.chains.specs.Chains.{NoneAgain}
use Rattle.chains.specs.Table.{Chained, Stays}
use Rattle.chains.proofs.Table.link.Given as goal

abbrev pub invariant-loop-p : goal.invariant-loop-p
invariant-loop-p l =
    Chained l.entries.kinds l.entries.cells l.entries.values l.p l.self.head l.self.next
    × NoneAgain l.entries.kinds l.entries.cells l.entries.values l.p
    × Stays l.entries.kinds l.p l.initial.self.next l.self.next
