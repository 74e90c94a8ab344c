-- `chains::Table::enter` meets its contract: the entry is no write, or asks again, or stands in front of its chain. Assumes nothing.
use Rattle.chains.proofs.Entering.{is_entered, chained_more, next_only}
use Rattle.chains.proofs.Table.enter.Goals as goal

pub returns : goal.returns
returns c =
    let pre = c.requires in
    let write = c.if-entries-p-ne1.false in
    let home = c.home-h.ensures in
    is_entered (chained_more pre.1 pre.0 write home.0 home.1)
    (c.asks_again.ensures.no c.if-asks_again.false)
    (next_only pre.1 pre.0 write home.0 home.1)
