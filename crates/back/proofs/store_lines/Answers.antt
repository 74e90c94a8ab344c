-- `back::store_lines` meets its contract. Assumes nothing.
use Rattle.std.proofs.Common.{rules}
use Rattle.back.specs.laws.Lines.{stored_none, stored_long, stored_next, stored_all}
use Rattle.back.proofs.store_lines.Goals as goal

pub loop-i-init : goal.loop-i-init
loop-i-init c = stored_none _ _ _

pub loop-i-preserved : goal.loop-i-preserved
loop-i-preserved c =
    stored_next c.loop-i.invariant _ _ c.loop-i-test.true (search rules)
    c.requires.1 c.store_row.ensures.1

pub returns : goal.returns
returns c = stored_all c.loop-i.invariant (search rules)
