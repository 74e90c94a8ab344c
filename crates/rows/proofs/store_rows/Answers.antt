use Rattle.std.proofs.Common.{sym, ◌∙◌}
use Rattle.rows.specs.laws.RowLaws.{stored_in}
use Rattle.rows.proofs.Filling.{fills, fills_room, fills_ok, fills_on, fills_end}
use Rattle.rows.proofs.store_rows.Goals as goal

pub loop-i-init : goal.loop-i-init
loop-i-init c = fills _ _ _ c.requires

pub unwrap-e-requires : goal.unwrap-e-requires
unwrap-e-requires c = rw c.entry_at.ensures (fills_ok _ _ _ _ _ _ c.loop-i.invariant c.loop-i-test.true)

pub loop-i-preserved : goal.loop-i-preserved
loop-i-preserved c = let f = c.unwrap-e.ensures in let g = c.store_row.ensures in
    fills_on _ _ _ _ _ _ c.loop-i.invariant _ _ _ c.loop-i-test.true (sym c.entry_at.ensures ∙ c.unwrap-e.ensures)
    (c.store_row.ensures.1 ∙ stored_in _ _ _ (fills_room _ _ _ _ _ _ c.loop-i.invariant c.loop-i-test.true))

pub returns : goal.returns
returns c = fills_end _ _ _ _ _ _ c.loop-i.invariant c.loop-i-test.false
