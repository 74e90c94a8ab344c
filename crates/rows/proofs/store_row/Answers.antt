-- `rows::store_row` meets its contract: the row has room unless one of the two tests says that it hasn't. Assumes nothing.
use Rattle.std.proofs.Common.{ap, sym, ◌∙◌, arith}
use lib.Seq.{sets}
use Rattle.rows.specs.laws.RowLaws.{room_in, stored_in, room_out, stored_out}
use Rattle.rows.proofs.store_row.Goals as goal

pub returns-then-rows-lt4 : goal.returns-then-rows-lt4
returns-then-rows-lt4 c = (sym (room_out _ _ (omega (arith, c.if-rows-lt4.true))), sym (stored_out _ _ _ (omega (arith, c.if-rows-lt4.true))))

pub returns-then-rows-at : goal.returns-then-rows-at
returns-then-rows-at c = (sym (room_out _ _ (omega (arith, c.if-rows-at.true))), sym (stored_out _ _ _ (omega (arith, c.if-rows-at.true))))

pub returns : goal.returns
returns c = (
  sym (room_in _ _ (omega (arith, c.if-rows-at.false))),
  c.put_row.ensures ∙ ap (sets _ _) c.row_of.ensures
      ∙ sym (stored_in _ _ _ (omega (arith, c.if-rows-at.false))),
)
