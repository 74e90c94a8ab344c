-- `words::put_entry` meets its contract: there is room for the row.
use Rattle.std.proofs.Common.{◌∙◌, arith}
use Rattle.rows.specs.laws.RowLaws.{stored_in}
use Rattle.words.proofs.put_entry.Goals as goal

pub returns : goal.returns
returns c = c.store_row.ensures.1 ∙ stored_in _ _ _ (omega arith)
