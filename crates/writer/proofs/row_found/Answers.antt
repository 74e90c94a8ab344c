-- `writer::row_found` meets its contract: each test leads to its law. Assumes nothing.
use Rattle.std.proofs.Common.{◌∙◌, arith}
use Rattle.number.specs.laws.ValueLaws.{signed_of_bits}
use Rattle.rows.specs.laws.RowLaws.{row_24, row_25_client, row_done, row_told, row_25_cell, row_read, row_write}
use Rattle.writer.proofs.row_found.Goals as goal

pub returns-then-kind-gt3 : goal.returns-then-kind-gt3
returns-then-kind-gt3 c next = row_24 _ _ _ _ next c.if-kind-gt3.true

pub returns-then-client-gt-LAST : goal.returns-then-client-gt-LAST
returns-then-client-gt-LAST c next = row_25_client _ _ _ _ next c.if-kind-gt3.false (omega arith)

pub returns-then-kind-eq3 : goal.returns-then-kind-eq3
returns-then-kind-eq3 c next = row_done _ _ _ _ next c.if-client-gt-LAST.false c.if-kind-eq3.true

pub returns-then-kind-eq2 : goal.returns-then-kind-eq2
returns-then-kind-eq2 c next =
    row_told _ _ _ _ next c.if-client-gt-LAST.false c.if-kind-eq2.true ∙ simp (signed_of_bits c.signed.result c.args.value (omega arith) c.signed.ensures)

pub returns-then-cell-gt-LAST : goal.returns-then-cell-gt-LAST
returns-then-cell-gt-LAST c next = row_25_cell _ _ _ _ next c.if-kind-gt3.false c.if-client-gt-LAST.false (omega arith) (omega arith)

pub returns-then-kind-eq0 : goal.returns-then-kind-eq0
returns-then-kind-eq0 c next = row_read _ _ _ _ next c.if-client-gt-LAST.false c.if-cell-gt-LAST.false c.if-kind-eq0.true

pub returns : goal.returns
returns c next =
    row_write _ _ _ _ next c.if-client-gt-LAST.false c.if-cell-gt-LAST.false (omega arith) ∙ simp (signed_of_bits c.signed-2.result c.args.value (omega arith) c.signed-2.ensures)
