-- `writer::entry_length` meets its contract: what is counted goes by the kind. Assumes nothing.
use Rattle.std.proofs.Common.{arith}
use Rattle.record.proofs.theorems.EntryTrip.{entry_most}
use Rattle.writer.proofs.Laws.{by_kind, done_long, told_long, read_long, write_long}
use Rattle.writer.proofs.entry_length.Goals as goal

pub overflow_add-two : goal.overflow_add-two
overflow_add-two c =
    let few = entry_most c.args.e in
    omega (arith, (by_kind _ _ c.row_of-row.ensures).both, c.number_length.ensures, c.number_length-2.ensures)

pub returns-then-kind-eq3 : goal.returns-then-kind-eq3
returns-then-kind-eq3 c =
    omega (
      arith,
      done_long (by_kind _ _ c.row_of-row.ensures) c.if-kind-eq3.true,
      c.number_length.ensures,
      c.number_length-2.ensures,
    )

pub overflow_add-result : goal.overflow_add-result
overflow_add-result c =
    let few = entry_most c.args.e in
    omega (
      arith,
      told_long (by_kind _ _ c.row_of-row.ensures) c.if-kind-eq2.true,
      c.number_length.ensures,
      c.number_length-2.ensures,
      c.number_length-then-kind-eq2.ensures,
    )

pub returns-then-kind-eq2 : goal.returns-then-kind-eq2
returns-then-kind-eq2 c =
    omega (
      arith,
      told_long (by_kind _ _ c.row_of-row.ensures) c.if-kind-eq2.true,
      c.number_length.ensures,
      c.number_length-2.ensures,
      c.number_length-then-kind-eq2.ensures,
    )

pub overflow_add-three : goal.overflow_add-three
overflow_add-three c =
    let few = entry_most c.args.e in
    omega (
      arith,
      (by_kind _ _ c.row_of-row.ensures).third c.if-kind-eq3.false c.if-kind-eq2.false,
      c.number_length.ensures,
      c.number_length-2.ensures,
      c.number_length-3.ensures,
    )

pub returns-then-kind-eq0 : goal.returns-then-kind-eq0
returns-then-kind-eq0 c =
    omega (
      arith,
      read_long (by_kind _ _ c.row_of-row.ensures) c.if-kind-eq0.true,
      c.number_length.ensures,
      c.number_length-2.ensures,
      c.number_length-3.ensures,
    )

pub overflow_add-result-2 : goal.overflow_add-result-2
overflow_add-result-2 c =
    let few = entry_most c.args.e in
    omega (
      arith,
      write_long (by_kind _ _ c.row_of-row.ensures) c.if-kind-eq3.false
          c.if-kind-eq2.false c.if-kind-eq0.false,
      c.number_length.ensures,
      c.number_length-2.ensures,
      c.number_length-3.ensures,
      c.number_length-4.ensures,
    )

pub returns : goal.returns
returns c =
    omega (
      arith,
      write_long (by_kind _ _ c.row_of-row.ensures) c.if-kind-eq3.false
          c.if-kind-eq2.false c.if-kind-eq0.false,
      c.number_length.ensures,
      c.number_length-2.ensures,
      c.number_length-3.ensures,
      c.number_length-4.ensures,
    )
