-- `writer::put_entry` meets its contract: what is written goes by the kind. Assumes nothing.
use Rattle.std.proofs.Common.{arith}
use Rattle.number.specs.laws.WroteLaws.{join, wrote_length}
use Rattle.writer.proofs.Laws.{by_kind, told_long, write_long, wrote_as}
use Rattle.writer.proofs.put_entry.Goals as goal

pub put_number-a-requires : goal.put_number-a-requires
put_number-a-requires c = omega (arith, (by_kind _ _ c.row_of-row.ensures).both)

pub put_number-b-requires : goal.put_number-b-requires
put_number-b-requires c =
    omega (
      arith,
      (by_kind _ _ c.row_of-row.ensures).both,
      c.put_number-a.ensures.place,
      wrote_length c.put_number-a.ensures,
    )

pub returns-then-kind-eq3 : goal.returns-then-kind-eq3
returns-then-kind-eq3 c =
    wrote_as ((by_kind _ _ c.row_of-row.ensures).done c.if-kind-eq3.true)
    (join c.put_number-a.ensures c.put_number-b.ensures)

pub put_number-requires : goal.put_number-requires
put_number-requires c =
    omega (
      arith,
      told_long (by_kind _ _ c.row_of-row.ensures) c.if-kind-eq2.true,
      c.put_number-a.ensures.place,
      wrote_length c.put_number-a.ensures,
      c.put_number-b.ensures.place,
      wrote_length c.put_number-b.ensures,
    )

pub returns-then-kind-eq2 : goal.returns-then-kind-eq2
returns-then-kind-eq2 c =
    wrote_as ((by_kind _ _ c.row_of-row.ensures).told
    c.if-kind-eq2.true)
    (join (join c.put_number-a.ensures
    c.put_number-b.ensures) c.put_number.ensures)

pub put_number-c-requires : goal.put_number-c-requires
put_number-c-requires c =
    omega (
      arith,
      (by_kind _ _ c.row_of-row.ensures).third c.if-kind-eq3.false
          c.if-kind-eq2.false,
      c.put_number-a.ensures.place,
      wrote_length c.put_number-a.ensures,
      c.put_number-b.ensures.place,
      wrote_length c.put_number-b.ensures,
    )

pub returns-then-kind-eq0 : goal.returns-then-kind-eq0
returns-then-kind-eq0 c =
    wrote_as ((by_kind _ _
    c.row_of-row.ensures).read c.if-kind-eq0.true)
    (join (join c.put_number-a.ensures
    c.put_number-b.ensures) c.put_number-c.ensures)

pub put_number-requires-2 : goal.put_number-requires-2
put_number-requires-2 c =
    omega (
      arith,
      write_long (by_kind _ _
          c.row_of-row.ensures)
          c.if-kind-eq3.false c.if-kind-eq2.false c.if-kind-eq0.false,
      c.put_number-a.ensures.place,
      wrote_length c.put_number-a.ensures,
      c.put_number-b.ensures.place,
      wrote_length c.put_number-b.ensures,
      c.put_number-c.ensures.place,
      wrote_length c.put_number-c.ensures,
    )

pub returns : goal.returns
returns c =
    wrote_as ((by_kind _ _
    c.row_of-row.ensures).write c.if-kind-eq3.false
    c.if-kind-eq2.false c.if-kind-eq0.false)
    (join (join (join c.put_number-a.ensures c.put_number-b.ensures)
    c.put_number-c.ensures) c.put_number-2.ensures)
