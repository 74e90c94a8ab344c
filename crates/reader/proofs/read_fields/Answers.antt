-- `reader::read_fields` meets its contract. Assumes nothing.
use Rattle.std.proofs.Common.{sym, arith, eq-eqb, ne_eqb}
use Rattle.std.proofs.lemmas.Result.{err_from_is_err_and}
use Rattle.refusal.specs.declared.Refusal.TheVariants.{FieldAbove}
use Rattle.record.specs.Entry.{last_cell, fields_at}
use Rattle.number.specs.Number.{and_then}
use Rattle.record.proofs.theorems.EntryTrip.{passed}
use Rattle.number.specs.laws.ValueLaws.{signed_of_bits}
use Rattle.reader.proofs.read_fields.Goals as goal

pub returns-then-kind-eq3 : goal.returns-then-kind-eq3
unfolding fields_at and_then
returns-then-kind-eq3 c = simp (eq-eqb _ _ c.if-kind-eq3.true)

pub returns-in_err-v : goal.returns-in_err-v
unfolding fields_at and_then
returns-in_err-v c =
    let p = err_from_is_err_and c.from_residual.result c.from_residual.ensures.1 in
    rw (p.1, p.2) (simp (ne_eqb _ _ c.if-kind-eq3.false, eq-eqb _ _ c.if-kind-eq2.true, sym c.in_err-v.ensures))

pub returns-then-kind-eq2 : goal.returns-then-kind-eq2
unfolding fields_at and_then
returns-then-kind-eq2 c =
    simp (
      ne_eqb _ _ c.if-kind-eq3.false,
      eq-eqb _ _ c.if-kind-eq2.true,
      sym c.in_ok-v.ensures,
      signed_of_bits c.signed.result c.in_ok-v.v (omega arith) c.signed.ensures,
    )

pub overflow_cast-cell : goal.overflow_cast-cell
overflow_cast-cell c = omega (arith, (passed last_cell FieldAbove _ _ _ (sym c.in_ok-cell.ensures)).1)

pub returns-in_err-cell : goal.returns-in_err-cell
unfolding fields_at and_then
returns-in_err-cell c =
    let p = err_from_is_err_and c.from_residual-in_err-cell.result c.from_residual-in_err-cell.ensures.1 in
    rw (p.1, p.2) (simp (ne_eqb _ _ c.if-kind-eq3.false, ne_eqb _ _ c.if-kind-eq2.false, sym c.in_err-cell.ensures))

pub returns-then-kind-eq0 : goal.returns-then-kind-eq0
unfolding fields_at and_then
returns-then-kind-eq0 c =
    simp (ne_eqb _ _ c.if-kind-eq3.false, ne_eqb _ _ c.if-kind-eq2.false, sym c.in_ok-cell.ensures, eq-eqb _ _ c.if-kind-eq0.true)

pub returns-in_err-v-2 : goal.returns-in_err-v-2
unfolding fields_at and_then
returns-in_err-v-2 c =
    let p = err_from_is_err_and c.from_residual-in_err-v-2.result c.from_residual-in_err-v-2.ensures.1 in
    rw (p.1, p.2) (
    simp (
      ne_eqb _ _ c.if-kind-eq3.false,
      ne_eqb _ _ c.if-kind-eq2.false,
      sym c.in_ok-cell.ensures,
      ne_eqb _ _ c.if-kind-eq0.false,
      sym c.in_err-v-2.ensures,
    ))

pub returns : goal.returns
unfolding fields_at and_then
returns c =
    simp (
      ne_eqb _ _ c.if-kind-eq3.false,
      ne_eqb _ _ c.if-kind-eq2.false,
      sym c.in_ok-cell.ensures,
      ne_eqb _ _ c.if-kind-eq0.false,
      sym c.in_ok-v-2.ensures,
      signed_of_bits c.signed-2.result c.in_ok-v-2.v (omega arith) c.signed-2.ensures,
    )
