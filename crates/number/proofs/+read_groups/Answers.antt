use Rattle.std.proofs.Common.{◌-◌, ◌+◌, ◌^◌, ◌<◌, sym, ◌∙◌, arith}
use Rattle.std.proofs.lemmas.Result.{err_from_is_err_and}
use Rattle.number.specs.laws.Steps.{push, push_zero, push_more}
use Rattle.number.proofs.Laws.{at_end, fifth_high, fifth, low, high, rest_below}
use Rattle.number.proofs.+read_groups.Goals as goal

pub returns-then-at-s : goal.returns-then-at-s
returns-then-at-s t c =
    let a = c.args in
    sym (at_end a.s.now a.at a.left c.if-at-s.true)

pub returns-then-b-gt-FIFTH_MOST : goal.returns-then-b-gt-FIFTH_MOST
returns-then-b-gt-FIFTH_MOST t c =
    let a = c.args in
    sym (fifth_high a.s.now a.at a.left c.if-at-s.false c.if-left-eq0.true (omega (arith, c.if-b-gt-FIFTH_MOST.true)))

pub returns-then-left-eq0 : goal.returns-then-left-eq0
returns-then-left-eq0 t c =
    let a = c.args in
    rw c.from.ensures (sym (fifth a.s.now a.at a.left c.if-at-s.false c.if-left-eq0.true c.if-b-gt-FIFTH_MOST.false))

pub returns-then-b-lt-MORE : goal.returns-then-b-lt-MORE
returns-then-b-lt-MORE t c =
    let a = c.args in
    rw c.from-then-b-lt-MORE.ensures (sym (low a.s.now a.at a.left c.if-at-s.false c.if-left-eq0.false c.if-b-lt-MORE.true))

pub returns-in_err-m : goal.returns-in_err-m
unfolding push
returns-in_err-m t c =
    let a = c.args in
    let p = err_from_is_err_and c.from_residual.result c.from_residual.ensures.1 in
    rw (p.1, p.2) (sym (high a.s.now a.at a.left _ c.if-at-s.false c.if-left-eq0.false c.if-b-lt-MORE.false (sym c.in_err-m.ensures)))

pub returns-then-m-eq0 : goal.returns-then-m-eq0
returns-then-m-eq0 t c =
    let a = c.args in
    sym (high a.s.now a.at a.left _ c.if-at-s.false c.if-left-eq0.false c.if-b-lt-MORE.false (sym c.in_ok-m.ensures) ∙ push_zero _ _ _ c.if-m-eq0.true)

-- the rest of the number, where there is one, is below 2 ^ 25
pub overflow_mul-result : goal.overflow_mul-result
overflow_mul-result t c =
    let below : c.in_ok-m.m < 2 ^ 25 = rest_below c.args.s.now (c.args.left - 1) (c.args.at + 1) c.in_ok-m.m c.in_ok-m.next (λ i. (c.type_inv.s i).fits) (omega arith) (sym c.in_ok-m.ensures) in
    omega arith

pub overflow_add-result-2 : goal.overflow_add-result-2
overflow_add-result-2 t c =
    let below : c.in_ok-m.m < 2 ^ 25 = rest_below c.args.s.now (c.args.left - 1) (c.args.at + 1) c.in_ok-m.m c.in_ok-m.next (λ i. (c.type_inv.s i).fits) (omega arith) (sym c.in_ok-m.ensures) in
    omega (arith, c.from-2.ensures)

pub returns : goal.returns
returns t c =
    let a = c.args in
    rw c.from-2.ensures (sym (high a.s.now a.at a.left _ c.if-at-s.false c.if-left-eq0.false c.if-b-lt-MORE.false (sym c.in_ok-m.ensures) ∙ push_more _ _ _ c.if-m-eq0.false))
