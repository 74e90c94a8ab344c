-- `exports::adze_read_number` meets its contract. Assumes nothing.
use Rattle.std.proofs.Common.{sym, ap, ◌∙◌, arith}
use Rattle.exports.specs.laws.Bounds.{number_fits}
use Rattle.exports.specs.Packed.{packed_number}
use Rattle.exports.proofs.adze_read_number.Goals as goal

pub overflow_sub-result : goal.overflow_sub-result
overflow_sub-result c =
    let h = number_fits _ _ (λ i. (c.type_inv.bytes i).fits) _
    (sym c.read_number.ensures ∙ c.in-Ok.is) in omega arith

pub overflow_mul-result : goal.overflow_mul-result
overflow_mul-result c =
    let h = number_fits _ _ (λ i. (c.type_inv.bytes i).fits) _
    (sym c.read_number.ensures ∙ c.in-Ok.is) in omega arith

pub overflow_add-result : goal.overflow_add-result
overflow_add-result c =
    let h = number_fits _ _ (λ i. (c.type_inv.bytes i).fits) _
    (sym c.read_number.ensures ∙ c.in-Ok.is) in omega arith

pub returns-in-Ok : goal.returns-in-Ok
unfolding packed_number
returns-in-Ok c = rw c.from.ensures (sym (ap (packed_number c.args.at) (sym c.read_number.ensures ∙ c.in-Ok.is)))

pub returns-in-Err : goal.returns-in-Err
unfolding packed_number
returns-in-Err c = rw (c.from-in-Err.ensures, c.number.ensures) (sym (ap (packed_number c.args.at) (sym c.read_number.ensures ∙ c.in-Err.is)))
