-- `exports::adze_write_number` meets its contract. Assumes nothing.
use Rattle.std.proofs.Common.{sym, ap, ◌∙◌, arith}
use Rattle.exports.specs.laws.Bounds.{put_fits_bits}
use Rattle.exports.specs.Packed.{packed_put}
use Rattle.exports.proofs.adze_write_number.Goals as goal

pub overflow_sub-result : goal.overflow_sub-result
overflow_sub-result c = let h = put_fits_bits _ _ _ _ (sym c.write_number.ensures.answer ∙ c.in-Some.is) in omega arith

pub overflow_mul-result : goal.overflow_mul-result
overflow_mul-result c = let h = put_fits_bits _ _ _ _ (sym c.write_number.ensures.answer ∙ c.in-Some.is) in omega arith

pub returns-in-Some : goal.returns-in-Some
unfolding packed_put
returns-in-Some c = (
  sym (ap (packed_put c.args.at)
      (sym c.write_number.ensures.answer ∙ c.in-Some.is)),
  c.write_number.ensures.bytes,
)

pub returns-in-None : goal.returns-in-None
unfolding packed_put
returns-in-None c = (
  sym (ap (packed_put c.args.at) (sym c.write_number.ensures.answer
      ∙ c.in-None.is)),
  c.write_number.ensures.bytes,
)
