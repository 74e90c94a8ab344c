-- `exports::adze_write_record` meets its contract. Assumes nothing.
use Rattle.std.proofs.Common.{ap, sym, ◌∙◌}
use Rattle.exports.specs.laws.Bounds.{write_fits}
use Rattle.exports.specs.Packed.{packed_answer}
use Rattle.exports.proofs.adze_write_record.Goals as goal

pub packed-requires : goal.packed-requires
packed-requires c = write_fits _ _ (λ i. (c.type_inv.rows i).fits) _ (sym c.write_record-a.ensures.answers)

pub returns : goal.returns
returns c = (c.packed.ensures ∙ ap packed_answer c.write_record-a.ensures.answers, c.write_record-a.ensures.leaves)
