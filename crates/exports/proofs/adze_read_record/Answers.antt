-- `exports::adze_read_record` meets its contract. Assumes nothing.
use Rattle.std.proofs.Common.{ap, sym, ◌∙◌}
use Rattle.exports.specs.laws.Bounds.{read_fits}
use Rattle.exports.specs.Packed.{packed_answer}
use Rattle.exports.proofs.adze_read_record.Goals as goal

pub packed-requires : goal.packed-requires
packed-requires c = read_fits _ _ (λ i. (c.type_inv.bytes i).fits) _ (sym c.read_record-a.ensures.answers)

pub returns : goal.returns
returns c = (c.packed.ensures ∙ ap packed_answer c.read_record-a.ensures.answers, c.read_record-a.ensures.leaves)
