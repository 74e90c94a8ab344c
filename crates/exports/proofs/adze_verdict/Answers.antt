-- `exports::adze_verdict` meets its contract. Assumes nothing.
use Rattle.exports.specs.laws.Bounds.{verdict_fits}
use Rattle.exports.proofs.adze_verdict.Goals as goal

pub packed_verdict-requires : goal.packed_verdict-requires
packed_verdict-requires c = verdict_fits c.args.bytes.now (λ i. (c.type_inv.bytes i).fits) c.judge-v.result c.judge-v.ensures

pub returns : goal.returns
returns c = (c.judge-v.result, (c.judge-v.ensures, c.packed_verdict.ensures))
