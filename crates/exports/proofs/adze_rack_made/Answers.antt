-- `exports::adze_rack_made` meets its contract.
use Rattle.std.proofs.Common.{ap, sym, ◌∙◌}
use Rattle.exports.specs.laws.Bounds.{made_fits}
use Rattle.exports.specs.Packed.{packed_run}
use Rattle.exports.proofs.adze_rack_made.Goals as goal

pub packed_run-requires : goal.packed_run-requires
packed_run-requires c = made_fits _ _ _ _ _ (sym c.made-a.ensures.0)

pub returns : goal.returns
returns c = (c.packed_run.ensures ∙ ap packed_run c.made-a.ensures.0, c.made-a.ensures.1)
