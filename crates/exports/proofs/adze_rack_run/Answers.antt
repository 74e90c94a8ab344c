-- `exports::adze_rack_run` meets its contract.
use Rattle.std.proofs.Common.{ap, sym, ◌∙◌, rules}
use Rattle.exports.specs.laws.Bounds.{run_fits}
use Rattle.exports.specs.Packed.{packed_run}
use Rattle.exports.proofs.adze_rack_run.Goals as goal

pub packed_run-requires : goal.packed_run-requires
packed_run-requires c = run_fits _ _ _ _ (search rules) (sym c.run-a.ensures.0)

pub returns : goal.returns
returns c = (c.packed_run.ensures ∙ ap packed_run c.run-a.ensures.0, c.run-a.ensures.1)
