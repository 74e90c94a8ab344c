-- `soundness::replica_fits` meets its contract.
use Rattle.std.proofs.Common.{ℕ, rules, tests}
use Rattle.rack.specs.Places.{pair_at}
use Rattle.rack.specs.Sound.{pair_fits}
use Rattle.rack.proofs.theorems.AllBelow.{all_of_range}
use Rattle.soundness.proofs.replica_fits.Goals as goal

pub returns : goal.returns
returns c =
    let fits = λ (x : ℕ). pair_fits c.args.rack.now.settings (pair_at c.args.rack.now c.args.k x) in
    all_of_range fits c.args.rack.now.settings.cells _ _ _ c.all.result c.all.ensures.ran (cc) (λ x b q k. search (rules, tests))
