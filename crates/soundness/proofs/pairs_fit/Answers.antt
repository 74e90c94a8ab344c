-- `soundness::pairs_fit` meets its contract.
use Rattle.std.proofs.Common.{ℕ, rules, tests}
use Rattle.rack.specs.Places.{pair_at}
use Rattle.rack.specs.Sound.{all_below, pair_fits, pairs_fit}
use Rattle.rack.proofs.theorems.AllBelow.{all_of_range}
use Rattle.soundness.proofs.pairs_fit.Goals as goal

pub returns : goal.returns
unfolding pairs_fit
returns c =
    let r = c.args.rack.now in
    let fits = λ (k : ℕ). all_below r.settings.cells (λ x. pair_fits r.settings (pair_at r k x)) in
    all_of_range fits r.settings.replicas _ _ _ c.all.result c.all.ensures.ran (cc) (λ x b q k. search (rules, tests))
