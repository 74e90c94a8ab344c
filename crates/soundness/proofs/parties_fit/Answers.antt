-- `soundness::parties_fit` meets its contract.
use Rattle.std.proofs.Common.{ℕ, rules, tests}
use Rattle.rack.specs.Places.{party_at}
use Rattle.rack.specs.Sound.{work_fits, parties_fit}
use Rattle.rack.proofs.theorems.AllBelow.{all_of_range}
use Rattle.soundness.proofs.parties_fit.Goals as goal

pub returns : goal.returns
unfolding parties_fit
returns c =
    let r = c.args.rack.now in
    let fits = λ (i : ℕ). work_fits r.settings (party_at r i).work in
    all_of_range fits r.settings.clients _ _ _ c.all.result c.all.ensures.ran (cc) (λ x b q k. search (rules, tests))
