-- `soundness::wire_fits` meets its contract.
use Rattle.std.proofs.Common.{rules, tests, ◌∙◌}
use Rattle.std.proofs.lemmas.Iterator.{YieldsList-from_slice}
use Rattle.std.proofs.lemmas.Iterator.Search.{all_from_yields_List}
use Rattle.rack.specs.declared.Slot.{Slot}
use Rattle.rack.specs.Places.{slot_limit, empty}
use Rattle.rack.specs.Sound.{wire_fits, held_fits}
use Rattle.soundness.proofs.Laws.{all_list}
use Rattle.soundness.proofs.wire_fits.Goals as goal

pub returns : goal.returns
unfolding wire_fits
returns c =
    let fits = λ (s : Slot). held_fits c.args.rack.now.settings s.held in
    all_from_yields_List fits _ _ c.all.result c.all.ensures.ran (YieldsList-from_slice c.args.rack.now.wire cc) (λ x b q k. search (rules, tests))
    ∙ all_list fits c.args.rack.now.wire empty slot_limit (search rules)
