use Rattle.std.proofs.Common.{◌≡◌, rules, arith, get_or, take, refl, sym, ◌∙◌}
use Rattle.std.proofs.lemmas.List.{get_or-take, length-take}
use Rattle.method.specs.declared.Party.{Party}
use Rattle.rack.specs.Places.{idle}
use Rattle.rack.specs.Sound.{owed_in}
use Rattle.rack.proofs.Laws.{owed_next, owed_first}
use Rattle.rack.proofs.owed.owed_by_all.Goals as goal

pub loop-party-init : goal.loop-party-init
unfolding owed_in
loop-party-init c = (refl, search rules)

pub loop-party-preserved : goal.loop-party-preserved
loop-party-preserved c =
    let i = c.loop-party.party-index in
    let same : get_or (take c.min-n.result c.args.parties) i idle ≡ get_or c.args.parties i idle = get_or-take _ _ i idle (omega (arith, length-take {A = Party})) in
    (rw (c.owed_by-owed.ensures.0, c.loop-party.invariant.0, same) (sym (owed_next i c.args.parties)), omega arith)

pub returns : goal.returns
returns c =
    c.loop-party.invariant.0
    ∙ owed_first c.min-n.result c.args.clients c.loop-party.party-index c.args.parties (rw (c.min-n.ensures, c.from.ensures)) (search rules) c.loop-party-test.false (search rules)
