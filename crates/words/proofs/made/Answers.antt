-- `words::made` meets its contract.
use Rattle.std.proofs.Common.{ℕ, List, length, replicate, ap, ◌∙◌, refl, rules}
use Rattle.rack.specs.declared.Made.{Made}
use Rattle.rack.specs.Sound.{sound_of}
use Rattle.rack.specs.laws.Fresh.{made_sound}
use Rattle.words.proofs.Calls.{made_unfit, made_fit}
use Rattle.words.proofs.made.Goals as goal

pub returns-in_default : goal.returns-in_default
returns-in_default c = made_unfit _ _ _ _ _ c.in_default.ensures.cases refl

pub store-requires : goal.store-requires
store-requires c = ap (λ (m : Made). sound_of m.rack) c.made-made.ensures ∙ made_sound _ _ _

pub returns : goal.returns
returns c =
    made_fit _ _ _ _ _ _ _ _ c.in-Some.ensures.cases.long c.made-made.ensures
    (c.fill.ensures.after (λ y k. search rules) ∙ ap (λ (w : List ℕ). replicate (length w) 0) c.in-Some.ensures.cases.same) c.store.ensures refl
