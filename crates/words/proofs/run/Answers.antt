-- `words::run` meets its contract.
use Rattle.std.proofs.Common.{ap, ◌∙◌, refl}
use Rattle.layout.specs.Reading.{rack_of}
use Rattle.layout.specs.Writing.{written_of}
use Rattle.words.proofs.Calls.{run_unfit, run_none, run_sound, run_some}
use Rattle.words.proofs.run.Goals as goal

pub returns-in_default : goal.returns-in_default
returns-in_default c = run_unfit _ _ _ _ c.in_default.ensures.cases refl

pub returns-then-ran-eq0 : goal.returns-then-ran-eq0
returns-then-ran-eq0 c =
    let same = c.in-Some.ensures.cases.same in
    let none = run_none _ _ _ _ _ _ c.in-Some.ensures.cases.long (c.load.ensures ∙ ap rack_of same) c.run-ran.ensures c.if-ran-eq0.true refl in
    (none.0, same ∙ none.1)

pub store-requires : goal.store-requires
store-requires c = run_sound _ _ _ _ c.run-ran.ensures c.if-ran-eq0.false

pub returns : goal.returns
returns c =
    let same = c.in-Some.ensures.cases.same in
    run_some _ _ _ _ _ _ _ c.in-Some.ensures.cases.long (c.load.ensures ∙ ap rack_of same) c.run-ran.ensures c.if-ran-eq0.false
    (c.store.ensures ∙ ap (written_of c.run-ran.result.rack) same) refl
