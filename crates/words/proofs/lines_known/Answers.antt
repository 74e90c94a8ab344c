-- `words::lines_known` meets its contract.
use Rattle.std.proofs.Common.{ℕ, rules, tests}
use Rattle.layout.specs.Layout.{entry_place}
use Rattle.layout.specs.Reading.{line_known}
use Rattle.rack.proofs.theorems.AllBelow.{all_of_range}
use Rattle.words.proofs.lines_known.Goals as goal

pub returns : goal.returns
returns c =
    let known = λ (i : ℕ). line_known c.args.words.now (entry_place i) in
    all_of_range known c.args.n _ _ _ c.all.result c.all.ensures.ran (cc) (λ x b q k. search (rules, tests))
