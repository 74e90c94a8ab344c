-- `words::lines_of` meets its contract.
use Rattle.std.proofs.Common.{refl, rules}
use Rattle.layout.specs.Layout.{firsts}
use Rattle.layout.specs.Reading.{lines_in}
use Rattle.words.proofs.Reading.{fill_more, fill_all}
use Rattle.words.proofs.lines_of.Goals as goal

pub loop-i-init : goal.loop-i-init
unfolding firsts
loop-i-init c = refl

pub loop-i-preserved : goal.loop-i-preserved
loop-i-preserved c = fill_more _ _ _ c.loop-i.i _ c.loop-i.invariant (search rules) c.line_at.ensures

pub returns : goal.returns
unfolding lines_in
returns c = fill_all _ _ _ c.loop-i.i c.args.n c.loop-i.invariant (search rules)
