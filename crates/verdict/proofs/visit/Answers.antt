-- `verdict::visit` meets its contract: a cluster stands at the place, or none does. Assumes nothing.
use Rattle.std.proofs.Common.{refl}
use Rattle.clusters.proofs.theorems.Visiting.{visit_on}
use Rattle.verdict.proofs.visit.Goals as goal

pub returns-then-w-n : goal.returns-then-w-n
returns-then-w-n c =
    visit_on _ _ _ _ _ c.requires.1 _ _ _ _ refl
    c.if-w-n.true _ _ c.requires.0 c.meet.ensures.0 c.meet.ensures.1
