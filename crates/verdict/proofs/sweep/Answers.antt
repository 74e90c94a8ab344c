use Rattle.verdict.proofs.sweep.Goals as goal

pub loop-p-preserved : goal.loop-p-preserved
loop-p-preserved c = c.visit.ensures _ _ c.loop-p.invariant
