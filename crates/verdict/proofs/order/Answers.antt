-- `verdict::order` meets its contract: the array of places is empty at first. Assumes nothing.
use Rattle.clusters.proofs.theorems.Visiting.{scattered_none}
use Rattle.verdict.proofs.order.Goals as goal

pub scatter-requires : goal.scatter-requires
scatter-requires c = (c.requires.0, scattered_none _ _ _ _)
