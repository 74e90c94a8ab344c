-- `verdict::take_entry` meets its contract: the entry ends a write, a read or nothing. Assumes nothing.
use Rattle.clusters.proofs.theorems.Taking.{lowered_read, lowered_other}
use Rattle.verdict.proofs.take_entry.Goals as goal

pub take_read-requires : goal.take_read-requires
take_read-requires c = (
  c.if-entries-p-eq2.true,
  rw c.take_done.ensures.1 (lowered_read _ _ _ _ _ _ _ _ _ c.requires _ c.take_done.ensures.0 c.if-entries-p-eq2.true),
)

pub returns-else-entries-p-eq2 : goal.returns-else-entries-p-eq2
returns-else-entries-p-eq2 c =
    rw c.take_done.ensures.1 (lowered_other _ _ _ _ _ _ _ _ _ c.requires _ c.take_done.ensures.0 c.if-entries-p-eq2.false)
