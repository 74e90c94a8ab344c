-- `verdict::take_read` meets its contract: the read gives zero, or what no write asks, or what a write asks that starts after it ended or before.
-- Assumes nothing.
use Rattle.std.proofs.Common.{arith}
use Rattle.clusters.proofs.theorems.Taking.{small, tally_zero, tally_none, tally_late, tally_found}
use Rattle.verdict.proofs.take_read.Goals as goal

pub returns-then-value-eq0 : goal.returns-then-value-eq0
returns-then-value-eq0 c =
    rw c.take_zero.ensures.1
    (tally_zero _ _ _ _ _ _ _ _ _ c.requires.1 c.requires.0 _ c.if-value-eq0.true c.take_zero.ensures.0)

pub join-requires : goal.join-requires
join-requires c = (
  small _ _ _ _ _ _ _ _ _ c.requires.1,
  omega (
    arith,
    (c.find.ensures.at _ c.in-Some.is).0,
    c.requires.1.ready.fit.few,
  ),
)

pub returns-in-None : goal.returns-in-None
returns-in-None c =
    rw c.mark.ensures.1
    (tally_none _ _ _ _ _ _ _ _ _ c.requires.1 c.requires.0 c.if-value-eq0.false _ (c.find.ensures.none c.in-None.is) c.mark.ensures.0)

pub returns-then-p-w : goal.returns-then-p-w
returns-then-p-w c =
    let found = c.find.ensures.at _ c.in-Some.is in
    rw c.mark-then-p-w.ensures.1
    (tally_late _ _ _ _ _ _ _ _ _ c.requires.1 c.requires.0 c.if-value-eq0.false _ found.0 found.1 _ _
    c.join.ensures.0 c.join.ensures.1 _ c.if-p-w.true c.mark-then-p-w.ensures.0)

pub returns-else-p-w : goal.returns-else-p-w
returns-else-p-w c =
    let found = c.find.ensures.at _ c.in-Some.is in
    tally_found _ _ _ _ _ _ _ _ _ c.requires.1 c.requires.0 c.if-value-eq0.false _ found.0 found.1 _ _
    c.join.ensures.0 c.join.ensures.1 c.if-p-w.false
