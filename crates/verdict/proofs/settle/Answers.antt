-- `verdict::settle` meets its contract: the passes follow one another. Assumes nothing.
use Rattle.clusters.proofs.theorems.Taking.{tally_none_yet, scatterable}
use Rattle.verdict.specs.laws.Judging.{settles}
use Rattle.verdict.proofs.settle.Goals as goal

pub take_ends-requires : goal.take_ends-requires
take_ends-requires c = (
  c.requires,
  rw c.own_numbers.ensures.1 (tally_none_yet _ _ _ c.requires.fit.few c.own_numbers.ensures.0),
)

pub order-requires : goal.order-requires
order-requires c = (
  scatterable _ _ _ _ _ _ _ _ c.requires
      c.take_ends.ensures,
  c.take_ends.ensures.zero_long,
  c.take_ends.ensures.bad_long,
)

pub returns : goal.returns
returns c = (
  settles _ _ _ _ _ _ _ _ c.requires.fresh
      c.take_ends.ensures c.order.ensures c.lowest.ensures.0,
  c.lowest.ensures.1,
)
