-- `exports::adze_alternating` meets its contract. Assumes nothing.
use Rattle.std.proofs.Common.{sym}
use Rattle.number.specs.laws.ValueLaws.{alternating_of_bits}
use Rattle.exports.proofs.adze_alternating.Goals as goal

pub returns : goal.returns
returns c = sym (alternating_of_bits _ _ c.ranges.v.sfits c.alternating.ensures)
