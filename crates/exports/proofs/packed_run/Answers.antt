-- `exports::packed_run` meets its contract.
use Rattle.std.proofs.Common.{refl}
use Rattle.exports.specs.Packed.{packed_run}
use Rattle.exports.proofs.packed_run.Goals as goal

pub returns : goal.returns
unfolding packed_run
returns c = refl
