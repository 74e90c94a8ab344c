-- `soundness::record_fits` meets its contract.
use Rattle.std.proofs.Common.{arith}
use Rattle.rack.specs.laws.Owed.{owed_most}
use Rattle.soundness.proofs.record_fits.Goals as goal

pub overflow_add-result : goal.overflow_add-result
overflow_add-result c =
    omega (
      arith,
      c.owed_by_all.ensures,
      owed_most c.args.rack.now.settings.clients c.args.rack.now.parties,
    )
