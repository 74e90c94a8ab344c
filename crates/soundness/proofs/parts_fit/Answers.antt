-- `soundness::parts_fit` meets its contract.
use Rattle.rack.specs.laws.SoundLaws.{sized}
use Rattle.soundness.proofs.parts_fit.Goals as goal

pub pairs_fit-requires : goal.pairs_fit-requires
pairs_fit-requires c = let z = sized c.args.rack.now.settings c.requires in (z.replicas, z.cells)

pub parties_fit-requires : goal.parties_fit-requires
parties_fit-requires c = (sized c.args.rack.now.settings c.requires).clients
