use Rattle.rack.specs.Run.{fresh_rack}
use Rattle.rack.proofs.maker.fresh.Goals as goal

pub returns : goal.returns
unfolding fresh_rack
returns c = rw (c.every-power.ensures, c.fresh_pair-pair.ensures, c.idle-party.ensures)
