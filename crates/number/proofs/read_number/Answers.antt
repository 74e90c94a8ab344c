-- `number::read_number` meets its contract: reading byte by byte, as its helper does, is reading. Assumes nothing.
use Rattle.std.proofs.Common.{◌∙◌}
use Rattle.number.specs.laws.Steps.{read_steps}
use Rattle.number.proofs.read_number.Goals as goal

pub returns : goal.returns
returns c = c.read_groups.ensures ∙ read_steps c.args.s.now c.args.at
