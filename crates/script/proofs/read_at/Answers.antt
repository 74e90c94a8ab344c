-- `script::read_at` meets its contract. Assumes nothing.
use Rattle.script.proofs.Reading.{with_place}
use Rattle.script.proofs.read_at.Goals as goal

pub returns : goal.returns
returns c = with_place _ _ _ _ c.read_number.ensures (λ e y q. search) c.map_err.ensures.cases
