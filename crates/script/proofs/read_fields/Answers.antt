-- `script::read_fields` meets its contract. Assumes nothing.
use Rattle.std.proofs.Common.{lt-ltb, le-ltb}
use Rattle.script.proofs.Reading.{passed_up}
use Rattle.script.specs.Script.{fields_at}
use Rattle.script.specs.laws.Steps.{reads_on, reads_off}
use Rattle.script.proofs.read_fields.Goals as goal

pub returns-in_err-field : goal.returns-in_err-field
unfolding fields_at
returns-in_err-field c =
    passed_up c.from_residual.ensures.1 (reads_off _ _ _ c.in_err-field.ensures)

pub returns-then-kind-gt1 : goal.returns-then-kind-gt1
unfolding fields_at
returns-then-kind-gt1 c = rw (reads_on _ _ _ c.in_ok-field.ensures, lt-ltb _ _ c.if-kind-gt1.true)

pub returns : goal.returns
unfolding fields_at
returns c = rw (reads_on _ _ _ c.in_ok-field.ensures, le-ltb _ _ c.if-kind-gt1.false) c.read_cell.ensures
