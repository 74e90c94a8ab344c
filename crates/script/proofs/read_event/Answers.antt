-- `script::read_event` meets its contract. Assumes nothing.
use Rattle.std.proofs.Common.{lt-ltb, le-ltb}
use Rattle.script.proofs.Reading.{passed_up}
use Rattle.script.specs.Script.{event_at}
use Rattle.script.specs.laws.Steps.{reads_on, reads_off}
use Rattle.script.proofs.read_event.Goals as goal

pub returns-in_err-kind : goal.returns-in_err-kind
unfolding event_at
returns-in_err-kind c =
    passed_up c.from_residual.ensures.1 (reads_off _ _ _ c.in_err-kind.ensures)

pub returns-then-kind-gt8 : goal.returns-then-kind-gt8
unfolding event_at
returns-then-kind-gt8 c = rw (reads_on _ _ _ c.in_ok-kind.ensures, lt-ltb _ _ c.if-kind-gt8.true)

pub returns : goal.returns
unfolding event_at
returns c = rw (reads_on _ _ _ c.in_ok-kind.ensures, le-ltb _ _ c.if-kind-gt8.false) c.read_fields.ensures
