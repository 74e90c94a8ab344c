-- `script::check` meets its contract. Assumes nothing.
use Rattle.std.proofs.Common.{sym}
use Rattle.script.proofs.Reading.{passed_up}
use Rattle.script.specs.Script.{script_of}
use Rattle.script.specs.laws.Steps.{unless_none, unless_some}
use Rattle.script.proofs.check.Goals as goal

pub returns-in_err-head : goal.returns-in_err-head
unfolding script_of
returns-in_err-head c =
    passed_up c.from_residual.ensures.1 (rw (sym c.in_err-head.ensures))

pub returns-in_err-check_events : goal.returns-in_err-check_events
unfolding script_of
returns-in_err-check_events c =
    passed_up c.from_residual-in_err-check_events.ensures.1 (rw (sym c.in_ok-head.ensures) (unless_some _ _ _ _ (sym c.in_err-check_events.ensures)))

pub returns : goal.returns
unfolding script_of
returns c = rw (sym c.in_ok-head.ensures) (sym (unless_none _ _ _ _ (sym c.in_ok-check_events.ensures)))
