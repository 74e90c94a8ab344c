-- `script::check_events` meets its contract. Assumes nothing.
use Rattle.std.proofs.Common.{sym, ◌∙◌, arith}
use Rattle.script.proofs.Reading.{passed_up}
use Rattle.script.specs.laws.Steps.{event_rises, no_fault, fault_here, fault_later}
use Rattle.script.proofs.check_events.Goals as goal

pub returns-in_err-next : goal.returns-in_err-next
returns-in_err-next c =
    passed_up c.from_residual.ensures.1 (c.loop-at.invariant ∙ fault_here _ _ _ _ _ c.loop-at-test.true (sym c.in_err-next.ensures))

pub loop-at-smaller : goal.loop-at-smaller
loop-at-smaller c = omega (arith, event_rises _ _ _ _ _ _ _ (sym c.in_ok-next.ensures), c.loop-at-test.true)

pub loop-at-preserved : goal.loop-at-preserved
loop-at-preserved c = c.loop-at.invariant ∙ fault_later _ _ _ _ _ _ _ _ c.loop-at-test.true (sym c.in_ok-next.ensures)

pub returns : goal.returns
returns c = sym (c.loop-at.invariant ∙ no_fault _ _ _ c.loop-at-test.false)
