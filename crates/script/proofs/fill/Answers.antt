-- `script::fill` meets its contract. Assumes nothing.
use Rattle.std.proofs.Common.{sym, ◌∙◌}
use Rattle.script.proofs.Filling.{stops_at_end, stops_at_fault, stops_full, stores}
use Rattle.script.proofs.fill.Goals as goal

pub returns-then-s-next : goal.returns-then-s-next
returns-then-s-next c = stops_at_end _ _ _ _ _ _ c.loop-i.invariant c.if-s-next.true

pub returns-in_default : goal.returns-in_default
returns-in_default c = stops_at_fault _ _ _ _ _ _ c.loop-i.invariant _ _ c.if-s-next.false (sym c.read_event.ensures ∙ c.in_default.is)

pub loop-i-preserved : goal.loop-i-preserved
loop-i-preserved c =
    rw c.put_event.ensures
    (stores _ _ _ _ _ _ c.loop-i.invariant _ _ _ _ _
    c.loop-i-test.true c.if-s-next.false
    (sym c.in-Ok.ensures))

pub returns : goal.returns
returns c = stops_full _ _ _ _ _ _ c.loop-i.invariant c.loop-i-test.false
