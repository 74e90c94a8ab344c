use Rattle.std.proofs.Common.{ℕ, ◌≡◌, sym, ap, ◌∙◌, arith}
use Rattle.rack.specs.Run.{ran_of}
use Rattle.runs.specs.laws.Loop.{going_start, going_no, going_out}
use Rattle.schedule.proofs.Laws.{going_next}
use Rattle.schedule.proofs.go_on.Goals as goal

pub loop-i-init : goal.loop-i-init
loop-i-init c = going_start _ _ _ _ _ c.requires.0 c.free_of-free.ensures.0 c.free_of-free.ensures.1 c.requires.1

pub returns-in-Err : goal.returns-in-Err
returns-in-Err c =
    going_no _ _ _ _ _ _ _ c.loop-i.invariant _ c.event_at-event.ensures _ _ (sym c.decided.ensures ∙ c.in-Err.is) c.most-n.ensures c.loop-i-test.true

pub loop-i-preserved : goal.loop-i-preserved
loop-i-preserved c =
    going_next _ _ _ (sym c.decided.ensures ∙ c.in-Ok.is) _ _ c.apply.ensures.1 _ _ _ _ _ _ _ c.loop-i.invariant c.event_at-event.ensures c.most-n.ensures
    c.loop-i-test.true c.apply.ensures.0

pub returns : goal.returns
returns c =
    let e : c.most-n.result ≡ c.loop-i.i = omega arith in
    ap (λ (k : ℕ). ran_of k 0 c.loop-i.rack) e ∙ going_out _ _ _ _ _ _ _ c.loop-i.invariant _ c.most-n.ensures c.loop-i-test.false
