-- `play::play_events` meets its contract. Assumes nothing.
use Rattle.std.proofs.Common.{◌∙◌, arith}
use Rattle.play.specs.laws.Parts.{all_used, none_found, stopped, went_on, few_done, none_refused, still_long}
use Rattle.play.proofs.Laws.{unrefused}
use Rattle.play.proofs.play_events.Goals as goal

pub returns-then-filled-eq0 : goal.returns-then-filled-eq0
returns-then-filled-eq0 c =
    unrefused _ c.loop-ran.invariant.1 ∙ none_found _ _ _ _ _ _ c.loop-ran.invariant.2 _ _ _
    c.loop-ran.invariant.0 c.fill-filled.ensures c.if-filled-eq0.true

pub overflow_add-ran : goal.overflow_add-ran
overflow_add-ran c =
    omega (
      arith,
      few_done _ _ _ _ c.run-part.ensures,
      c.loop-ran-test.true,
    )

pub returns-then-part-n : goal.returns-then-part-n
returns-then-part-n c =
    stopped _ _ _ _ _ _
    c.loop-ran.invariant.2 _ _ _
    c.loop-ran.invariant.0
    c.fill-filled.ensures _
    c.min-n.ensures _ c.run-part.ensures c.if-part-n.true

pub loop-ran-preserved : goal.loop-ran-preserved
loop-ran-preserved c = (
  still_long c.fill-filled.ensures
      c.loop-ran.invariant.0,
  none_refused _ _ _ _ c.run-part.ensures c.if-part-n.false,
  went_on _ _ _ _ _ _ c.loop-ran.invariant.2 _ _ _
      c.loop-ran.invariant.0
      c.fill-filled.ensures _ c.min-n.ensures _
      c.run-part.ensures c.if-part-n.false,
)

pub returns : goal.returns
returns c = unrefused _ c.loop-ran.invariant.1 ∙ all_used _ _ _ _ _ _ c.loop-ran.invariant.2 c.loop-ran-test.false
