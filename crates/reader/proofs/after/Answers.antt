-- `reader::after` meets its contract, by the laws of what is found, case by case. Assumes nothing.
use Rattle.std.proofs.Common.{sym, ap, ◌∙◌}
use Rattle.reader.specs.laws.Survey.{after_found}
use Rattle.reader.specs.laws.SurveySteps.{after_full, after_unread, after_misplaced, after_on}
use Rattle.reader.proofs.after.Goals as goal

pub returns-then-progress-ge-ENTRY_LIMIT : goal.returns-then-progress-ge-ENTRY_LIMIT
returns-then-progress-ge-ENTRY_LIMIT c = c.stopped.ensures ∙ sym (after_full _ _ c.if-progress-ge-ENTRY_LIMIT.true)

pub returns-in-Err : goal.returns-in-Err
returns-in-Err c = c.stopped-in-Err.ensures ∙ sym (after_unread _ _ c.if-progress-ge-ENTRY_LIMIT.false) ∙ ap (after_found _) (sym c.in-Err.is)

pub returns-in-Some : goal.returns-in-Some
returns-in-Some c =
    c.stopped-in-Some.ensures ∙ sym (after_misplaced _ _ _ _ c.if-progress-ge-ENTRY_LIMIT.false (sym c.in-Some.ensures)) ∙ ap (after_found _) (sym c.in-Ok.is)

pub returns-in-None : goal.returns-in-None
returns-in-None c =
    rw c.after.ensures (sym (after_on _ _ _ c.if-progress-ge-ENTRY_LIMIT.false (sym c.in-None.ensures))) ∙ ap (after_found _) (sym c.in-Ok.is)
