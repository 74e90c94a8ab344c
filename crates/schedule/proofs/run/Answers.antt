-- Nothing is tried, the rack isn't sound, or the loop runs.
use Rattle.std.proofs.Common.{sym, ◌∙◌}
use Rattle.runs.specs.laws.Steps.{run_from_lem, none_sound}
use Rattle.schedule.proofs.Laws.{none_tried}
use Rattle.schedule.proofs.run.Goals as goal

pub returns-then-allowance-eq0 : goal.returns-then-allowance-eq0
returns-then-allowance-eq0 c = c.ran.ensures ∙ sym (none_tried _ _ _ c.then-allowance-eq0.either)

pub returns-then-not-sound : goal.returns-then-not-sound
returns-then-not-sound c =
    c.ran-then-not-sound.ensures
    ∙ sym (none_sound _ _ _ (sym c.sound.ensures ∙ c.if-not-sound.true) c.if-allowance-eq0.false c.if-events-lt-EVENT_WORDS.false)

pub returns : goal.returns
returns c = c.ran-2.ensures ∙ c.go_on-done.ensures ∙ sym (run_from_lem _ _ _)
