use Rattle.std.proofs.Common.{◌≡◌, ℕ, List, length, true, refl, sym, ◌∙◌}
use Rattle.record.specs.Entry.{Found}
use Rattle.reader.specs.declared.ReadingHead.{ReadingHead}
use Rattle.reader.specs.declared.Progress.{Progress}
use Rattle.reader.specs.Head.{under_head, head_after}
use Rattle.reader.specs.laws.Survey.{goes_on, after_found}
use Rattle.reader.specs.laws.SurveySteps.{Surveying, Turned, survey_begins, survey_ends}
use Rattle.reader.proofs.theorems.SurveySteps.{survey_turns}
use Rattle.reader.proofs.survey.Goals as goal

-- the head that stands over s took an entry that was due: it stands over s at the next place, and fewer turns may follow
turned : (s : List ℕ) (h h' : ReadingHead) (p p' : Progress) (f : Found) → h.bytes.now ≡ s → Surveying s h.place p → goes_on p h.place (length s) ≡ true
    → f ≡ under_head h → h' ≡ head_after h → p' ≡ after_found p f → (h'.bytes.now ≡ s) × Turned s h'.place p p'
turned s h h' p p' f same i due found moved next = rw (moved, next, found, same) (refl, survey_turns s h.place p i due)

pub loop-head-init : goal.loop-head-init
loop-head-init c = (refl, rw c.begun-progress.ensures (survey_begins _))

pub loop-head-smaller : goal.loop-head-smaller
loop-head-smaller c =
    (turned _ _ _ _ _ _ c.loop-head.invariant.0 c.loop-head.invariant.1 (sym c.goes_on.ensures ∙ c.loop-head-test.true) c.take-found.ensures.0 c.take-found.ensures.1
    c.after-progress.ensures).1.fewer

pub loop-head-preserved : goal.loop-head-preserved
loop-head-preserved c =
    let t = turned _ _ _ _ _ _ c.loop-head.invariant.0 c.loop-head.invariant.1 (sym c.goes_on.ensures ∙ c.loop-head-test.true) c.take-found.ensures.0 c.take-found.ensures.1
    c.after-progress.ensures in
    (t.0, t.1.after)

pub returns : goal.returns
returns c = c.answer_of.ensures ∙ survey_ends _ _ _ c.loop-head.invariant.1 (sym c.goes_on.ensures ∙ c.loop-head-test.false)
