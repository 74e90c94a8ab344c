-- `reader::survey` meets its contract. The invariant: the head stands over the lent bytes, and the survey has come to its place. The measure: the turns that may follow.
use Rattle.std.proofs.Common.{◌≡◌}
use Rattle.reader.specs.laws.SurveySteps.{Surveying, turns_left}
use Rattle.reader.proofs.survey.Given as goal

abbrev pub invariant-loop-head : goal.invariant-loop-head
invariant-loop-head l = (l.head.bytes.now ≡ l.s) × Surveying l.s l.head.place l.progress

abbrev pub decreases-loop-head : goal.decreases-loop-head
decreases-loop-head l = turns_left l.progress
