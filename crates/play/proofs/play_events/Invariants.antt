-- `play::play_events` meets its contract: what is left to run gives the whole. The measure is how many events are still allowed. Assumes nothing.
use Rattle.std.proofs.Common.{◌≡◌, ◌-◌, length}
use Rattle.play.specs.laws.Parts.{Playing}
use Rattle.script.specs.Script.{events_from, words_of}
use Rattle.rack.specs.Run.{run_of}
use Rattle.play.proofs.play_events.Given as goal

abbrev pub invariant-loop-ran : goal.invariant-loop-ran
invariant-loop-ran l = (length l.words ≡ 2048) × (l.ran.refusal ≡ 0) × Playing l.s l.allowance (run_of l.fn.rack l.allowance (words_of (events_from l.s l.first))) l.ran.rack l.ran.done l.at

abbrev pub decreases-loop-ran : goal.decreases-loop-ran
decreases-loop-ran l = l.allowance - l.ran.done
