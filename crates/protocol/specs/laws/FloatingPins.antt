-- A floating pin, in the argument: silence is no answer.
use Rattle.std.specs.Prelude.{ℕ}
use Rattle.protocol.specs.View.{Setting, View}
use Rattle.protocol.specs.Move.{choose, Legal}

-- an operation chooses its pair only when enough replicas have told
pub enough_told_before_choosing : (S : Setting) (v : View) (o : ℕ) → Legal S v (choose o) → S.AskEnough (v.ops o).set
enough_told_before_choosing S v o legal = legal.1
