-- `words::put_lines` meets its contract.
use Rattle.std.proofs.Common.{refl}
use Rattle.words.proofs.Writing.{put_none, put_more}
use Rattle.words.proofs.put_lines.Goals as goal

pub loop-i-init : goal.loop-i-init
loop-i-init c = put_none _ _ _

pub loop-i-preserved : goal.loop-i-preserved
loop-i-preserved c = put_more _ _ _ _ _ _ c.loop-i.i c.loop-i.invariant refl c.put_entry.ensures
