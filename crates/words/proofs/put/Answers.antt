-- `words::put` meets its contract.
use Rattle.std.proofs.Common.{◌+◌, ◌-◌, length, arith}
use Rattle.words.proofs.Writing.{placed}
use Rattle.words.proofs.put.Goals as goal

pub returns : goal.returns
returns c =
    let n = c.args.at + length c.args.new.now - c.args.at in
    rw c.copy_from_slice.ensures.after (placed c.args.words.now c.args.new.now c.args.at n (omega arith) (omega arith))
