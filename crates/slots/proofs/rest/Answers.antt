-- `slots::rest` meets its contract.
use Rattle.slots.specs.Free.{word_bits}
use Rattle.slots.proofs.Laws.{one_shl}
use Rattle.slots.specs.laws.Bits.{trailing_room}
use Rattle.slots.proofs.rest.Goals as goal

pub overflow_sub-result : goal.overflow_sub-result
overflow_sub-result c = rw (one_shl c.low.result c.low.ensures.1, c.low.ensures.0) (trailing_room word_bits c.args.x c.requires)
