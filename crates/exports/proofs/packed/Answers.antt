-- `exports::packed` meets its contract. Assumes nothing.
use Rattle.std.proofs.Common.{sym, ap, subst, arith}
use Rattle.exports.specs.Packed.{packed_answer}
use Rattle.exports.specs.Unpacked.{AnswerFits}
use Rattle.exports.proofs.packed.Goals as goal

pub overflow_add-result : goal.overflow_add-result
overflow_add-result c = let h = (subst AnswerFits c.in-Err.is c.requires).2 in omega arith

pub returns-in-Ok : goal.returns-in-Ok
unfolding packed_answer
returns-in-Ok c = sym (ap packed_answer c.in-Ok.is)

pub returns-in-Err : goal.returns-in-Err
unfolding packed_answer
returns-in-Err c = rw (c.from.ensures, c.number.ensures) (sym (ap packed_answer c.in-Err.is))
