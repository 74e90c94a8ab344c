-- `exports::packed_verdict` meets its contract. Assumes nothing.
use Rattle.std.proofs.Common.{sym, ap, subst, arith}
use Rattle.exports.specs.Packed.{packed_verdict}
use Rattle.exports.specs.Unpacked.{VerdictFits}
use Rattle.exports.proofs.packed_verdict.Goals as goal

pub overflow_add-result-in-Refused : goal.overflow_add-result-in-Refused
overflow_add-result-in-Refused c = let h = (subst VerdictFits c.in-Refused.is c.requires).2 in omega arith

pub returns-in-Lawful : goal.returns-in-Lawful
unfolding packed_verdict
returns-in-Lawful c = sym (ap packed_verdict c.in-Lawful.is)

pub returns-in-Unlawful : goal.returns-in-Unlawful
unfolding packed_verdict
returns-in-Unlawful c = sym (ap packed_verdict c.in-Unlawful.is)

pub returns-in-Refused : goal.returns-in-Refused
unfolding packed_verdict
returns-in-Refused c = sym (ap packed_verdict c.in-Refused.is)
