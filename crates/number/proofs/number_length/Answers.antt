-- `number::number_length` meets its contract: between two limits a number takes as many bytes as the law for these says. Assumes nothing.
use Rattle.std.proofs.Common.{sym}
use Rattle.number.proofs.Laws.{takes_1, takes_2, takes_3, takes_4, takes_5}
use Rattle.number.proofs.number_length.Goals as goal

pub returns-then-n-lt-GROUP : goal.returns-then-n-lt-GROUP
returns-then-n-lt-GROUP c = sym (takes_1 4 c.args.n c.if-n-lt-GROUP.true)

pub returns-then-n-lt-TWO_GROUPS : goal.returns-then-n-lt-TWO_GROUPS
returns-then-n-lt-TWO_GROUPS c = sym (takes_2 3 c.args.n c.if-n-lt-GROUP.false c.if-n-lt-TWO_GROUPS.true)

pub returns-then-n-lt-THREE_GROUPS : goal.returns-then-n-lt-THREE_GROUPS
returns-then-n-lt-THREE_GROUPS c = sym (takes_3 2 c.args.n c.if-n-lt-TWO_GROUPS.false c.if-n-lt-THREE_GROUPS.true)

pub returns-then-n-lt-FOUR_GROUPS : goal.returns-then-n-lt-FOUR_GROUPS
returns-then-n-lt-FOUR_GROUPS c = sym (takes_4 1 c.args.n c.if-n-lt-THREE_GROUPS.false c.if-n-lt-FOUR_GROUPS.true)

pub returns-else-n-lt-FOUR_GROUPS : goal.returns-else-n-lt-FOUR_GROUPS
returns-else-n-lt-FOUR_GROUPS c = sym (takes_5 c.args.n c.if-n-lt-FOUR_GROUPS.false)
