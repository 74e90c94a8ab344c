-- `number::read_groups` meets its contract: at each return the tests that led there say which case of `read_go` holds.
-- The measure is the number of bytes that may be left. Assumes nothing.
use Rattle.number.proofs.+read_groups.Given as goal

abbrev pub decreases-read_groups : goal.decreases-read_groups
decreases-read_groups l = l.left
