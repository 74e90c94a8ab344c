-- `words::count_in` meets its contract.
use Rattle.words.proofs.Reading.{count_more, count_unknown, count_known}
use Rattle.words.proofs.count_in.Goals as goal

pub returns-then-words-gt-MOST_ENTRIES : goal.returns-then-words-gt-MOST_ENTRIES
returns-then-words-gt-MOST_ENTRIES c = count_more _ c.if-words-gt-MOST_ENTRIES.true

pub returns-then-lines_known : goal.returns-then-lines_known
returns-then-lines_known c = count_known _ _ _ c.if-words-gt-MOST_ENTRIES.false c.requires.0 c.lines_known.ensures c.if-lines_known.true

pub returns-else-lines_known : goal.returns-else-lines_known
returns-else-lines_known c = count_unknown _ _ _ c.if-words-gt-MOST_ENTRIES.false c.requires.0 c.lines_known.ensures c.if-lines_known.false
