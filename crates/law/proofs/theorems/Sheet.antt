-- The bench sheet's record and the same with another last byte: what verdicts on bytes cite, each decided by computing. The sheet's other lines on
-- lawfulness stand in crate sheet.
use Rattle.std.specs.Prelude.{[]}
use Rattle.law.specs.Operation.{note, notes, operations}
use Rattle.law.specs.Order.{Lawful}
use Rattle.law.specs.Part.{part_from, part_of}
use Rattle.law.specs.laws.Decide.{by_yes, by_no}
use Rattle.law.proofs.theorems.Search.{dec_lawful}
use Rattle.law.specs.laws.Sheet.{good, bad}

-- no entries
pub empty_lawful : Lawful (operations [])
unfolding operations notes dec_lawful
empty_lawful = by_yes (dec_lawful (operations [])) tt

pub good_lawful : Lawful (operations good)
unfolding operations notes note dec_lawful
good_lawful = by_yes (dec_lawful (operations good)) tt

-- the part of cell 2 is not lawful
pub bad_cell : ¬ Lawful (operations (part_of 2 bad))
unfolding operations notes note part_of part_from dec_lawful
bad_cell = by_no (dec_lawful (operations (part_of 2 bad))) tt
