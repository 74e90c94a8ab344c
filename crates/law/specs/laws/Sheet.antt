-- The bench sheet's record and the same with another last byte: what verdicts on bytes cite, each decided by computing. The sheet's other lines on
-- lawfulness stand in crate sheet.
use Rattle.std.specs.Prelude.{List, [], ◌∷◌, pos}
use Rattle.record.specs.declared.Entry.{Entry}
use Rattle.law.specs.Examples.{reads, writes, told_by, done_by}

-- a write of 5 is done_by, and then a read is told_by 5
abbrev pub good : List Entry
good = writes 0 2 (pos 5) ∷ done_by 0 ∷ reads 1 2 ∷ told_by 1 (pos 5) ∷ []

-- a write of 5 is done_by, and then a read is told_by 0
abbrev pub bad : List Entry
bad = writes 0 2 (pos 5) ∷ done_by 0 ∷ reads 1 2 ∷ told_by 1 (pos 0) ∷ []
