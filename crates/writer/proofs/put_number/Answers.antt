-- `writer::put_number` meets its contract: what fits is not refused. Assumes nothing.
use Rattle.std.proofs.Common.{refl}
use Rattle.number.specs.laws.NumberLaws.{put_fits, placed_next}
use Rattle.writer.proofs.put_number.Goals as goal

pub unwrap-requires : goal.unwrap-requires
unwrap-requires c = rw (c.write_number.ensures.answer, put_fits _ _ _ c.requires) refl

pub returns : goal.returns
returns c = placed_next _ _ _ _ _ _ c.requires c.write_number.ensures c.unwrap.ensures
