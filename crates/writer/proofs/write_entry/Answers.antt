-- `writer::write_entry` meets its contract: both ways out that refuse say that the entry is longer than the room from the place on. Assumes nothing.
use Rattle.std.proofs.Common.{arith}
use Rattle.number.specs.laws.NumberLaws.{refuses, places}
use Rattle.writer.proofs.write_entry.Goals as goal

pub returns-in_err-room : goal.returns-in_err-room
returns-in_err-room c = rw c.from_residual.ensures (refuses _ _ _ (omega (arith, c.in_err-room.ensures)))

pub returns-then-room-entry_length : goal.returns-then-room-entry_length
returns-then-room-entry_length c = refuses _ _ _ (omega (arith, c.in_ok-room.ensures.1, c.entry_length.ensures))

pub returns : goal.returns
returns c = places _ _ _ _ _ (omega (arith, c.in_ok-room.ensures.1, c.entry_length.ensures)) c.put_entry.ensures
