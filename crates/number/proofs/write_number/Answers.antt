-- `number::write_number` meets its contract: both ways out that refuse say that the number is longer than the room from the place on.
-- Assumes nothing.
use Rattle.std.proofs.Common.{arith}
use Rattle.number.specs.Number.{number_bytes}
use Rattle.number.specs.laws.NumberLaws.{refuses, places}
use Rattle.number.proofs.write_number.Goals as goal

pub returns-in_err-room : goal.returns-in_err-room
returns-in_err-room c =
    let a = c.args in
    rw c.from_residual.ensures (refuses a.buf.now a.at (number_bytes a.n) (omega (arith, c.in_err-room.ensures)))

pub returns-then-room-number_length : goal.returns-then-room-number_length
returns-then-room-number_length c =
    let a = c.args in
    refuses a.buf.now a.at (number_bytes a.n) (omega (arith, c.in_ok-room.ensures.0, c.in_ok-room.ensures.1, c.if-room-number_length.true, c.number_length.ensures))

pub returns : goal.returns
returns c =
    let a = c.args in
    places a.buf.now a.at (number_bytes a.n) _ _ (omega (arith, c.in_ok-room.ensures.0, c.in_ok-room.ensures.1, c.if-room-number_length.false, c.number_length.ensures)) c.write_groups.ensures
