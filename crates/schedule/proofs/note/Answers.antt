use Rattle.std.proofs.Common.{arith}
use Rattle.schedule.proofs.Laws.{noted_none, noted_one, one_entry}
use Rattle.schedule.proofs.note.Goals as goal

pub bounds-rack-rack : goal.bounds-rack-rack
bounds-rack-rack c = omega (arith, one_entry _ _ c.in-Asked.is)

pub returns-in-Nothing : goal.returns-in-Nothing
returns-in-Nothing c = noted_none _ _ c.in-Nothing.is

pub returns-in-Asked : goal.returns-in-Asked
returns-in-Asked c = noted_one _ _ _ c.in-Asked.is
