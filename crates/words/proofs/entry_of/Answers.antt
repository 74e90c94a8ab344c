-- `words::entry_of` meets its contract.
use Rattle.std.proofs.Common.{rules}
use Rattle.number.specs.laws.ValueLaws.{signed_of_bits}
use Rattle.rows.specs.Row.{entry_of}
use Rattle.words.proofs.entry_of.Goals as goal

pub returns-in-1 : goal.returns-in-1
unfolding entry_of
returns-in-1 c = rw (signed_of_bits c.signed.result _ (search rules) c.signed.ensures, c.in-1.is)

pub returns-in-2 : goal.returns-in-2
unfolding entry_of
returns-in-2 c = rw (signed_of_bits c.signed-in-2.result _ (search rules) c.signed-in-2.ensures, c.in-2.is)
