-- The decisions in the order in which the code takes them are those of the table.
use Rattle.std.specs.Prelude.{◌≡◌, Option}
use Rattle.std.proofs.Common.{sym}
use Rattle.method.specs.declared.Message.{Message}
use Rattle.method.specs.declared.Event.{Event}
use Rattle.method.specs.declared.Sight.{Sight}
use Rattle.method.specs.Refusals.{decision_of}
use Rattle.method.specs.laws.InTurn.{turn_of}
use Rattle.method.proofs.theorems.InTurn.{in_turn}

pub decision_is_turn : (s : Sight) (held : Option Message) (e : Event) → decision_of s held e ≡ turn_of s held e
decision_is_turn s held e = sym (in_turn s held e)
