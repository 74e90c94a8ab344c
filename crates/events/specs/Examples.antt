-- What the wrong answers that are ruled out are said of: examples.
use Rattle.std.specs.Prelude.{Bool, Ok}
use Rattle.method.specs.declared.Body.TheVariants.{Keep}
use Rattle.method.specs.declared.Message.{Message}
use Rattle.method.specs.declared.Note.{Note}
use Rattle.method.specs.Decision.{Decision}
use Rattle.stamps.specs.Stamp.{fresh_pair}
use Rattle.method.specs.Plan.{message_of}
use Rattle.rack.specs.Places.{idle}
use Rattle.stamps.specs.Examples.{pair_of}

-- a keep from client 1 to replica 2 about cell 3
abbrev pub message : Message
message = message_of (record { 0 = 1 }) (record { 0 = 2 }) (record { 0 = 3 }) 1 (Keep (pair_of 1 0 5))

-- a plan that empties its slot or not, adds an entry or none, and sends to three replicas
abbrev pub sending : Bool → Note → Decision
sending clear note = Ok (record { party = idle; pair = fresh_pair; power = 0b111; clear = clear; note = note; message = message; to = 0b111 })
