-- What the wrong answers that are ruled out are said of: examples.
use Rattle.std.specs.Prelude.{Some, Option}
use Rattle.method.specs.declared.Operation.{Operation}
use Rattle.method.specs.declared.Message.{Message}
use Rattle.stamps.specs.Stamp.{fresh_pair}
use Rattle.stamps.specs.Examples.{pair_of}
use Rattle.method.specs.declared.Body.TheVariants.{Tell, Keep}
use Rattle.method.specs.declared.Goal.TheVariants.{Read}
use Rattle.method.specs.declared.Phase.TheVariants.{Asking}
use Rattle.method.specs.declared.Sight.{Sight}
use Rattle.method.specs.Plan.{message_of, active_party}

-- three replicas, all on, and a client at what it is at
abbrev pub three : Option Operation → Sight
three work = record { quorums = record { replicas = 3 }; power = 0b111; party = active_party 1 work; pair = fresh_pair }

-- it has asked to read cell 0, and replica 0 has told
abbrev pub reading : Option Operation
reading = Some (record { cell = record { 0 = 0 }; goal = Read; phase = Asking (Some (pair_of 1 0 5)); set = 0b001 })

-- now replica 1 tells it a pair with a greater stamp
abbrev pub telling : Option Message
telling = Some (message_of (record { 0 = 0 }) (record { 0 = 1 }) (record { 0 = 0 }) 1 (Tell (pair_of 2 1 6)))

-- a replica that is given the pair it has takes nothing, and answers all the same
abbrev pub giving : Option Message
giving = Some (message_of (record { 0 = 0 }) (record { 0 = 0 }) (record { 0 = 0 }) 1 (Keep fresh_pair))

-- a replica that is given a pair with a greater stamp
abbrev pub newer : Option Message
newer = Some (message_of (record { 0 = 0 }) (record { 0 = 0 }) (record { 0 = 0 }) 1 (Keep (pair_of 2 1 6)))
