-- What the wrong answers that are ruled out are said of: examples.
use Rattle.std.specs.Prelude.{ℕ, true, Some, Option}
use Rattle.method.specs.declared.Operation.{Operation}
use Rattle.method.specs.declared.Body.TheVariants.{Ask}
use Rattle.method.specs.declared.Message.{Message}
use Rattle.method.specs.declared.Goal.TheVariants.{Read}
use Rattle.method.specs.declared.Phase.TheVariants.{Asking}
use Rattle.method.specs.declared.Party.{Party}
use Rattle.rack.specs.declared.Settings.{Settings}
use Rattle.method.specs.Plan.{message_of}
use Rattle.stamps.specs.Examples.{pair_of}

-- three replicas, two clients, one cell
abbrev pub sizes : Settings
sizes = record { replicas = 3; clients = 2; cells = 1 }

-- an ask of cell 0 by client 1, to a replica
abbrev pub asks : ℕ → Message
asks k = message_of (record { 0 = 1 }) (record { 0 = k }) (record { 0 = 0 }) 1 Ask

-- an ask phase in which these have told
abbrev pub told : ℕ → Option Operation
told set = Some (record { cell = record { 0 = 0 }; goal = Read; phase = Asking (Some (pair_of 1 0 5)); set = set })

-- a client that is stopped with an operation open
abbrev pub stopped : Party
stopped = record { stopped = true; op = 1; work = told 0b001 }
