-- What an event means, case by case: its kind, and what it names.
use Rattle.std.specs.Prelude.{ℕ}
use Rattle.number.specs.Value.{alternating_of}
use Rattle.method.specs.declared.Event.{Event}
use Rattle.method.specs.declared.Event.TheVariants.{StartRead, StartWrite, Deliver, Lose, Copy, Resend, Stop, Off, On, Unknown}

-- an event's kind, as the first of its four words has it; 9 for what is no event
unfoldable pub kind_in : Event → ℕ
kind_in (StartRead client cell) = 0
kind_in (StartWrite client cell v) = 1
kind_in (Deliver slot) = 2
kind_in (Lose slot) = 3
kind_in (Copy slot) = 4
kind_in (Resend client) = 5
kind_in (Stop client) = 6
kind_in (Off replica) = 7
kind_in (On replica) = 8
kind_in Unknown = 9

-- the client, slot or replica that it names; 0 where it names none
unfoldable pub first_in : Event → ℕ
first_in (StartRead client cell) = client.0
first_in (StartWrite client cell v) = client.0
first_in (Deliver slot) = slot
first_in (Lose slot) = slot
first_in (Copy slot) = slot
first_in (Resend client) = client.0
first_in (Stop client) = client.0
first_in (Off replica) = replica.0
first_in (On replica) = replica.0
first_in Unknown = 0

-- the cell of a start; 0 where there is none
unfoldable pub cell_in : Event → ℕ
cell_in (StartRead client cell) = cell.0
cell_in (StartWrite client cell v) = cell.0
cell_in (Deliver slot) = 0
cell_in (Lose slot) = 0
cell_in (Copy slot) = 0
cell_in (Resend client) = 0
cell_in (Stop client) = 0
cell_in (Off replica) = 0
cell_in (On replica) = 0
cell_in Unknown = 0

-- the value of a write as it stands in a record; 0 where there is none
unfoldable pub value_in : Event → ℕ
value_in (StartRead client cell) = 0
value_in (StartWrite client cell v) = alternating_of v
value_in (Deliver slot) = 0
value_in (Lose slot) = 0
value_in (Copy slot) = 0
value_in (Resend client) = 0
value_in (Stop client) = 0
value_in (Off replica) = 0
value_in (On replica) = 0
value_in Unknown = 0
