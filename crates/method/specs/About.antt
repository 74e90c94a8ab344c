-- Which client an event is about.
use Rattle.std.specs.Prelude.{ℕ, None, Some, Option}
use Rattle.method.specs.declared.Message.{Message}
use Rattle.method.specs.declared.Event.{Event}
use Rattle.method.specs.declared.Event.TheVariants.{StartRead, StartWrite, Deliver, Lose, Copy, Resend, Stop, Off, On, Unknown}

-- the client that a slot's message is about; 0 where it is empty
unfoldable pub client_in : Option Message → ℕ
client_in None = 0
client_in (Some m) = m.client.0

-- its client: the one it names, else its message's
unfoldable pub client_of : Event → Option Message → ℕ
client_of (StartRead client cell) held = client.0
client_of (StartWrite client cell v) held = client.0
client_of (Deliver slot) held = client_in held
client_of (Lose slot) held = client_in held
client_of (Copy slot) held = client_in held
client_of (Resend client) held = client.0
client_of (Stop client) held = client.0
client_of (Off replica) held = 0
client_of (On replica) held = 0
client_of Unknown held = 0
