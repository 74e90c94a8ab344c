-- What is counted from the events of a schedule that are done: messages sent, deliveries.
use Rattle.std.specs.Prelude.{ℕ, zero, suc, ◌+◌, List, [], ◌∷◌, Err, Ok}
use Rattle.std.specs.Int.Count.{ones}
use Rattle.rack.specs.declared.Rack.{Rack}
use Rattle.method.specs.declared.Event.{Event}
use Rattle.method.specs.declared.Event.TheVariants.{StartRead, StartWrite, Deliver, Lose, Copy, Resend, Stop, Off, On, Unknown}
use Rattle.method.specs.declared.Plan.{Plan}
use Rattle.method.specs.Decision.{Decision}
use Rattle.rack.specs.Run.{event_of, applied_of}
use Rattle.rack.specs.Refusals.{decided}

-- messages sent, counted from the events done; what a copy puts in a slot isn't sent anew
unfoldable pub sent_by : Event → Plan → ℕ
sent_by (StartRead client cell) p = ones p.to
sent_by (StartWrite client cell v) p = ones p.to
sent_by (Deliver slot) p = ones p.to
sent_by (Lose slot) p = ones p.to
sent_by (Copy slot) p = 0
sent_by (Resend client) p = ones p.to
sent_by (Stop client) p = ones p.to
sent_by (Off replica) p = ones p.to
sent_by (On replica) p = ones p.to
sent_by Unknown p = ones p.to

-- deliveries
unfoldable pub delivered_by : Event → ℕ
delivered_by (StartRead client cell) = 0
delivered_by (StartWrite client cell v) = 0
delivered_by (Deliver slot) = 1
delivered_by (Lose slot) = 0
delivered_by (Copy slot) = 0
delivered_by (Resend client) = 0
delivered_by (Stop client) = 0
delivered_by (Off replica) = 0
delivered_by (On replica) = 0
delivered_by Unknown = 0

-- what is counted of an event if it is done, and of those after it; a refusal ends the count
unfoldable pub counted : (Event → Plan → ℕ) → Rack → Event → Decision → (Rack → ℕ) → ℕ
counted f r e (Err k) next = 0
counted f r e (Ok p) next = f e p + next (applied_of r e p)

-- a count over the events of a schedule that are done, where `left` of the allowance is left
unfoldable pub count_over : (Event → Plan → ℕ) → ℕ → Rack → List ℕ → ℕ
count_over f zero r ws = 0
count_over f (suc left) r [] = 0
count_over f (suc left) r (k ∷ []) = 0
count_over f (suc left) r (k ∷ a ∷ []) = 0
count_over f (suc left) r (k ∷ a ∷ b ∷ []) = 0
count_over f (suc left) r (k ∷ a ∷ b ∷ v ∷ ws) = counted f r (event_of k a b v) (decided r (event_of k a b v)) (λ q. count_over f left q ws)
