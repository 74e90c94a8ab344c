-- What is counted of a run, from the events done. The paper: "From a fresh rack: slots in use equal messages sent plus copies, less deliveries, less
-- losses, each counted from the events done. A finished operation has cost 2 requests per replica, plus its resends."
use Rattle.std.specs.Prelude.{ℕ, ◌+◌, ◌*◌, Bool, true, false, cond, not, ◌&&◌, List, [], ◌∷◌, ltb, eqb, None, Some, Option}
use Rattle.method.specs.declared.Operation.{Operation}
use Rattle.record.specs.declared.Entry.{Entry}
use Rattle.record.specs.declared.Entry.TheVariants.{ReadAsked, WriteAsked, Told, Done}
use Rattle.slots.specs.Free.{count_from}
use Rattle.method.specs.declared.Body.{Body}
use Rattle.method.specs.declared.Body.TheVariants.{Ask, Tell, Keep, Kept}
use Rattle.method.specs.declared.Message.{Message}
use Rattle.rack.specs.declared.Slot.{Slot}
use Rattle.method.specs.declared.Phase.{Phase}
use Rattle.method.specs.declared.Phase.TheVariants.{Asking, Keeping}
use Rattle.method.specs.declared.Party.{Party}
use Rattle.rack.specs.declared.Rack.{Rack}
use Rattle.method.specs.declared.Event.{Event}
use Rattle.method.specs.declared.Event.TheVariants.{StartRead, StartWrite, Deliver, Lose, Copy, Resend, Stop, Off, On, Unknown}
use Rattle.method.specs.declared.Plan.{Plan}
use Rattle.rack.specs.Places.{of_sizes, slot_limit, free_at}
use Rattle.rack.specs.Run.{made_of, run_of}
use Rattle.rack.specs.Counts.{sent_by, delivered_by, count_over}

-- ---- slots in use

-- the slots of the wire that hold a message
unfoldable pub in_use : List Slot → ℕ
in_use wire = count_from slot_limit 0 (λ i. not (free_at wire i))

-- ---- messages

-- copies: one for each copy event (messages sent and deliveries: `sent_by` and `delivered_by` of crate rack)
unfoldable pub copied_by : Event → ℕ
copied_by (StartRead client cell) = 0
copied_by (StartWrite client cell v) = 0
copied_by (Deliver slot) = 0
copied_by (Lose slot) = 0
copied_by (Copy slot) = 1
copied_by (Resend client) = 0
copied_by (Stop client) = 0
copied_by (Off replica) = 0
copied_by (On replica) = 0
copied_by Unknown = 0

-- losses: one for each lose event
unfoldable pub lost_by : Event → ℕ
lost_by (StartRead client cell) = 0
lost_by (StartWrite client cell v) = 0
lost_by (Deliver slot) = 0
lost_by (Lose slot) = 1
lost_by (Copy slot) = 0
lost_by (Resend client) = 0
lost_by (Stop client) = 0
lost_by (Off replica) = 0
lost_by (On replica) = 0
lost_by Unknown = 0

-- a count over the events of a run that were done
unfoldable pub total_of : (Event → Plan → ℕ) → Rack → ℕ → List ℕ → ℕ
total_of f r allowance ws = count_over f (run_of r allowance ws).done r ws

-- the counts of a run
pub record Tally : Type 0 where
  pub sent : ℕ
  pub copied : ℕ
  pub delivered : ℕ
  pub lost : ℕ

-- what a run sends, copies, delivers and loses, each counted from the events done
abbrev pub tally_of : Rack → ℕ → List ℕ → Tally
tally_of r allowance ws = record {
  sent = total_of sent_by r allowance ws;
  copied = total_of (λ e p. copied_by e) r allowance ws;
  delivered = total_of (λ e p. delivered_by e) r allowance ws;
  lost = total_of (λ e p. lost_by e) r allowance ws;
}

-- ---- requests

-- an ask and a keep are requests, a tell and a kept are answers
unfoldable pub is_request : Body → Bool
is_request Ask = true
is_request (Tell p) = false
is_request (Keep p) = true
is_request Kept = false

-- a message is a request of client c for its operation k
unfoldable pub request_of : ℕ → ℕ → Message → Bool
request_of c k m = is_request m.body && (eqb m.client.0 c && eqb m.op k)

-- requests that an event sends for operation k of client c
unfoldable pub requests_by : ℕ → ℕ → Event → Plan → ℕ
requests_by c k e p = cond (request_of c k p.message) (sent_by e p) 0

-- those of them that a resend sends
unfoldable pub resent_by : ℕ → ℕ → Event → Plan → ℕ
resent_by c k (StartRead client cell) p = 0
resent_by c k (StartWrite client cell v) p = 0
resent_by c k (Deliver slot) p = 0
resent_by c k (Lose slot) p = 0
resent_by c k (Copy slot) p = 0
resent_by c k (Resend client) p = requests_by c k (Resend client) p
resent_by c k (Stop client) p = 0
resent_by c k (Off replica) p = 0
resent_by c k (On replica) p = 0
resent_by c k Unknown p = 0

-- what an open operation has cost so far, resends apart: one request to each of n replicas while it asks, two from then on
abbrev pub phase_cost : ℕ → Phase → ℕ
phase_cost n (Asking held) = n
phase_cost n (Keeping held) = 2 * n

-- what the last operation of a client has cost so far
unfoldable pub cost_in : ℕ → Option Operation → ℕ
cost_in n None = 2 * n
cost_in n (Some o) = phase_cost n o.phase

-- what its operation k, from 1 on, has cost: an earlier one two to each, a later one nothing yet
unfoldable pub cost_of : ℕ → Party → ℕ → ℕ
cost_of n party k = cond (ltb k party.op) (2 * n) (cond (eqb k party.op) (cost_in n party.work) 0)

-- ---- finished operations, by the record

-- 1 for an entry that ends an operation of client c
unfoldable pub ends_by : ℕ → Entry → ℕ
ends_by c (ReadAsked client cell) = 0
ends_by c (WriteAsked client cell v) = 0
ends_by c (Told client v) = cond (eqb client.0 c) 1 0
ends_by c (Done client) = cond (eqb client.0 c) 1 0

-- how many operations of client c the record ends: those with the numbers 1 to this one
unfoldable pub ends_of : ℕ → List Entry → ℕ
ends_of c [] = 0
ends_of c (e ∷ es) = ends_by c e + ends_of c es

-- ---- a run from what the maker gives

-- the rack that the maker gives
abbrev pub made_rack : ℕ → ℕ → ℕ → Rack
made_rack replicas clients cells = (made_of (of_sizes replicas clients cells)).rack

-- the rack after a run from it
abbrev pub rack_after : ℕ → ℕ → ℕ → ℕ → List ℕ → Rack
rack_after replicas clients cells allowance ws = (run_of (made_rack replicas clients cells) allowance ws).rack
