-- What each plan adds to the counts: the slot that it frees, the messages that it sends, the requests among them and the entry that ends an operation.
use Rattle.std.specs.Prelude.{ℕ, ◌+◌, ◌≤◌, ◌<◌, ◌≡◌, false, None, Some, Ok, Option}
use Rattle.std.proofs.Math.Path.{refl, sym, subst}
use Rattle.std.proofs.Common.{ap, ◌∙◌, arith, eq-eqb, ne_eqb}
use Rattle.std.proofs.Math.Bool.{true}
use Rattle.std.specs.Int.Count.{ones}
use Rattle.record.specs.declared.Client.{Client}
use Rattle.record.specs.declared.Cell.{Cell}
use Rattle.quorum.specs.Sets.{set_bits, with_replica, every_replica}
use Rattle.quorum.proofs.theorems.SetLaws.{none_count, none_has, with_fresh, every_count}
use Rattle.stamps.specs.declared.Pair.{Pair}
use Rattle.method.specs.declared.Body.{Body}
use Rattle.method.specs.declared.Body.TheVariants.{Ask, Tell, Keep, Kept}
use Rattle.method.specs.declared.Message.{Message}
use Rattle.method.specs.declared.Goal.{Goal}
use Rattle.method.specs.declared.Goal.TheVariants.{Read, Write}
use Rattle.method.specs.declared.Phase.{Phase}
use Rattle.method.specs.declared.Phase.TheVariants.{Asking, Keeping}
use Rattle.method.specs.declared.Operation.{Operation}
use Rattle.method.specs.declared.Party.{Party}
use Rattle.method.specs.declared.Sight.{Sight}
use Rattle.method.specs.declared.Event.{Event}
use Rattle.method.specs.declared.Event.TheVariants.{StartRead, StartWrite, Deliver, Lose, Copy, Resend, Stop, Off, On, Unknown}
use Rattle.method.specs.declared.Note.{Note}
use Rattle.method.specs.declared.Note.TheVariants.{Nothing, Asked, Ended}
use Rattle.method.specs.declared.Plan.{Plan}
use Rattle.method.specs.Holding.{first_entry, last_entry}
use Rattle.method.specs.Plan.{to_replicas, used_up, answered, powered, planned, active_party, request}
use Rattle.method.specs.Method.{Starts, Delivers, Copies, Resends, Stops, Does}
use Rattle.method.specs.Method.Delivers.{tells, takes, hears, chooses, counts, ends, spends}
use Rattle.method.specs.About.{client_in, client_of}
use Rattle.rack.specs.declared.Settings.{Settings}
use Rattle.rack.specs.declared.Rack.{Rack}
use Rattle.rack.specs.Sound.{held_fits, owes, sound_of}
use Rattle.rack.specs.Looking.{looked_held, looked_client, looked_party, sight}
use Rattle.rack.specs.Refusals.{freed, decided}
use Rattle.rack.specs.laws.SoundLaws.{Sound, sound_of_lem, named, bits_enough}
use Rattle.rack.specs.laws.Decided.{Decided}
use Rattle.rack.proofs.theorems.Decided.{decided_fits}
use Rattle.rack.specs.Counts.{sent_by, delivered_by}
use Rattle.counts.specs.laws.Costing.{requests_else, requests_own, none_sent, silent, answers, start_cost, phase_cost_lem, same_cost}
use Rattle.counts.specs.Counts.{copied_by, lost_by, is_request, requests_by, resent_by, phase_cost, cost_in, cost_of, ends_by}

-- ---- plans

-- 1 for a note that ends an operation of client c
abbrev pub ends_in : ℕ → Note → ℕ
ends_in c Nothing = 0
ends_in c (Asked e) = ends_by c e
ends_in c (Ended e) = ends_by c e

last_ends : (goal : Goal) (client : Client) (held : Pair) → ends_by client.0 (last_entry goal client held) ≡ 1
unfolding last_entry ends_by
last_ends Read client held = rw (eq-eqb client.0 client.0 refl)
last_ends (Write v) client held = rw (eq-eqb client.0 client.0 refl)

last_else : (goal : Goal) (client : Client) (held : Pair) (c : ℕ) → (client.0 ≡ c → ⊥) → ends_by c (last_entry goal client held) ≡ 0
unfolding last_entry ends_by
last_else Read client held c h = rw (ne_eqb client.0 c h)
last_else (Write v) client held c h = rw (ne_eqb client.0 c h)

first_none : (goal : Goal) (client : Client) (cell : Cell) (c : ℕ) → ends_by c (first_entry goal client cell) ≡ 0
unfolding ends_by
first_none Read client cell c = refl
first_none (Write v) client cell c = refl

-- an operation that is open costs what its phase does, and owes an answer
open_cost : (n : ℕ) (w : Option Operation) (o : Operation) (ph : Phase) → w ≡ Some o → o.phase ≡ ph → cost_in n w ≡ phase_cost n ph
unfolding cost_in
open_cost n w o ph e q = ap (cost_in n) e ∙ ap (phase_cost n) q

open_owes : (w : Option Operation) (o : Operation) → w ≡ Some o → owes w ≡ 1
unfolding owes
open_owes w o e = ap owes e

-- a plan of an event that looked at a client
pub record PlanCounts (n client : ℕ) (party : Party) (e : Event) (p : Plan) : Type 0 where
  -- the slot that it frees was delivered or lost
  pub clears : freed p.clear ≡ delivered_by e + lost_by e
  -- the slots that it fills
  pub fills : ones p.to ≡ sent_by e p + copied_by e
  -- what its client's operations have cost
  pub costs : (k : ℕ) → cost_of n p.party k + resent_by client k e p ≡ cost_of n party k + requests_by client k e p
  -- its client's operations: those that have ended, and one that is open
  pub ends : ends_in client p.note + owes p.party.work + party.op ≡ owes party.work + p.party.op
  -- no other client's
  pub else_costs : (c k : ℕ) → (client ≡ c → ⊥) → requests_by c k e p ≡ 0
  pub else_ends : (c : ℕ) → (client ≡ c → ⊥) → ends_in c p.note ≡ 0

-- ---- an event's plan

module _ (s : Sight) (few : s.quorums.replicas ≤ set_bits) where
  -- how many replicas there are
  abbrev n : ℕ
  n = s.quorums.replicas

  -- the client that the event looks at
  abbrev party : Party
  party = s.party

  to_all : ones (every_replica n) ≡ n
  to_all = every_count n few

  to_one : (k : ℕ) → k < set_bits → ones (with_replica 0 k) ≡ 1
  to_one k h = with_fresh 0 k h (none_has k) ∙ ap (λ (x : ℕ). x + 1) none_count

  -- ---- start

  start_counts : (e : Event) (client : Client) (cell : Cell) (goal : Goal) (p : Plan) → Starts s client cell goal p
      → delivered_by e + lost_by e ≡ 0 → copied_by e ≡ 0 → ((q : Plan) → sent_by e q ≡ ones q.to) → ((c k : ℕ) (q : Plan) → resent_by c k e q ≡ 0)
      → PlanCounts n client.0 party e p
  unfolding freed owes cost_of cost_in requests_by is_request
  start_counts e client cell goal p x d c sent r =
      let m : Message = to_replicas client cell (party.op + 1) Ask in
      subst (PlanCounts n client.0 party e) (sym x.plan)
      (record {
        clears = sym d;
        fills = sym (rw (sent _, c) (omega arith));
        costs = λ k. rw (r _ _ _, requests_own k m refl, sent _, to_all, x.before) (omega (arith, start_cost n party.op k));
        ends = rw (x.before, first_none goal client cell client.0) (omega arith);
        else_costs = λ c k h. rw (requests_else c k m h);
        else_ends = λ c h. first_none goal client cell c;
      })

  -- ---- a plan after which the client has sent no request and its present operation is where it was

  -- the note is none and the client is at the same place
  quiet : (client : ℕ) (e : Event) (p : Plan) → freed p.clear ≡ delivered_by e + lost_by e → ones p.to ≡ sent_by e p + copied_by e → p.note ≡ Nothing
      → p.party.op ≡ party.op → cost_in n p.party.work ≡ cost_in n party.work → owes p.party.work ≡ owes party.work
      → ((c k : ℕ) → requests_by c k e p ≡ 0) → PlanCounts n client party e p
  quiet client e p cl f nt op work owing none =
      record {
        clears = cl;
        fills = f;
        costs = λ k. same_cost n client k party e p op work (none client k);
        ends = rw (nt, op, owing) (omega arith);
        else_costs = λ c k h. none c k;
        else_ends = λ c h. ap (ends_in c) nt;
      }

  -- ---- a slot's message

  module _ (m : Message) (there : m.replica.0 < set_bits) where
    used_counts : (e : Event) → delivered_by e + lost_by e ≡ 1 → copied_by e ≡ 0 → PlanCounts n m.client.0 party e (used_up s m)
    unfolding freed
    used_counts e d c =
        let z : sent_by e (used_up s m) ≡ 0 = none_sent e (used_up s m) refl in
        quiet m.client.0 e (used_up s m) (sym d) (omega (arith, none_count, z, c)) refl refl refl refl (λ c k. silent c k e (used_up s m) z)

    -- the client is in the same phase, with another set
    stays_counts : (slot : ℕ) (o : Operation) → cost_in n (Some o) ≡ cost_in n party.work → owes (Some o) ≡ owes party.work
        → PlanCounts n m.client.0 party (Deliver slot) (planned s (active_party party.op (Some o)) true Nothing m 0)
    unfolding freed delivered_by lost_by sent_by copied_by
    stays_counts slot o c w =
        let z : ones 0 ≡ 0 = none_count in
        quiet m.client.0 (Deliver slot) _ refl (omega arith) refl refl c w (λ c k. silent c k (Deliver slot) _ z)

    answered_counts : (slot : ℕ) (after : Pair) (body : Body) → is_request body ≡ false → PlanCounts n m.client.0 party (Deliver slot) (answered s after m body)
    unfolding freed delivered_by lost_by sent_by copied_by
    answered_counts slot after body h = quiet m.client.0 (Deliver slot) _ refl (omega arith) refl refl refl refl (λ c k. answers c k (Deliver slot) _ h)

    deliver_counts : (slot : ℕ) (p : Plan) → Delivers s m p → PlanCounts n m.client.0 party (Deliver slot) p
    unfolding freed delivered_by lost_by sent_by copied_by owes cost_of cost_in requests_by resent_by is_request
    deliver_counts slot p (tells x) = subst (PlanCounts n m.client.0 party (Deliver slot)) (sym x.plan) (answered_counts slot s.pair (Tell s.pair) refl)
    deliver_counts slot p (takes x) = subst (PlanCounts n m.client.0 party (Deliver slot)) (sym x.plan) (answered_counts slot _ Kept refl)
    deliver_counts slot p (hears x) =
        let y = x.heard in
        subst (PlanCounts n m.client.0 party (Deliver slot)) (sym x.plan)
        (stays_counts slot _ (sym (open_cost n party.work y.operation (Asking y.held) y.before y.phase)) (sym (open_owes party.work y.operation y.before)))
    deliver_counts slot p (chooses x) =
        let y = x.heard in
        let q : Message = to_replicas m.client y.operation.cell party.op (Keep x.chosen) in
        subst (PlanCounts n m.client.0 party (Deliver slot)) (sym x.plan)
        (record {
          clears = refl;
          fills = omega arith;
          costs = λ k. rw (requests_own k q refl, to_all, y.before, y.phase) (omega (arith, phase_cost_lem n party.op k));
          ends = rw y.before (omega arith);
          else_costs = λ c k h. rw (requests_else c k q h);
          else_ends = λ c h. refl;
        })
    deliver_counts slot p (counts x) =
        let y = x.counted in
        subst (PlanCounts n m.client.0 party (Deliver slot)) (sym x.plan)
        (stays_counts slot _ (sym (open_cost n party.work y.operation (Keeping y.held) y.before y.phase)) (sym (open_owes party.work y.operation y.before)))
    deliver_counts slot p (ends x) =
        let y = x.counted in
        let z : ones 0 ≡ 0 = none_count in
        let goal : Goal = y.operation.goal in
        let q : Plan = planned s (active_party party.op None) true (Ended (last_entry goal m.client y.held)) m 0 in
        subst (PlanCounts n m.client.0 party (Deliver slot)) (sym x.plan)
        (record {
          clears = refl;
          fills = omega arith;
          costs = λ k.
              same_cost n m.client.0 k party (Deliver slot) q refl (sym (open_cost n party.work y.operation (Keeping y.held) y.before y.phase))
              (silent m.client.0 k (Deliver slot) q z);
          ends = rw (y.before, last_ends goal m.client y.held) (omega arith);
          else_costs = λ c k h. silent c k (Deliver slot) q z;
          else_ends = λ c h. last_else goal m.client y.held c h;
        })
    deliver_counts slot p (spends x) = subst (PlanCounts n m.client.0 party (Deliver slot)) (sym x.plan) (used_counts (Deliver slot) refl refl)

    copy_counts : (slot : ℕ) (p : Plan) → Copies s m p → PlanCounts n m.client.0 party (Copy slot) p
    unfolding freed delivered_by lost_by sent_by copied_by
    copy_counts slot p x =
        subst (PlanCounts n m.client.0 party (Copy slot)) (sym x)
        (quiet m.client.0 (Copy slot) _ refl (to_one m.replica.0 there) refl refl refl refl (λ c k. silent c k (Copy slot) _ refl))

  -- ---- resend, stop, power

  resend_counts : (client : Client) (p : Plan) → Resends s client p → PlanCounts n client.0 party (Resend client) p
  unfolding freed delivered_by lost_by sent_by copied_by resent_by requests_by
  resend_counts client p x =
      let m : Message = to_replicas client x.operation.cell party.op (request x.operation.phase) in
      subst (PlanCounts n client.0 party (Resend client)) (sym x.plan)
      (record {
        clears = refl;
        fills = omega arith;
        costs = λ k. refl;
        ends = omega arith;
        else_costs = λ c k h. rw (requests_else c k m h);
        else_ends = λ c h. refl;
      })

  stop_counts : (client : ℕ) (name : Client) (p : Plan) → Stops s p → PlanCounts n client party (Stop name) p
  unfolding freed delivered_by lost_by sent_by copied_by
  stop_counts client name p x =
      let z : ones 0 ≡ 0 = none_count in
      subst (PlanCounts n client party (Stop name)) (sym x.plan)
      (quiet client (Stop name) _ refl (omega arith) refl refl refl refl (λ c k. silent c k (Stop name) _ z))

  -- a replica is switched
  powered_counts : (client : ℕ) (e : Event) (after : ℕ) → delivered_by e + lost_by e ≡ 0 → copied_by e ≡ 0 → PlanCounts n client party e (powered s after)
  unfolding freed
  powered_counts client e after d c =
      let z = none_sent e _ refl in
      quiet client e _ (sym d) (omega (arith, none_count, z, c)) refl refl refl refl (λ c k. silent c k e _ z)

  -- ---- every event

  pub plan_counts : (held : Option Message) → ((m : Message) → held ≡ Some m → m.replica.0 < set_bits) → (e : Event) (p : Plan) → Does s held e p
      → PlanCounts n (client_of e held) party e p
  unfolding client_of client_in delivered_by lost_by sent_by copied_by resent_by
  plan_counts held h (StartRead client cell) p x = start_counts (StartRead client cell) client cell Read p x refl refl (λ q. refl) (λ c k q. refl)
  plan_counts held h (StartWrite client cell v) p x = start_counts (StartWrite client cell v) client cell (Write v) p x refl refl (λ q. refl) (λ c k q. refl)
  plan_counts None h (Deliver slot) p x = absurd x
  plan_counts (Some m) h (Deliver slot) p x = deliver_counts m (h m refl) slot p x
  plan_counts None h (Lose slot) p x = absurd x
  plan_counts (Some m) h (Lose slot) p x = subst (PlanCounts n m.client.0 party (Lose slot)) (sym x) (used_counts m (h m refl) (Lose slot) refl refl)
  plan_counts None h (Copy slot) p x = absurd x
  plan_counts (Some m) h (Copy slot) p x = copy_counts m (h m refl) slot p x
  plan_counts held h (Resend client) p x = resend_counts client p x
  plan_counts held h (Stop client) p x = stop_counts client.0 client p x
  plan_counts held h (Off replica) p x = subst (PlanCounts n 0 party (Off replica)) (sym x.plan) (powered_counts 0 (Off replica) _ refl refl)
  plan_counts held h (On replica) p x = subst (PlanCounts n 0 party (On replica)) (sym x.plan) (powered_counts 0 (On replica) _ refl refl)
  plan_counts held h Unknown p x = absurd x

-- ---- an event that is done

-- its message is to or from a replica of the rack
held_replica : (z : Settings) (held : Option Message) (m : Message) → held_fits z held ≡ true → held ≡ Some m → m.replica.0 < z.replicas
unfolding held_fits
held_replica z held m h e = (named z m (ap (held_fits z) (sym e) ∙ h)).replica

-- what is done adds what plans add
pub decided_counts : (r : Rack) (e : Event) (p : Plan) → sound_of r ≡ true → decided r e ≡ Ok p
    → PlanCounts r.settings.replicas (looked_client r e) (looked_party r e) e p
decided_counts r e p h g =
    let s : Sound r = sound_of_lem r h in
    let d : Decided r e p = decided_fits r e p h g in
    let few : r.settings.replicas ≤ set_bits = bits_enough r.settings s.settings in
    plan_counts (sight r e) few (looked_held r e)
    (λ m q. omega (arith, few, held_replica r.settings (looked_held r e) m d.looked.held q)) e p d.does
