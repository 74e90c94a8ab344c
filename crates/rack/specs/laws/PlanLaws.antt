-- Each plan stays in the rack: what it leaves of a client and of a pair fits, what it sends fits and goes to replicas that are there, and the answers
-- that it owes have their place in the record.
use Rattle.std.specs.Prelude.{ℕ, ◌+◌, ◌≤◌, ◌<◌, ◌≡◌, Bool, true, false, cond, ◌≢◌, ltb, None, Some, Option}
use Rattle.std.proofs.Math.Path.{refl, subst}
use Rattle.std.proofs.Common.{ap, sym, ◌∙◌, arith, ltb-true}
use Rattle.record.specs.declared.Client.{Client}
use Rattle.record.specs.declared.Cell.{Cell}
use Rattle.quorum.specs.Sets.{set_bits, has_replica, with_replica, every_replica, others, within}
use Rattle.quorum.proofs.theorems.SetLaws.{within_below, below_within, with_below, with_has, none_has, none_asks, none_keeps, none_within, every_below, others_below}
use Rattle.stamps.specs.declared.Pair.{Pair}
use Rattle.stamps.specs.Stamp.{stamp_less, raised}
use Rattle.method.specs.declared.Body.{Body}
use Rattle.method.specs.declared.Body.TheVariants.{Ask, Tell, Keep, Kept}
use Rattle.method.specs.declared.Message.{Message}
use Rattle.method.specs.declared.Goal.{Goal}
use Rattle.method.specs.declared.Goal.TheVariants.{Read, Write}
use Rattle.method.specs.declared.Phase.{Phase}
use Rattle.method.specs.declared.Phase.TheVariants.{Asking, Keeping}
use Rattle.method.specs.declared.Operation.{Operation}
use Rattle.method.specs.declared.Party.{Party}
use Rattle.method.specs.declared.Sight.{Sight}
use Rattle.method.specs.declared.Event.{Event}
use Rattle.method.specs.declared.Event.TheVariants.{StartRead, StartWrite, Deliver, Lose, Copy, Resend, Stop, Off, On, Unknown}
use Rattle.method.specs.declared.Note.{Note}
use Rattle.method.specs.declared.Note.TheVariants.{Nothing, Asked, Ended}
use Rattle.method.specs.declared.Plan.{Plan}
use Rattle.method.specs.Plan.{message_of, used_up, answered, powered, asked, asking, keeping, request}
use Rattle.method.specs.Holding.{holds}
use Rattle.method.specs.Refusals.{is_empty}
use Rattle.method.specs.Method.{Chosen, Starts, Heard, heard_set, heard_pair, Delivers, Copies, Resends, Stops, Does}
use Rattle.method.specs.Method.Delivers.{tells, takes, hears, chooses, counts, ends, spends}
use Rattle.method.specs.laws.Tests.{never, and_left, and_right}
use Rattle.rack.specs.declared.Settings.{Settings}
use Rattle.rack.specs.Sound.{pair_fits, body_fits, message_fits, held_fits, quorums_of, work_fits, owes, owed_by}
use Rattle.rack.specs.Looking.{in_rack}
use Rattle.rack.specs.Run.{entries_in}
use Rattle.rack.specs.laws.SoundLaws.{Sized, rank_fits, Named, named, message_fits_lem, bits_enough, HoldingFits, PhaseFits, Opened, opened, open_fits}

-- places of the record that 11 has kept for an operation that starts: its entry and its answer
abbrev pub kept_for : Note → ℕ
kept_for Nothing = 0
kept_for (Asked e) = 2
kept_for (Ended e) = 0

-- a plan in a rack of settings z, for an event that looked at a client and a slot
pub record PlanFits (z : Settings) (party : Party) (held : Option Message) (p : Plan) : Type 0 where
  pub work : work_fits z p.party.work ≡ true
  pub pair : pair_fits z p.pair ≡ true
  pub to : within z.replicas p.to ≡ true
  pub message : (k : ℕ) → k < z.replicas → message_fits z (message_of p.message.client (record { 0 = k }) p.message.cell p.message.op p.message.body) ≡ true
  pub entries : entries_in p.note + owed_by p.party ≤ owed_by party + kept_for p.note
  pub slot : p.clear ≡ true → is_empty held ≡ false

no_slot : (held : Option Message) → false ≡ true → is_empty held ≡ false
no_slot held e = never e

-- what is sent, whoever it goes to
sends : (z : Settings) (client : Client) (cell : Cell) (op : ℕ) (body : Body) → client.0 < z.clients → cell.0 < z.cells → body_fits z body ≡ true
    → (k : ℕ) → k < z.replicas → message_fits z (message_of client (record { 0 = k }) cell op body) ≡ true
sends z client cell op body hc hx hb k hk =
    message_fits_lem z (message_of client (record { 0 = k }) cell op body) (record { client = hc; replica = hk; cell = hx; body = hb })

-- ---- pairs

raised_fits : (z : Settings) (p q : Pair) → pair_fits z p ≡ true → pair_fits z q ≡ true → pair_fits z (raised p q) ≡ true
unfolding raised
raised_fits z p q hp hq = go (stamp_less p.stamp q.stamp)
  where
    go : (t : Bool) → pair_fits z (cond t q p) ≡ true
    go true = hq
    go false = hp

holds_fits : (z : Settings) (set : ℕ) (held : Option Pair) (q : Pair) → HoldingFits z set held → pair_fits z q ≡ true → pair_fits z (holds held q) ≡ true
unfolding holds
holds_fits z set None q h hq = hq
holds_fits z set (Some p) q h hq = raised_fits z p q h.1 hq

chosen_fits : (z : Settings) (goal : Goal) (client : ℕ) (held chosen : Pair) → client < z.clients → pair_fits z held ≡ true → Chosen goal client held chosen
    → pair_fits z chosen ≡ true
chosen_fits z Read client held chosen hc hp k = rw k hp
chosen_fits z (Write v) client held chosen hc hp k = rank_fits z chosen (omega (arith, k.stamp.rank))

-- the pair of a message's body
told_fits : (z : Settings) (b : Body) (q : Pair) → body_fits z b ≡ true → b ≡ Tell q → pair_fits z q ≡ true
unfolding body_fits
told_fits z b q h e = ap (body_fits z) (sym e) ∙ h

given_fits : (z : Settings) (b : Body) (q : Pair) → body_fits z b ≡ true → b ≡ Keep q → pair_fits z q ≡ true
unfolding body_fits
given_fits z b q h e = ap (body_fits z) (sym e) ∙ h

request_fits : (z : Settings) (set : ℕ) (ph : Phase) → PhaseFits z set ph → body_fits z (request ph) ≡ true
unfolding body_fits
request_fits z set (Asking held) h = refl
request_fits z set (Keeping held) h = h.0

idle_fits : (z : Settings) → work_fits z None ≡ true
unfolding work_fits
idle_fits z = refl

-- a set that has somebody isn't empty
with_some : (set k : ℕ) → k < set_bits → with_replica set k ≢ 0
with_some set k h e =
    let a : has_replica 0 k ≡ true = ap (λ (x : ℕ). has_replica x k) (sym e) ∙ with_has set k h in
    never (sym (none_has k) ∙ a)

-- a client with an open operation owes an answer, if it isn't stopped
pub open_owes : (party : Party) (o : Operation) → party.stopped ≡ false → party.work ≡ Some o → owed_by party ≡ 1
unfolding owed_by owes
open_owes party o a w = rw (a, w)

-- ---- an event's plan, from a client and a pair that fit

module _ (z : Settings) (n : Sized z) (power : ℕ) (party : Party) (pair : Pair) (work : work_fits z party.work ≡ true) (here : pair_fits z pair ≡ true) where
  -- what the event looks at: the quorums, the power, the client and the pair
  abbrev seen : Sight
  seen = record { quorums = quorums_of z; power = power; party = party; pair = pair }

  to_none : within z.replicas 0 ≡ true
  to_none = below_within z.replicas 0 (none_within z.replicas)

  to_all : within z.replicas (every_replica z.replicas) ≡ true
  to_all = below_within z.replicas (every_replica z.replicas) (every_below z.replicas (bits_enough z n))

  more : (set k : ℕ) → within z.replicas set ≡ true → k < z.replicas → within z.replicas (with_replica set k) ≡ true
  more set k w h = below_within z.replicas (with_replica set k) (with_below z.replicas set k (within_below z.replicas set w) h)

  some : (set k : ℕ) → k < z.replicas → with_replica set k ≢ 0
  some set k h = with_some set k (omega (arith, bits_enough z n, h))

  -- what is open fits
  is_open : (o : Operation) → party.work ≡ Some o → Opened z o
  is_open o w = opened z o (ap (work_fits z) (sym w) ∙ work)

  -- ---- start

  start_fits : (held : Option Message) (client : Client) (cell : Cell) (goal : Goal) (p : Plan) → client.0 < z.clients → cell.0 < z.cells
      → Starts seen client cell goal p → PlanFits z party held p
  unfolding entries_in owed_by owes body_fits
  start_fits held client cell goal p hc hx st =
      subst (PlanFits z party held) (sym st.plan)
      (record {
        work = open_fits z (asked cell goal) (record { cell = hx; set = to_none; phase = (refl, none_asks (quorums_of z) n.some_replica) });
        pair = here;
        to = to_all;
        message = sends z client cell (party.op + 1) Ask hc hx refl;
        entries = omega arith;
        slot = no_slot held;
      })

  -- ---- a slot's message

  module _ (m : Message) (h : Named z m) where
    -- the message itself, to any replica
    same_message : (k : ℕ) → k < z.replicas → message_fits z (message_of m.client (record { 0 = k }) m.cell m.op m.body) ≡ true
    same_message = sends z m.client m.cell m.op m.body h.client h.cell h.body

    used_fits : PlanFits z party (Some m) (used_up seen m)
    unfolding entries_in
    used_fits = record { work = work; pair = here; to = to_none; message = same_message; entries = omega arith; slot = λ e. refl }

    answered_fits : (after : Pair) (body : Body) → pair_fits z after ≡ true → body_fits z body ≡ true → PlanFits z party (Some m) (answered seen after m body)
    unfolding entries_in
    answered_fits after body hp hb =
        record {
          work = work;
          pair = hp;
          to = more 0 m.replica.0 to_none h.replica;
          message = sends z m.client m.cell m.op body h.client h.cell hb;
          entries = omega arith;
          slot = λ e. refl;
        }

    copy_fits : (p : Plan) → Copies seen m p → PlanFits z party (Some m) p
    unfolding entries_in
    copy_fits p c =
        subst (PlanFits z party (Some m)) (sym c)
        (record {
          work = work;
          pair = here;
          to = more 0 m.replica.0 to_none h.replica;
          message = same_message;
          entries = omega arith;
          slot = no_slot (Some m);
        })

    -- the pair that is held after a tell
    heard_fits : (x : Heard seen m) → pair_fits z (heard_pair x) ≡ true
    heard_fits x =
        let o : Opened z x.operation = is_open x.operation x.before in
        let ph : PhaseFits z x.operation.set (Asking x.held) = subst (PhaseFits z x.operation.set) x.phase o.phase in
        holds_fits z x.operation.set x.held x.told ph.0 (told_fits z m.body x.told h.body x.body)

    deliver_fits : (p : Plan) → Delivers seen m p → PlanFits z party (Some m) p
    unfolding entries_in owed_by owes body_fits
    deliver_fits p (tells x) = subst (PlanFits z party (Some m)) (sym x.plan) (answered_fits pair (Tell pair) here here)
    deliver_fits p (takes x) =
        subst (PlanFits z party (Some m)) (sym x.plan)
        (answered_fits (raised pair x.given) Kept (raised_fits z pair x.given here (given_fits z m.body x.given h.body x.body)) refl)
    deliver_fits p (hears x) =
        let y = x.heard in
        let o : Opened z y.operation = is_open y.operation y.before in
        subst (PlanFits z party (Some m)) (sym x.plan)
        (record {
          work = open_fits z (asking y.operation (heard_set y) (heard_pair y)) (record {
            cell = o.cell;
            set = more y.operation.set m.replica.0 o.set h.replica;
            phase = ((some y.operation.set m.replica.0 h.replica, heard_fits y), x.few);
          });
          pair = here;
          to = to_none;
          message = same_message;
          entries = omega (arith, open_owes party y.operation y.acts y.before);
          slot = λ e. refl;
        })
    deliver_fits p (chooses x) =
        let y = x.heard in
        let o : Opened z y.operation = is_open y.operation y.before in
        let hp = chosen_fits z y.operation.goal m.client.0 (heard_pair y) x.chosen h.client (heard_fits y) x.choice in
        subst (PlanFits z party (Some m)) (sym x.plan)
        (record {
          work = open_fits z (keeping y.operation 0 x.chosen) (record { cell = o.cell; set = to_none; phase = (hp, none_keeps (quorums_of z) n.some_replica) });
          pair = here;
          to = to_all;
          message = sends z m.client y.operation.cell party.op (Keep x.chosen) h.client o.cell hp;
          entries = omega (arith, open_owes party y.operation y.acts y.before);
          slot = λ e. refl;
        })
    deliver_fits p (counts x) =
        let y = x.counted in
        let o : Opened z y.operation = is_open y.operation y.before in
        let ph : PhaseFits z y.operation.set (Keeping y.held) = subst (PhaseFits z y.operation.set) y.phase o.phase in
        subst (PlanFits z party (Some m)) (sym x.plan)
        (record {
          work = open_fits z (keeping y.operation _ y.held) (record {
            cell = o.cell;
            set = more y.operation.set m.replica.0 o.set h.replica;
            phase = (ph.0, x.few);
          });
          pair = here;
          to = to_none;
          message = same_message;
          entries = omega (arith, open_owes party y.operation y.acts y.before);
          slot = λ e. refl;
        })
    deliver_fits p (ends x) =
        let y = x.counted in
        subst (PlanFits z party (Some m)) (sym x.plan)
        (record {
          work = idle_fits z;
          pair = here;
          to = to_none;
          message = same_message;
          entries = omega (arith, open_owes party y.operation y.acts y.before);
          slot = λ e. refl;
        })
    deliver_fits p (spends x) = subst (PlanFits z party (Some m)) (sym x.plan) used_fits

  -- ---- resend, stop, power

  resend_fits : (held : Option Message) (client : Client) (p : Plan) → client.0 < z.clients → Resends seen client p → PlanFits z party held p
  unfolding entries_in
  resend_fits held client p hc x =
      let o : Opened z x.operation = is_open x.operation x.before in
      let body : Body = request x.operation.phase in
      subst (PlanFits z party held) (sym x.plan)
      (record {
        work = work;
        pair = here;
        to = below_within z.replicas (others z.replicas x.operation.set) (others_below z.replicas x.operation.set (bits_enough z n));
        message = sends z client x.operation.cell party.op body hc o.cell (request_fits z x.operation.set x.operation.phase o.phase);
        entries = omega arith;
        slot = no_slot held;
      })

  nothing_sent : (k : ℕ) → k < z.replicas → message_fits z (message_of (record { 0 = 0 }) (record { 0 = k }) (record { 0 = 0 }) 0 Ask) ≡ true
  unfolding body_fits
  nothing_sent k hk = sends z (record { 0 = 0 }) (record { 0 = 0 }) 0 Ask n.some_client n.some_cell refl k hk

  stop_fits : (held : Option Message) (p : Plan) → Stops seen p → PlanFits z party held p
  unfolding entries_in owed_by
  stop_fits held p x =
      subst (PlanFits z party held) (sym x.plan)
      (record { work = work; pair = here; to = to_none; message = nothing_sent; entries = omega arith; slot = no_slot held })

  powered_fits : (held : Option Message) (after : ℕ) → PlanFits z party held (powered seen after)
  unfolding entries_in
  powered_fits held after = record { work = work; pair = here; to = to_none; message = nothing_sent; entries = omega arith; slot = no_slot held }

  -- ---- every event

  pub plan_fits : (held : Option Message) → held_fits z held ≡ true → (e : Event) → in_rack z e ≡ true → (p : Plan) → Does seen held e p → PlanFits z party held p
  unfolding in_rack held_fits
  plan_fits held hh (StartRead client cell) i p d =
      start_fits held client cell Read p (ltb-true client.0 z.clients (and_left (ltb client.0 z.clients) (ltb cell.0 z.cells) i))
      (ltb-true cell.0 z.cells (and_right (ltb client.0 z.clients) (ltb cell.0 z.cells) i)) d
  plan_fits held hh (StartWrite client cell v) i p d =
      start_fits held client cell (Write v) p (ltb-true client.0 z.clients (and_left (ltb client.0 z.clients) (ltb cell.0 z.cells) i))
      (ltb-true cell.0 z.cells (and_right (ltb client.0 z.clients) (ltb cell.0 z.cells) i)) d
  plan_fits None hh (Deliver slot) i p d = absurd d
  plan_fits (Some m) hh (Deliver slot) i p d = deliver_fits m (named z m hh) p d
  plan_fits None hh (Lose slot) i p d = absurd d
  plan_fits (Some m) hh (Lose slot) i p d = subst (PlanFits z party (Some m)) (sym d) (used_fits m (named z m hh))
  plan_fits None hh (Copy slot) i p d = absurd d
  plan_fits (Some m) hh (Copy slot) i p d = copy_fits m (named z m hh) p d
  plan_fits held hh (Resend client) i p d = resend_fits held client p (ltb-true client.0 z.clients i) d
  plan_fits held hh (Stop client) i p d = stop_fits held p d
  plan_fits held hh (Off replica) i p d = subst (PlanFits z party held) (sym d.plan) (powered_fits held _)
  plan_fits held hh (On replica) i p d = subst (PlanFits z party held) (sym d.plan) (powered_fits held _)
  plan_fits held hh Unknown i p d = absurd d
