-- What each plan does to the record and to the client: an entry is added only where an operation starts or ends, and it is the one that the client's
-- work calls for; and every value that a plan leaves is one of 32 bits.
use Rattle.std.specs.Prelude.{ℕ, ◌<◌, ◌≡◌, refl, true, false, cond, None, Some, Option}
use Rattle.std.proofs.Common.{ap, sym, arith, ltb-true}
use Rattle.std.proofs.Math.Path.{subst}
use Rattle.std.proofs.Math.Bool.{Bool}
use Rattle.std.proofs.Math.Dec.{ltb}
use Rattle.record.specs.declared.Client.{Client}
use Rattle.record.specs.declared.Cell.{Cell}
use Rattle.record.specs.declared.Entry.{Entry}
use Rattle.record.specs.declared.Entry.TheVariants.{ReadAsked, WriteAsked, Told, Done}
use Rattle.stamps.specs.declared.Pair.{Pair}
use Rattle.stamps.specs.Stamp.{stamp_less, raised}
use Rattle.method.specs.declared.Message.{Message}
use Rattle.method.specs.declared.Goal.{Goal}
use Rattle.method.specs.declared.Goal.TheVariants.{Read, Write}
use Rattle.method.specs.declared.Phase.{Phase}
use Rattle.method.specs.declared.Phase.TheVariants.{Asking, Keeping}
use Rattle.method.specs.declared.Operation.{Operation}
use Rattle.method.specs.declared.Sight.{Sight}
use Rattle.method.specs.declared.Event.{Event}
use Rattle.method.specs.declared.Event.TheVariants.{StartRead, StartWrite, Deliver, Lose, Copy, Resend, Stop, Off, On, Unknown}
use Rattle.method.specs.declared.Note.{Note}
use Rattle.method.specs.declared.Note.TheVariants.{Nothing, Asked, Ended}
use Rattle.method.specs.declared.Plan.{Plan}
use Rattle.method.specs.Plan.{used_up, powered, request}
use Rattle.method.specs.Holding.{holds, first_entry, last_entry}
use Rattle.method.specs.About.{client_in, client_of}
use Rattle.method.specs.Method.{Chosen, Starts, Heard, heard_pair, Counted, Delivers, Does}
use Rattle.method.specs.Method.Delivers.{tells, takes, hears, chooses, counts, ends, spends}
use Rattle.method.specs.laws.Tests.{and_left, and_right}
use Rattle.rack.specs.declared.Settings.{Settings}
use Rattle.rack.specs.Sound.{held_fits}
use Rattle.rack.specs.Looking.{in_rack}
use Rattle.rack.specs.laws.SoundLaws.{named}
use Rattle.back.specs.Standing.{open_for, open_in, Within, PairSmall, BodySmall, HeldSmall, GoalSmall, HoldingSmall, PhaseSmall, WorkSmall, EventSmall}

-- ---- one entry

-- its client
abbrev pub whose : Entry → ℕ
whose (ReadAsked client cell) = client.0
whose (WriteAsked client cell v) = client.0
whose (Told client v) = client.0
whose (Done client) = client.0

-- what that client must have open for it: nothing is 0, a read 1, a write 2
abbrev pub needs : Entry → ℕ
needs (ReadAsked client cell) = 0
needs (WriteAsked client cell v) = 0
needs (Told client v) = 1
needs (Done client) = 2

-- what that client has open after it: nothing is 0, a read 1, a write 2
abbrev pub leaves : Entry → ℕ
leaves (ReadAsked client cell) = 1
leaves (WriteAsked client cell v) = 2
leaves (Told client v) = 0
leaves (Done client) = 0

-- an entry of client k of the rack, which has `before` open and then `after`
pub record Enters (z : Settings) (k before : ℕ) (e : Entry) (after : ℕ) : Type 0 where
  pub client : whose e ≡ k
  pub within : Within z e
  pub needed : before ≡ needs e
  pub left : after ≡ leaves e

-- ---- a plan

-- what client k has open changes only with an entry
abbrev pub Noted : Settings → ℕ → ℕ → Note → ℕ → Type 0
Noted z k before Nothing after = after ≡ before
Noted z k before (Asked e) after = Enters z k before e after
Noted z k before (Ended e) after = Enters z k before e after

-- a plan for an event that looked at client k, which has `before` open
pub record Keeps (z : Settings) (k before : ℕ) (p : Plan) : Type 0 where
  pub note : Noted z k before p.note (open_in p.party.work)
  pub work : WorkSmall p.party.work
  pub pair : PairSmall p.pair
  pub body : BodySmall p.message.body

-- ---- pairs

raised_small : (p q : Pair) → PairSmall p → PairSmall q → PairSmall (raised p q)
unfolding raised
raised_small p q hp hq = go (stamp_less p.stamp q.stamp)
  where
    go : (t : Bool) → PairSmall (cond t q p)
    go true = hq
    go false = hp

holds_small : (held : Option Pair) (q : Pair) → HoldingSmall held → PairSmall q → PairSmall (holds held q)
unfolding holds
holds_small None q h hq = hq
holds_small (Some p) q h hq = raised_small p q h hq

chosen_small : (goal : Goal) (client : ℕ) (held chosen : Pair) → GoalSmall goal → PairSmall held → Chosen goal client held chosen → PairSmall chosen
chosen_small Read client held chosen hg hp k = rw k hp
chosen_small (Write v) client held chosen hg hp k = rw k.value hg

request_small : (ph : Phase) → PhaseSmall ph → BodySmall (request ph)
request_small (Asking held) h = tt
request_small (Keeping held) h = h

-- the entry of a start is of this rack, and its client has then open what it asked for
first_enters : (z : Settings) (goal : Goal) (client : Client) (cell : Cell) → client.0 < z.clients → cell.0 < z.cells → GoalSmall goal
    → Enters z client.0 0 (first_entry goal client cell) (open_for goal)
first_enters z Read client cell hc hx hg = record { client = refl; within = (hc, hx); needed = refl; left = refl }
first_enters z (Write v) client cell hc hx hg = record { client = refl; within = (hc, hx, hg); needed = refl; left = refl }

-- the entry that ends an operation is the one that its goal calls for
last_enters : (z : Settings) (goal : Goal) (client : Client) (held : Pair) (has : ℕ) → client.0 < z.clients → open_for goal ≡ has → PairSmall held
    → Enters z client.0 has (last_entry goal client held) 0
unfolding last_entry
last_enters z Read client held has hc o hp = record { client = refl; within = (hc, hp); needed = omega arith; left = refl }
last_enters z (Write v) client held has hc o hp = record { client = refl; within = hc; needed = omega arith; left = refl }

-- ---- an event's plan, from a client and a pair whose values are small

module _ (z : Settings) (s : Sight) (work : WorkSmall s.party.work) (here : PairSmall s.pair) where
  -- what the client has open
  abbrev has : ℕ
  has = open_in s.party.work

  -- the values of what is open
  open_small : (o : Operation) → s.party.work ≡ Some o → GoalSmall o.goal × PhaseSmall o.phase
  open_small o w = subst WorkSmall w work

  -- ---- start

  start_keeps : (client : Client) (cell : Cell) (goal : Goal) (p : Plan) → client.0 < z.clients → cell.0 < z.cells → GoalSmall goal
      → Starts s client cell goal p → Keeps z client.0 has p
  start_keeps client cell goal p hc hx hg x =
      subst (Keeps z client.0 has) (sym x.plan)
      (rw (ap open_in x.before) (record { note = first_enters z goal client cell hc hx hg; work = (hg, tt); pair = here; body = tt }))

  -- ---- a slot's message

  module _ (m : Message) (known : m.client.0 < z.clients) (small : BodySmall m.body) where
    used_keeps : Keeps z m.client.0 has (used_up s m)
    used_keeps = record { note = refl; work = work; pair = here; body = small }

    heard_small : (x : Heard s m) → PairSmall (heard_pair x)
    heard_small x =
        let h : PhaseSmall (Asking x.held) = subst PhaseSmall x.phase (open_small x.operation x.before).1 in
        holds_small x.held x.told h (subst BodySmall x.body small)

    counted_small : (x : Counted s m) → PairSmall x.held
    counted_small x = subst PhaseSmall x.phase (open_small x.operation x.before).1

    deliver_keeps : (p : Plan) → Delivers s m p → Keeps z m.client.0 has p
    deliver_keeps p (tells x) = subst (Keeps z m.client.0 has) (sym x.plan) (record { note = refl; work = work; pair = here; body = here })
    deliver_keeps p (takes x) =
        subst (Keeps z m.client.0 has) (sym x.plan)
        (record { note = refl; work = work; pair = raised_small s.pair x.given here (subst BodySmall x.body small); body = tt })
    deliver_keeps p (hears x) =
        let y = x.heard in
        subst (Keeps z m.client.0 has) (sym x.plan)
        (record { note = sym (ap open_in y.before); work = ((open_small y.operation y.before).0, heard_small y); pair = here; body = small })
    deliver_keeps p (chooses x) =
        let y = x.heard in
        let hg = (open_small y.operation y.before).0 in
        let hp = chosen_small y.operation.goal m.client.0 (heard_pair y) x.chosen hg (heard_small y) x.choice in
        subst (Keeps z m.client.0 has) (sym x.plan) (record { note = sym (ap open_in y.before); work = (hg, hp); pair = here; body = hp })
    deliver_keeps p (counts x) =
        let y = x.counted in
        subst (Keeps z m.client.0 has) (sym x.plan)
        (record { note = sym (ap open_in y.before); work = ((open_small y.operation y.before).0, counted_small y); pair = here; body = small })
    deliver_keeps p (ends x) =
        let y = x.counted in
        subst (Keeps z m.client.0 has) (sym x.plan)
        (record {
          note = last_enters z y.operation.goal m.client y.held has known (sym (ap open_in y.before)) (counted_small y);
          work = tt;
          pair = here;
          body = small;
        })
    deliver_keeps p (spends x) = subst (Keeps z m.client.0 has) (sym x.plan) used_keeps

  -- ---- every event

  -- a replica is switched
  powered_keeps : (k after : ℕ) → Keeps z k has (powered s after)
  powered_keeps k after = record { note = refl; work = work; pair = here; body = tt }

  pub plan_keeps : (held : Option Message) → held_fits z held ≡ true → HeldSmall held → (e : Event) → in_rack z e ≡ true → EventSmall e → (p : Plan) → Does s held e p
      → Keeps z (client_of e held) has p
  unfolding in_rack held_fits client_of client_in
  plan_keeps held hh hs (StartRead client cell) i v p x =
      let a : Bool = ltb client.0 z.clients in
      let b : Bool = ltb cell.0 z.cells in
      start_keeps client cell Read p (ltb-true _ _ (and_left a b i)) (ltb-true _ _ (and_right a b i)) tt x
  plan_keeps held hh hs (StartWrite client cell w) i v p x =
      let a : Bool = ltb client.0 z.clients in
      let b : Bool = ltb cell.0 z.cells in
      start_keeps client cell (Write w) p (ltb-true _ _ (and_left a b i)) (ltb-true _ _ (and_right a b i)) v x
  plan_keeps None hh hs (Deliver slot) i v p x = absurd x
  plan_keeps (Some m) hh hs (Deliver slot) i v p x = deliver_keeps m (named z m hh).client hs p x
  plan_keeps None hh hs (Lose slot) i v p x = absurd x
  plan_keeps (Some m) hh hs (Lose slot) i v p x = subst (Keeps z m.client.0 has) (sym x) (used_keeps m (named z m hh).client hs)
  plan_keeps None hh hs (Copy slot) i v p x = absurd x
  plan_keeps (Some m) hh hs (Copy slot) i v p x = subst (Keeps z m.client.0 has) (sym x) (record { note = refl; work = work; pair = here; body = hs })
  plan_keeps held hh hs (Resend client) i v p x =
      subst (Keeps z client.0 has) (sym x.plan)
      (record { note = refl; work = work; pair = here; body = request_small x.operation.phase (open_small x.operation x.before).1 })
  plan_keeps held hh hs (Stop client) i v p x =
      subst (Keeps z client.0 has) (sym x.plan) (record { note = refl; work = work; pair = here; body = tt })
  plan_keeps held hh hs (Off replica) i v p x = subst (Keeps z 0 has) (sym x.plan) (powered_keeps 0 _)
  plan_keeps held hh hs (On replica) i v p x = subst (Keeps z 0 has) (sym x.plan) (powered_keeps 0 _)
  plan_keeps held hh hs Unknown i v p x = absurd x
