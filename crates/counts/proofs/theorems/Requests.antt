-- A finished operation has cost 2 requests per replica, plus its resends.
use Rattle.std.specs.Prelude.{ℕ, suc, ◌+◌, ◌*◌, ◌≤◌, ◌<◌, ◌≡◌, refl, Bool, true, false, cond, List, [], ◌∷◌, ◌++◌, map, ltb, eqb, get_or, set, take, length, replicate, None, Some, Ok, Option}
use Rattle.std.proofs.Common.{ap, sym, ◌∙◌, subst, arith, length-set, get_or-set_same, get_or-set_other, take-suc-set, le-ltb, eq-eqb, ne_eqb, ltb-true, ltb-false, eqb-true}
use Rattle.std.proofs.lemmas.List.{length-replicate, get_or-replicate}
use Rattle.std.proofs.Math.ListN.{get_or-eq_default}
use Rattle.std.proofs.lemmas.Bool.{eqb-false}
use Rattle.method.specs.declared.Operation.{Operation}
use Rattle.record.specs.declared.Entry.{Entry}
use Rattle.record.specs.Entry.{client_limit}
use Rattle.record.specs.Record.{entry_limit}
use Rattle.method.specs.declared.Party.{Party}
use Rattle.rack.specs.declared.Line.{Line}
use Rattle.rack.specs.declared.Rack.{Rack}
use Rattle.method.specs.declared.Event.{Event}
use Rattle.method.specs.declared.Note.{Note}
use Rattle.method.specs.declared.Note.TheVariants.{Nothing, Asked, Ended}
use Rattle.method.specs.declared.Plan.{Plan}
use Rattle.rack.specs.Places.{of_sizes, blank, idle, party_at, record_of}
use Rattle.rack.specs.Sound.{owes, sound_of}
use Rattle.rack.specs.Run.{recorded, entries_in, applied_of, fresh_rack}
use Rattle.rack.specs.Refusals.{decided}
use Rattle.rack.specs.laws.SoundLaws.{sound_of_lem}
use Rattle.rack.specs.laws.Fresh.{made_sound}
use Rattle.rack.proofs.theorems.Decided.{decided_fits}
use Rattle.rack.specs.Looking.{looked_client, looked_party}
use Rattle.runs.specs.laws.Stays.{stays, sound_stays}
use Rattle.runs.specs.laws.Loop.{applied_parties}
use Rattle.counts.specs.Counts.{total_of, requests_by, resent_by, cost_in, cost_of, ends_by, ends_of, made_rack, rack_after}
use Rattle.counts.specs.laws.Costing.{resent_none}
use Rattle.counts.proofs.theorems.PlanCounts.{ends_in, PlanCounts, decided_counts}
use Rattle.counts.specs.laws.Runs.{Adds, run_adds, made_fresh}

-- ---- the record after an event

-- the entry that stands in a line of the rack
abbrev entry_of : Line → Entry
entry_of l = l.entry

ends_one : (c : ℕ) (ls : List Line) (l : Line) → ends_of c (map entry_of (ls ++ (l ∷ []))) ≡ ends_of c (map entry_of ls) + ends_by c l.entry
unfolding ends_of
ends_one c [] l = omega arith
ends_one c (x ∷ xs) l = omega (arith, ends_one c xs l)

ends_next : (c n : ℕ) (ls : List Line) (l : Line) → n < length ls
    → ends_of c (map entry_of (take (n + 1) (set ls n l))) ≡ ends_of c (map entry_of (take n ls)) + ends_by c l.entry
ends_next c n ls l h =
    let e : n + 1 ≡ suc n = omega arith in
    ap (λ (j : ℕ). ends_of c (map entry_of (take j (set ls n l)))) e ∙ ap (λ (x : List Line). ends_of c (map entry_of x)) (take-suc-set ls n l h) ∙ ends_one c (take n ls) l

-- one ended operation more where the note is of an end
ends_noted : (c : ℕ) (note : Note) (n : ℕ) (ls : List Line) → n + entries_in note ≤ length ls
    → ends_of c (map entry_of (take (n + entries_in note) (recorded note n ls))) ≡ ends_of c (map entry_of (take n ls)) + ends_in c note
unfolding entries_in recorded
ends_noted c Nothing n ls h = let e : n + 0 ≡ n = omega arith in rw e (omega arith)
ends_noted c (Asked x) n ls h = ends_next c n ls (record { entry = x }) (omega arith)
ends_noted c (Ended x) n ls h = ends_next c n ls (record { entry = x }) (omega arith)

lines_long : (note : Note) (n : ℕ) (ls : List Line) → length (recorded note n ls) ≡ length ls
unfolding recorded
lines_long Nothing n ls = refl
lines_long (Asked x) n ls = length-set ls n (record { entry = x })
lines_long (Ended x) n ls = length-set ls n (record { entry = x })

applied_lines : (r : Rack) (e : Event) (p : Plan) → length (applied_of r e p).lines ≡ length r.lines
unfolding applied_of
applied_lines r e p = lines_long p.note r.count r.lines

applied_ends : (c : ℕ) (r : Rack) (e : Event) (p : Plan) → sound_of r ≡ true → decided r e ≡ Ok p → length r.lines ≡ entry_limit
    → ends_of c (record_of (applied_of r e p)) ≡ ends_of c (record_of r) + ends_in c p.note
unfolding record_of applied_of
applied_ends c r e p h g l = ends_noted c p.note r.count r.lines (omega (arith, (stays r e p h g).entries, l))

-- ---- the clients after an event

applied_sizes : (r : Rack) (e : Event) (p : Plan) → (applied_of r e p).settings ≡ r.settings
unfolding applied_of
applied_sizes r e p = refl

-- the client that the event looked at is the planned one
applied_own : (r : Rack) (e : Event) (p : Plan) → looked_client r e < length r.parties → party_at (applied_of r e p) (looked_client r e) ≡ p.party
unfolding applied_of
applied_own r e p h = get_or-set_same r.parties (looked_client r e) p.party idle h

-- any other is as it was
applied_else : (r : Rack) (e : Event) (p : Plan) (c : ℕ) → (looked_client r e ≡ c → ⊥) → party_at (applied_of r e p) c ≡ party_at r c
unfolding applied_of
applied_else r e p c n = get_or-set_other r.parties (looked_client r e) c p.party idle (λ q. n (sym q))

-- ---- a run

-- What holds of client c in every rack of a run from a fresh rack of n replicas: the operations that the record ends, and the open one, are its
-- operation numbers.
pub record Numbered (n c : ℕ) (r : Rack) : Type 0 where
  pub sound : sound_of r ≡ true
  pub replicas : r.settings.replicas ≡ n
  pub parties_long : length r.parties ≡ client_limit
  pub lines_long : length r.lines ≡ entry_limit
  pub ends : ends_of c (record_of r) + owes (party_at r c).work ≡ (party_at r c).op

module _ (n c k : ℕ) where
  -- what operation k of client c has cost
  abbrev cost_at : Rack → ℕ
  cost_at r = cost_of n (party_at r c) k

  -- a done event keeps what holds of client c, and adds its requests, less its resends, to what operation k has cost
  abbrev Added : Rack → Event → Plan → Type 0
  Added r e p = Adds (Numbered n c) cost_at (resent_by c k) (requests_by c k) r e p

  numbered : (r : Rack) (e : Event) (p : Plan) → Numbered n c r → decided r e ≡ Ok p
      → ends_of c (record_of r) + ends_in c p.note + owes (party_at (applied_of r e p) c).work ≡ (party_at (applied_of r e p) c).op → Numbered n c (applied_of r e p)
  numbered r e p i g h =
      record {
        sound = sound_stays r e p i.sound g;
        replicas = ap (λ z. z.replicas) (applied_sizes r e p) ∙ i.replicas;
        parties_long = applied_parties r e p ∙ i.parties_long;
        lines_long = applied_lines r e p ∙ i.lines_long;
        ends = omega (arith, applied_ends c r e p i.sound g i.lines_long, h);
      }

  event_costs : (r : Rack) (e : Event) (p : Plan) → Numbered n c r → decided r e ≡ Ok p → Added r e p
  event_costs r e p i g = go (eqb (looked_client r e) c) refl
    where
      d : PlanCounts n (looked_client r e) (looked_party r e) e p
      d = rw (sym i.replicas) (decided_counts r e p i.sound g)

      inside : looked_client r e < length r.parties
      inside = omega (arith, (decided_fits r e p i.sound g).looked.client, (sound_of_lem r i.sound).settings.clients, i.parties_long)

      go : (t : Bool) → eqb (looked_client r e) c ≡ t → Added r e p
      go true q =
          let is : looked_client r e ≡ c = eqb-true (looked_client r e) c q in
          let m : PlanCounts n c (party_at r c) e p = subst (λ (x : ℕ). PlanCounts n x (party_at r x) e p) is d in
          let own : party_at (applied_of r e p) c ≡ p.party = subst (λ (x : ℕ). party_at (applied_of r e p) x ≡ p.party) is (applied_own r e p inside) in
          record {
            keeps = numbered r e p i g (omega (arith, m.ends, ap (λ (x : Party). owes x.work) own, ap (λ (x : Party). x.op) own, i.ends));
            adds = omega (arith, ap (λ (x : Party). cost_of n x k) own, m.costs k);
          }
      go false q =
          let other : looked_client r e ≡ c → ⊥ = eqb-false (looked_client r e) c q in
          let same : party_at (applied_of r e p) c ≡ party_at r c = applied_else r e p c other in
          let none : requests_by c k e p ≡ 0 = d.else_costs c k other in
          record {
            keeps = numbered r e p i g (omega (arith, d.else_ends c other, ap (λ (x : Party). owes x.work) same, ap (λ (x : Party). x.op) same, i.ends));
            adds = omega (arith, ap (λ (x : Party). cost_of n x k) same, none, resent_none c k e p none);
          }

-- ---- from a fresh rack

fresh_party : (replicas clients cells c : ℕ) → party_at (fresh_rack (of_sizes replicas clients cells)) c ≡ idle
unfolding fresh_rack
fresh_party replicas clients cells c = go (ltb c client_limit) refl
  where
    go : (t : Bool) → ltb c client_limit ≡ t → get_or (replicate client_limit idle) c idle ≡ idle
    go true e = get_or-replicate client_limit c idle idle (ltb-true c client_limit e)
    go false e = get_or-eq_default (replicate client_limit idle) idle (ltb-false c client_limit e)

-- no operation has a request yet
fresh_cost : (n k : ℕ) → 1 ≤ k → cost_of n idle k ≡ 0
unfolding cost_of
fresh_cost n k h = rw (le-ltb k 0 (omega arith), ne_eqb k 0 (λ e. omega arith))

-- a rack of which all but soundness is plain
abbrev Fresh : ℕ → Rack → Type 0
Fresh c r = sound_of r ≡ true → Numbered r.settings.replicas c r × (party_at r c ≡ idle)

fresh_numbered : (c replicas clients cells : ℕ) → Fresh c (fresh_rack (of_sizes replicas clients cells))
unfolding fresh_rack record_of ends_of owes
fresh_numbered c replicas clients cells s =
    let e : party_at (fresh_rack (of_sizes replicas clients cells)) c ≡ idle = fresh_party replicas clients cells c in (
      record {
        sound = s;
        replicas = refl;
        parties_long = length-replicate client_limit idle;
        lines_long = length-replicate entry_limit blank;
        ends = ap (λ (x : Party). 0 + owes x.work) e ∙ sym (ap (λ (x : Party). x.op) e);
      },
      e,
    )

-- ---- what an operation has cost, by where it stands

-- the record ends it
ended_cost : (n : ℕ) (party : Party) (ended k : ℕ) → ended + owes party.work ≡ party.op → k ≤ ended → cost_of n party k ≡ 2 * n
unfolding cost_of cost_in owes
ended_cost n party ended k h l = go (ltb k party.op) refl
  where
    finished : (w : Option Operation) → owes w ≡ 0 → cost_in n w ≡ 2 * n
    finished None e = refl
    finished (Some o) e = absurd (omega arith)

    go : (t : Bool) → ltb k party.op ≡ t → cond t (2 * n) (cond (eqb k party.op) (cost_in n party.work) 0) ≡ 2 * n
    go true e = refl
    go false e =
        let m : party.op ≤ k = ltb-false k party.op e in
        rw (eq-eqb k party.op (omega arith)) (finished party.work (omega arith))

-- it is the client's present one
present_cost : (n : ℕ) (party : Party) → cost_of n party party.op ≡ cost_in n party.work
unfolding cost_of
present_cost n party = rw (le-ltb party.op party.op (omega arith), eq-eqb party.op party.op refl)

module _ (replicas clients cells allowance : ℕ) (ws : List ℕ) where
  ran : (c k : ℕ) → 1 ≤ k → Numbered (made_rack replicas clients cells).settings.replicas c (rack_after replicas clients cells allowance ws)
      × (cost_of (made_rack replicas clients cells).settings.replicas (party_at (rack_after replicas clients cells allowance ws) c) k + total_of (resent_by c k)
      (made_rack replicas clients cells) allowance ws ≡ total_of (requests_by c k) (made_rack replicas clients cells) allowance ws)
  ran c k h =
      let s = made_sound replicas clients cells in
      let f = made_fresh (Fresh c) (fresh_numbered c) replicas clients cells s in
      let n : ℕ = (made_rack replicas clients cells).settings.replicas in
      let a = run_adds (Numbered n c) (λ (r : Rack). cost_of n (party_at r c) k) (resent_by c k) (requests_by c k) (event_costs n c k) (made_rack replicas clients cells) allowance ws s
      f.0 in
      (a.0, omega (arith, a.1, ap (λ (x : Party). cost_of n x k) f.1, fresh_cost n k h))

  -- Operation k of client c, ended or open or not yet started: its requests are what it costs where it stands, plus its resends.
  pub costs : (c k : ℕ) → 1 ≤ k
      → total_of (requests_by c k) (made_rack replicas clients cells) allowance ws ≡ cost_of (made_rack replicas clients cells).settings.replicas
      (party_at (rack_after replicas clients cells allowance ws) c) k + total_of (resent_by c k) (made_rack replicas clients cells) allowance ws
  costs c k h = sym (ran c k h).1

  -- A finished operation, whose end entry is in the record, has cost 2 requests per replica, plus its resends.
  pub two_per_replica : (c k : ℕ) → 1 ≤ k → k ≤ ends_of c (record_of (rack_after replicas clients cells allowance ws))
      → total_of (requests_by c k) (made_rack replicas clients cells) allowance ws ≡ 2 * (made_rack replicas clients cells).settings.replicas + total_of (resent_by c k)
      (made_rack replicas clients cells) allowance ws
  two_per_replica c k h l =
      let e = ended_cost (made_rack replicas clients cells).settings.replicas (party_at (rack_after replicas clients cells allowance ws) c)
      (ends_of c (record_of (rack_after replicas clients cells allowance ws))) k (ran c k h).0.ends l in
      omega (arith, costs c k h, e)

  -- The present operation of client c: 1 request per replica while it asks, 2 from then on, plus its resends.
  pub present : (c : ℕ) → 1 ≤ (party_at (rack_after replicas clients cells allowance ws) c).op
      → total_of (requests_by c (party_at (rack_after replicas clients cells allowance ws) c).op) (made_rack replicas clients cells) allowance ws
      ≡ cost_in (made_rack replicas clients cells).settings.replicas (party_at (rack_after replicas clients cells allowance ws) c).work + total_of
      (resent_by c (party_at (rack_after replicas clients cells allowance ws) c).op) (made_rack replicas clients cells) allowance ws
  present c h = omega (
    arith,
    costs c (party_at (rack_after replicas clients cells allowance ws) c).op h,
    present_cost (made_rack replicas clients cells).settings.replicas (party_at (rack_after replicas clients cells allowance ws) c),
  )

  -- The operations that the record ends, and an open one, are the client's operation numbers.
  pub numbers : (c : ℕ) → ends_of c (record_of (rack_after replicas clients cells allowance ws)) + owes (party_at (rack_after replicas clients cells allowance ws) c).work ≡ (party_at
      (rack_after replicas clients cells allowance ws) c).op
  numbers c = (ran c 1 (omega arith)).0.ends
