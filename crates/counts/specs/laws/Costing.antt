-- What plans have in common for the counts: which of them send a request, and what an operation has cost before and after.
use Rattle.std.specs.Prelude.{ℕ, ◌+◌, ◌*◌, ◌≤◌, ◌<◌, ◌≡◌, refl, Bool, true, false, cond, ◌&&◌, ltb, eqb}
use Rattle.std.proofs.Common.{ap, sym, ◌∙◌, arith, lt-ltb, le-ltb, eq-eqb, ne_eqb, ltb-true, ltb-false, eqb-true}
use Rattle.std.specs.Int.Count.{ones}
use Rattle.std.proofs.lemmas.Bool.{eqb-false}
use Rattle.quorum.proofs.theorems.SetLaws.{none_count}
use Rattle.method.specs.declared.Message.{Message}
use Rattle.method.specs.declared.Party.{Party}
use Rattle.method.specs.declared.Event.{Event}
use Rattle.method.specs.declared.Event.TheVariants.{StartRead, StartWrite, Deliver, Lose, Copy, Resend, Stop, Off, On, Unknown}
use Rattle.method.specs.declared.Plan.{Plan}
use Rattle.rack.specs.Counts.{sent_by}
use Rattle.counts.specs.Counts.{is_request, request_of, requests_by, resent_by, cost_in, cost_of}

-- ---- a message's part in the requests for an operation

-- only a request's own client has sent it
pub requests_else : (c k : ℕ) (m : Message) → (m.client.0 ≡ c → ⊥) → request_of c k m ≡ false
unfolding request_of
requests_else c k m h = rw (ne_eqb m.client.0 c h) (go (is_request m.body))
  where
    go : (t : Bool) → (t && false) ≡ false
    go true = refl
    go false = refl

-- and it is one for the operation that it names
pub requests_own : (k : ℕ) (m : Message) → is_request m.body ≡ true → request_of m.client.0 k m ≡ eqb m.op k
unfolding request_of
requests_own k m h = rw (h, eq-eqb m.client.0 m.client.0 refl)

-- a message to no replica isn't sent
pub none_sent : (e : Event) (p : Plan) → p.to ≡ 0 → sent_by e p ≡ 0
unfolding sent_by
none_sent (StartRead client cell) p h = ap ones h ∙ none_count
none_sent (StartWrite client cell v) p h = ap ones h ∙ none_count
none_sent (Deliver slot) p h = ap ones h ∙ none_count
none_sent (Lose slot) p h = ap ones h ∙ none_count
none_sent (Copy slot) p h = refl
none_sent (Resend client) p h = ap ones h ∙ none_count
none_sent (Stop client) p h = ap ones h ∙ none_count
none_sent (Off replica) p h = ap ones h ∙ none_count
none_sent (On replica) p h = ap ones h ∙ none_count
none_sent Unknown p h = ap ones h ∙ none_count

-- what isn't sent is no request
pub silent : (c k : ℕ) (e : Event) (p : Plan) → sent_by e p ≡ 0 → requests_by c k e p ≡ 0
unfolding requests_by
silent c k e p h = go (request_of c k p.message)
  where
    go : (t : Bool) → cond t (sent_by e p) 0 ≡ 0
    go true = h
    go false = refl

-- an answer is no request
pub answers : (c k : ℕ) (e : Event) (p : Plan) → is_request p.message.body ≡ false → requests_by c k e p ≡ 0
unfolding requests_by request_of
answers c k e p h = rw h

-- what is resent is among what is sent
pub resent_none : (c k : ℕ) (e : Event) (p : Plan) → requests_by c k e p ≡ 0 → resent_by c k e p ≡ 0
unfolding resent_by
resent_none c k (StartRead client cell) p h = refl
resent_none c k (StartWrite client cell v) p h = refl
resent_none c k (Deliver slot) p h = refl
resent_none c k (Lose slot) p h = refl
resent_none c k (Copy slot) p h = refl
resent_none c k (Resend client) p h = omega arith
resent_none c k (Stop client) p h = refl
resent_none c k (Off replica) p h = refl
resent_none c k (On replica) p h = refl
resent_none c k Unknown p h = refl

-- ---- what operations cost

-- the next operation starts and asks each replica; the one before it stays at two to each
pub start_cost : (n op k : ℕ)
    → cond (ltb k (op + 1)) (2 * n) (cond (eqb k (op + 1)) n 0) ≡ cond (ltb k op) (2 * n) (cond (eqb k op) (2 * n) 0) + cond (eqb (op + 1) k) n 0
start_cost n op k = go (ltb k op) refl (eqb k op) refl (eqb (op + 1) k) refl
  where
    go : (a : Bool) → ltb k op ≡ a → (b : Bool) → eqb k op ≡ b → (c : Bool) → eqb (op + 1) k ≡ c
        → cond (ltb k (op + 1)) (2 * n) (cond (eqb k (op + 1)) n 0) ≡ cond a (2 * n) (cond b (2 * n) 0) + cond c n 0
    go true p b q true r = absurd (omega (arith, ltb-true k op p, eqb-true (op + 1) k r))
    go true p b q false r = let h : k < op = ltb-true k op p in rw (lt-ltb k (op + 1) (omega arith)) (omega arith)
    go false p true q true r = absurd (omega (arith, eqb-true k op q, eqb-true (op + 1) k r))
    go false p true q false r = let h : k ≡ op = eqb-true k op q in rw (lt-ltb k (op + 1) (omega arith)) (omega arith)
    go false p false q true r =
        let h : op + 1 ≡ k = eqb-true (op + 1) k r in
        rw (le-ltb k (op + 1) (omega arith), eq-eqb k (op + 1) (sym h)) (omega arith)
    go false p false q false r =
        let l : op ≤ k = ltb-false k op p in
        let d : k ≡ op → ⊥ = eqb-false k op q in
        let f : op + 1 ≡ k → ⊥ = eqb-false (op + 1) k r in
        rw (le-ltb k (op + 1) (omega (arith, d)), ne_eqb k (op + 1) (λ x. f (sym x))) (omega arith)

-- its ask phase ends and it sends a keep to each
pub phase_cost_lem : (n op k : ℕ)
    → cond (ltb k op) (2 * n) (cond (eqb k op) (2 * n) 0) ≡ cond (ltb k op) (2 * n) (cond (eqb k op) n 0) + cond (eqb op k) n 0
phase_cost_lem n op k = go (ltb k op) refl (eqb k op) refl
  where
    go : (a : Bool) → ltb k op ≡ a → (b : Bool) → eqb k op ≡ b → cond a (2 * n) (cond b (2 * n) 0) ≡ cond a (2 * n) (cond b n 0) + cond (eqb op k) n 0
    go true p b q = let h : k < op = ltb-true k op p in rw (ne_eqb op k (λ x. omega arith)) (omega arith)
    go false p true q = rw (eq-eqb op k (sym (eqb-true k op q))) (omega arith)
    go false p false q = rw (ne_eqb op k (λ x. eqb-false k op q (sym x))) (omega arith)

-- the client is where it was
same_place : (n k : ℕ) (p q : Party) → q.op ≡ p.op → cost_in n q.work ≡ cost_in n p.work → cost_of n q k ≡ cost_of n p k
unfolding cost_of
same_place n k p q a b =
    ap (λ (x : ℕ). cond (ltb k x) (2 * n) (cond (eqb k x) (cost_in n q.work) 0)) a
    ∙ ap (λ (x : ℕ). cond (ltb k p.op) (2 * n) (cond (eqb k p.op) x 0)) b

-- and nothing is asked
pub same_cost : (n client k : ℕ) (party : Party) (e : Event) (p : Plan) → p.party.op ≡ party.op → cost_in n p.party.work ≡ cost_in n party.work
    → requests_by client k e p ≡ 0 → cost_of n p.party k + resent_by client k e p ≡ cost_of n party k + requests_by client k e p
same_cost n client k party e p a b h = omega (arith, same_place n k party p.party a b, h, resent_none client k e p h)
