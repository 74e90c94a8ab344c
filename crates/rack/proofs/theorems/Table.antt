-- The table of refusals: a number is given exactly when it applies and no smaller one does, and an event is done exactly when none applies. And the order
-- in which the code tests gives the same.
use Prim.Native.Nat.{ℕ, zero, suc, ◌+◌, ◌-◌, ◌≤◌, ◌<◌}
use Rattle.std.specs.Prelude.{◌≡◌, ◌≢◌, ◌↔◌, Bool, not, ◌&&◌, List, ◌∷◌, eqb, None, Some, Err, Ok, Option}
use Rattle.std.proofs.Math.Path.{refl, ap}
use Rattle.std.proofs.Common.{sym, ◌∙◌, arith, ne_eqb, eqb-true, ltb-true, ltb-false}
use Rattle.std.proofs.Math.Bool.{true, false, cond}
use Rattle.std.proofs.Math.Dec.{ltb}
use Rattle.std.proofs.lemmas.Bool.{eqb-false}
use Rattle.method.specs.declared.Message.{Message}
use Rattle.record.specs.Record.{entry_limit}
use Rattle.method.specs.declared.Sight.{Sight}
use Rattle.method.specs.declared.Event.{Event}
use Rattle.method.specs.declared.Event.TheVariants.{StartRead, StartWrite, Deliver, Lose, Copy, Resend, Stop, Off, On, Unknown}
use Rattle.method.specs.declared.Plan.{Plan}
use Rattle.method.specs.Decision.{Decision, refused}
use Rattle.method.specs.Refusals.{is_unknown, is_start, is_delivery, slot_empty, client_stopped, already_open, none_open, replica_off, switched_so, op_spent, spent_slot, number_spent}
use Rattle.method.specs.Refusals.{decision_of}
use Rattle.method.specs.Method.{Delivers, Does}
use Rattle.method.specs.Method.Delivers.{tells, takes, hears, chooses, counts, ends, spends}
use Rattle.method.specs.laws.Tests.{never, and_left}
use Rattle.method.proofs.theorems.MethodLaws.{method}
use Rattle.rack.specs.declared.Settings.{Settings}
use Rattle.rack.specs.declared.Rack.{Rack}
use Rattle.rack.specs.declared.Ran.{Ran}
use Rattle.rack.specs.Places.{room_of}
use Rattle.rack.specs.Sound.{owed, sound_of}
use Rattle.rack.specs.Looking.{in_rack, looked_held, sight}
use Rattle.rack.specs.Refusals.{plan_for, record_full, too_many, wire_full, applies, least_from, first_refusal, last_refusal, refusal_of, decided, noted, checked}
use Rattle.rack.specs.Run.{event_of, applied_of, ran_of, turn, run_from}
use Rattle.rack.specs.laws.Table.{Least, in_order}

-- ---- the least number that passes

least_is : (n k : ℕ) (f : ℕ → Bool) (j : ℕ) → k ≤ j → j < k + n → f j ≡ true → ((i : ℕ) → k ≤ i → i < j → f i ≡ false) → least_from n k f ≡ j
unfolding least_from
least_is zero k f j h l t b = absurd (omega arith)
least_is (suc n) k f j h l t b = go (eqb k j) refl (λ d. least_is n (k + 1) f j d (omega arith) t (λ i x y. b i (omega arith) y))
  where
    go : (s : Bool) → eqb k j ≡ s → (k + 1 ≤ j → least_from n (k + 1) f ≡ j) → cond (f k) k (least_from n (k + 1) f) ≡ j
    go true q ih = let e : k ≡ j = eqb-true k j q in rw (ap f e ∙ t) e
    go false q ih = let d : k ≡ j → ⊥ = eqb-false k j q in rw (b k (omega arith) (omega (arith, d))) (ih (omega (arith, d)))

least_none : (n k : ℕ) (f : ℕ → Bool) → ((i : ℕ) → k ≤ i → i < k + n → f i ≡ false) → least_from n k f ≡ 0
unfolding least_from
least_none zero k f b = refl
least_none (suc n) k f b = rw (b k (omega arith) (omega arith)) (least_none n (k + 1) f (λ i x y. b i (omega arith) (omega arith)))

pub least_of_lem : (n k : ℕ) (f : ℕ → Bool) (j : ℕ) → least_from n k f ≡ j → j ≢ 0 → Least n k f j
unfolding least_from
least_of_lem zero k f j e d = absurd (d (sym e))
least_of_lem (suc n) k f j e d = go (f k) refl e (λ w. least_of_lem n (k + 1) f j w d)
  where
    go : (t : Bool) → f k ≡ t → cond t k (least_from n (k + 1) f) ≡ j → (least_from n (k + 1) f ≡ j → Least n (k + 1) f j) → Least (suc n) k f j
    go true q w ih = record { passes = ap f (sym w) ∙ q; from = omega arith; below = omega arith; first = λ i x y. absurd (omega arith) }
    go false q w ih =
        let l = ih w in
        record { passes = l.passes; from = omega (arith, l.from); below = omega (arith, l.below); first = λ i x y. before l i x y (eqb i k) refl }
      where
        before : Least n (k + 1) f j → (i : ℕ) → k ≤ i → i < j → (t : Bool) → eqb i k ≡ t → f i ≡ false
        before l i x y true s = ap f (eqb-true i k s) ∙ q
        before l i x y false s = let g : i ≡ k → ⊥ = eqb-false i k s in l.first i (omega (arith, g)) y

pub none_of : (n k : ℕ) (f : ℕ → Bool) → least_from n k f ≡ 0 → 1 ≤ k → (i : ℕ) → k ≤ i → i < k + n → f i ≡ false
unfolding least_from
none_of zero k f e h i x y = absurd (omega arith)
none_of (suc n) k f e h i x y = go (f k) refl e (λ w. none_of n (k + 1) f w (omega arith) i)
  where
    go : (t : Bool) → f k ≡ t → cond t k (least_from n (k + 1) f) ≡ 0 → (least_from n (k + 1) f ≡ 0 → k + 1 ≤ i → i < k + 1 + n → f i ≡ false) → f i ≡ false
    go true q w ih = absurd (omega arith)
    go false q w ih = here (eqb i k) refl
      where
        here : (t : Bool) → eqb i k ≡ t → f i ≡ false
        here true s = ap f (eqb-true i k s) ∙ q
        here false s = let g : i ≡ k → ⊥ = eqb-false i k s in ih w (omega (arith, g)) (omega arith)

-- ---- numbers that the table hasn't got

above : (k : ℕ) (r : Rack) (e : Event) → last_refusal < k → applies k r e ≡ false
unfolding applies
above k r e h =
    rw (ne_eqb k 2 (λ q. omega arith), ne_eqb k 3 (λ q. omega arith), ne_eqb k 4 (λ q. omega arith), ne_eqb k 5 (λ q. omega arith))
    (rw (ne_eqb k 6 (λ q. omega arith), ne_eqb k 7 (λ q. omega arith), ne_eqb k 8 (λ q. omega arith), ne_eqb k 9 (λ q. omega arith))
    (rw (ne_eqb k 10 (λ q. omega arith), ne_eqb k 11 (λ q. omega arith), ne_eqb k 12 (λ q. omega arith), ne_eqb k 13 (λ q. omega arith)) refl))

under : (k : ℕ) (r : Rack) (e : Event) → k < 2 → applies k r e ≡ false
unfolding applies
under zero r e h = refl
under (suc zero) r e h = refl
under (suc (suc k)) r e h = absurd (omega arith)

-- what is so of every number of the table is so of every number
every : (r : Rack) (e : Event) (n : ℕ) → ((i : ℕ) → 2 ≤ i → i < n → applies i r e ≡ false) → (i : ℕ) → i < n → applies i r e ≡ false
every r e n b i h = go (ltb i 2) refl
  where
    go : (t : Bool) → ltb i 2 ≡ t → applies i r e ≡ false
    go true q = under i r e (ltb-true i 2 q)
    go false q = b i (ltb-false i 2 q) h

-- ---- the answer is k exactly when k applies and no smaller number does

pub refused_exactly : (r : Rack) (e : Event) (k : ℕ) → k ≢ 0
    → (refusal_of r e ≡ k) ↔ ((applies k r e ≡ true) × ((j : ℕ) → j < k → applies j r e ≡ false))
unfolding refusal_of
refused_exactly r e k d = (
  λ q. let l = least_of_lem (last_refusal + 1 - first_refusal) first_refusal (λ j. applies j r e) k q d in (l.passes, every r e k l.first),
  λ (t, b). least_is (last_refusal + 1 - first_refusal) first_refusal (λ j. applies j r e) k (from t) (to t) t (λ i x y. b i y),
)
  where
    from : applies k r e ≡ true → first_refusal ≤ k
    from t = go (ltb k first_refusal) refl
      where
        go : (u : Bool) → ltb k first_refusal ≡ u → first_refusal ≤ k
        go true q = never (sym (under k r e (ltb-true k first_refusal q)) ∙ t)
        go false q = ltb-false k first_refusal q

    to : applies k r e ≡ true → k < last_refusal + 1
    to t = go (ltb k (last_refusal + 1)) refl
      where
        go : (u : Bool) → ltb k (last_refusal + 1) ≡ u → k < last_refusal + 1
        go true q = ltb-true k (last_refusal + 1) q
        go false q = never (sym (above k r e (ltb-false k (last_refusal + 1) q)) ∙ t)

-- an event is done exactly when none applies
pub done_exactly : (r : Rack) (e : Event) → (refusal_of r e ≡ 0) ↔ ((k : ℕ) → applies k r e ≡ false)
unfolding refusal_of
done_exactly r e = (λ q k. go q k (ltb k (last_refusal + 1)) refl, λ b. least_none (last_refusal + 1 - first_refusal) first_refusal (λ j. applies j r e) (λ i x y. b i))
  where
    go : least_from (last_refusal + 1 - first_refusal) first_refusal (λ j. applies j r e) ≡ 0 → (k : ℕ) (t : Bool) → ltb k (last_refusal + 1) ≡ t → applies k r e ≡ false
    go q k true u = every r e (last_refusal + 1) (λ i x y. none_of (last_refusal + 1 - first_refusal) first_refusal (λ j. applies j r e) q (omega arith) i x y) k (ltb-true k (last_refusal + 1) u)
    go q k false u = above k r e (ltb-false k (last_refusal + 1) u)

-- ---- what is decided

pub decided_go : (r : Rack) (e : Event) (p : Plan) → decided r e ≡ Ok p → (refusal_of r e ≡ 0) × (plan_for r e ≡ p)
unfolding decided
decided_go r e p d = go (eqb (refusal_of r e) 0) refl d
  where
    go : (t : Bool) → eqb (refusal_of r e) 0 ≡ t → cond t (Ok (plan_for r e)) (Err (refusal_of r e)) ≡ Ok p → (refusal_of r e ≡ 0) × (plan_for r e ≡ p)
    go true q w = (eqb-true (refusal_of r e) 0 q, cc)
    go false q w = absurd (let z : ◌≡◌ {A = ℕ} 0 1 = cc in omega arith)

pub decided_no : (r : Rack) (e : Event) (k : ℕ) → decided r e ≡ Err k → (refusal_of r e ≡ k) × (k ≢ 0)
unfolding decided
decided_no r e k d = go (eqb (refusal_of r e) 0) refl d
  where
    go : (t : Bool) → eqb (refusal_of r e) 0 ≡ t → cond t (Ok (plan_for r e)) (Err (refusal_of r e)) ≡ Err k → (refusal_of r e ≡ k) × (k ≢ 0)
    go true q w = absurd (let z : ◌≡◌ {A = ℕ} 0 1 = cc in omega arith)
    go false q w = let i : refusal_of r e ≡ k = cc in (i, λ z. eqb-false (refusal_of r e) 0 q (i ∙ z))

-- an event that is done is refused by no number of the table
pub decided_none : (r : Rack) (e : Event) (p : Plan) → decided r e ≡ Ok p → (k : ℕ) → applies k r e ≡ false
decided_none r e p d = (done_exactly r e).0 (decided_go r e p d).0

-- on a rack that isn't sound every event is refused 2
pub decided_unsound : (r : Rack) (e : Event) → sound_of r ≡ false → decided r e ≡ refused 2
unfolding decided refusal_of least_from applies
decided_unsound r e h = rw h

-- and on one that is sound none is
pub decided_fit : (r : Rack) (e : Event) (k : ℕ) → sound_of r ≡ true → decided r e ≡ Err k → k ≢ 2
unfolding applies
decided_fit r e k h d q =
    let n = decided_no r e k d in
    let t : applies k r e ≡ true = ((refused_exactly r e k n.1).0 n.0).0 in
    let u : applies 2 r e ≡ true = ap (λ (j : ℕ). applies j r e) (sym q) ∙ t in
    never (sym (ap not h) ∙ u)

-- a number that is given is one of 2 to 13
pub decided_refuses : (r : Rack) (e : Event) (k : ℕ) → decided r e ≡ Err k → (first_refusal ≤ k) × (k ≤ last_refusal)
unfolding refusal_of
decided_refuses r e k d = let q = decided_no r e k d in let l = least_of_lem (last_refusal + 1 - first_refusal) first_refusal (λ j. applies j r e) k q.0 q.1 in (l.from, omega (arith, l.below))

-- a refusal leaves rack, wire and record as they were, and stops the schedule
pub refused_leaves : (done : ℕ) (r : Rack) (e : Event) (k : ℕ) (next : Rack → Ran) → decided r e ≡ Err k → turn done r e (decided r e) next ≡ ran_of done k r
unfolding turn
refused_leaves done r e k next d = rw d

-- the same of a schedule: what the table says of its next event is its refusal, and the rack is the one before that event
pub refused_stops : (done : ℕ) (r : Rack) (left x a b v k : ℕ) (ws : List ℕ) → refusal_of r (event_of x a b v) ≡ k → k ≢ 0
    → run_from done r (suc left) (x ∷ a ∷ b ∷ v ∷ ws) ≡ ran_of done k r
unfolding run_from decided
refused_stops done r left x a b v k ws q d = refused_leaves done r (event_of x a b v) k _ (rw (q, ne_eqb k 0 d))

-- and an event of which the table says nothing is done as planned
pub done_goes_on : (done : ℕ) (r : Rack) (left x a b v : ℕ) (ws : List ℕ) → refusal_of r (event_of x a b v) ≡ 0
    → run_from done r (suc left) (x ∷ a ∷ b ∷ v ∷ ws) ≡ run_from (done + 1) (applied_of r (event_of x a b v) (plan_for r (event_of x a b v))) left ws
unfolding run_from turn decided
done_goes_on done r left x a b v ws q = rw q

-- ---- the order in which the code tests

-- 11 is tested of plans that begin an operation, and those are the plans of starts
noted_starts : (s : Sight) (held : Option Message) (e : Event) (p : Plan) → Does s held e p → (taken : ℕ) (d : Decision)
    → noted p.note taken d ≡ cond (is_start e && ltb entry_limit (taken + 2)) (refused 11) d
unfolding noted is_start
noted_starts s held (StartRead client cell) p x taken d = rw x.plan
noted_starts s held (StartWrite client cell v) p x taken d = rw x.plan
noted_starts s None (Deliver slot) p x taken d = absurd x
noted_starts s (Some m) (Deliver slot) p x taken d = delivered x
  where
    delivered : Delivers s m p → noted p.note taken d ≡ d
    delivered (tells y) = rw y.plan
    delivered (takes y) = rw y.plan
    delivered (hears y) = rw y.plan
    delivered (chooses y) = rw y.plan
    delivered (counts y) = rw y.plan
    delivered (ends y) = rw y.plan
    delivered (spends y) = rw y.plan
noted_starts s None (Lose slot) p x taken d = absurd x
noted_starts s (Some m) (Lose slot) p x taken d = rw x
noted_starts s None (Copy slot) p x taken d = absurd x
noted_starts s (Some m) (Copy slot) p x taken d = rw x
noted_starts s held (Resend client) p x taken d = rw x.plan
noted_starts s held (Stop client) p x taken d = rw x.plan
noted_starts s held (Off replica) p x taken d = rw x.plan
noted_starts s held (On replica) p x taken d = rw x.plan
noted_starts s held Unknown p x taken d = absurd x

delivery_starts : (e : Event) → is_delivery e ≡ true → is_start e ≡ false
unfolding is_delivery is_start
delivery_starts (StartRead client cell) q = never q
delivery_starts (StartWrite client cell v) q = never q
delivery_starts (Deliver slot) q = refl
delivery_starts (Lose slot) q = refl
delivery_starts (Copy slot) q = refl
delivery_starts (Resend client) q = refl
delivery_starts (Stop client) q = refl
delivery_starts (Off replica) q = refl
delivery_starts (On replica) q = refl
delivery_starts Unknown q = refl

-- what is in a rack is an event
pub known : (z : Settings) (e : Event) → in_rack z e ≡ true → is_unknown e ≡ false
unfolding in_rack is_unknown
known z (StartRead client cell) q = refl
known z (StartWrite client cell v) q = refl
known z (Deliver slot) q = refl
known z (Lose slot) q = refl
known z (Copy slot) q = refl
known z (Resend client) q = refl
known z (Stop client) q = refl
known z (Off replica) q = refl
known z (On replica) q = refl
known z Unknown q = never q

-- a decision by a number: 0 is the plan
abbrev chosen_by : Plan → ℕ → Decision
chosen_by p k = cond (eqb k 0) (Ok p) (Err k)

pick : (p : Plan) (t : Bool) (k rest : ℕ) → eqb k 0 ≡ false → chosen_by p (cond t k rest) ≡ cond t (Err k) (chosen_by p rest)
pick p true k rest h = rw h refl
pick p false k rest h = refl

-- past a test that doesn't hold
past : (t : Bool) (k : ℕ) (x y : Decision) → (t ≡ false → x ≡ y) → cond t (Err k) x ≡ cond t (Err k) y
past true k x y f = refl
past false k x y f = f refl

-- a refusal passes 11 and 13 as it is
push : (t : Bool) (k : ℕ) (d : Decision) (taken room : ℕ) → checked (cond t (Err k) d) taken room ≡ cond t (Err k) (checked d taken room)
unfolding checked
push true k d taken room = refl
push false k d taken room = refl

module _ (r : Rack) (e : Event) where
  -- what the event looks at
  abbrev s : Sight
  s = sight r e

  -- what its slot holds
  abbrev held : Option Message
  held = looked_held r e

  -- its plan
  abbrev p : Plan
  p = plan_for r e

  -- entries + answers owed
  abbrev taken : ℕ
  taken = r.count + owed r

  -- the numbers from 10 on, where those below don't apply
  last_three : (number_spent s held e ≡ false → decision_of s held e ≡ Ok p)
      → checked (cond (number_spent s held e) (refused 12) (Ok p)) taken (room_of r.wire)
      ≡ cond (record_full r e) (refused 11) (cond (number_spent s held e) (refused 12) (cond (wire_full r e) (refused 13) (Ok p)))
  unfolding record_full wire_full checked number_spent
  last_three f = go (is_delivery e && spent_slot s held) refl f
    where
      go : (t : Bool) → (is_delivery e && spent_slot s held) ≡ t → (t ≡ false → decision_of s held e ≡ Ok p)
          → checked (cond t (refused 12) (Ok p)) taken (room_of r.wire)
          ≡ cond (is_start e && ltb entry_limit (r.count + owed r + 2)) (refused 11) (cond t (refused 12) (cond (too_many (room_of r.wire) p) (refused 13) (Ok p)))
      go true q g = rw (delivery_starts e (and_left (is_delivery e) (spent_slot s held) q))
      go false q g = noted_starts s held e p (method s held e p (g refl)) taken (cond (too_many (room_of r.wire) p) (refused 13) (Ok p))

  -- the table from 4 on, one test after another
  abbrev chain : Decision
  chain =
      cond (slot_empty held e) (refused 4)
      (cond (client_stopped s e) (refused 5)
      (cond (already_open s e) (refused 6)
      (cond (none_open s e) (refused 7)
      (cond (replica_off s held e) (refused 8)
      (cond (switched_so s e) (refused 9)
      (cond (op_spent s e) (refused 10)
      (cond (record_full r e) (refused 11) (cond (number_spent s held e) (refused 12) (cond (wire_full r e) (refused 13) (Ok p))))))))))

  by_table : sound_of r ≡ true → decided r e ≡ cond (not (in_rack r.settings e)) (refused 3) chain
  unfolding decided refusal_of least_from applies
  by_table h =
      rw h
      (pick p (not (in_rack r.settings e)) 3 _ refl
      ∙ ap (cond (not (in_rack r.settings e)) (refused 3))
      (pick p (slot_empty held e) 4 _ refl
      ∙ ap (cond (slot_empty held e) (refused 4))
      (pick p (client_stopped s e) 5 _ refl
      ∙ ap (cond (client_stopped s e) (refused 5))
      (pick p (already_open s e) 6 _ refl
      ∙ ap (cond (already_open s e) (refused 6))
      (pick p (none_open s e) 7 _ refl
      ∙ ap (cond (none_open s e) (refused 7))
      (pick p (replica_off s held e) 8 _ refl
      ∙ ap (cond (replica_off s held e) (refused 8))
      (pick p (switched_so s e) 9 _ refl
      ∙ ap (cond (switched_so s e) (refused 9))
      (pick p (op_spent s e) 10 _ refl
      ∙ ap (cond (op_spent s e) (refused 10))
      (pick p (record_full r e) 11 _ refl
      ∙ ap (cond (record_full r e) (refused 11))
      (pick p (number_spent s held e) 12 _ refl
      ∙ ap (cond (number_spent s held e) (refused 12))
      (pick p (wire_full r e) 13 _ refl)))))))))))

  by_code : in_rack r.settings e ≡ true → checked (decision_of s held e) taken (room_of r.wire) ≡ chain
  unfolding decision_of
  by_code i =
      let room : ℕ = room_of r.wire in
      rw (known r.settings e i)
      (push (slot_empty held e) 4 _ taken room
      ∙ past (slot_empty held e) 4 _ _ (λ a.
      push (client_stopped s e) 5 _ taken room
      ∙ past (client_stopped s e) 5 _ _ (λ b.
      push (already_open s e) 6 _ taken room
      ∙ past (already_open s e) 6 _ _ (λ c.
      push (none_open s e) 7 _ taken room
      ∙ past (none_open s e) 7 _ _ (λ d.
      push (replica_off s held e) 8 _ taken room
      ∙ past (replica_off s held e) 8 _ _ (λ f.
      push (switched_so s e) 9 _ taken room
      ∙ past (switched_so s e) 9 _ _ (λ g.
      push (op_spent s e) 10 _ taken room
      ∙ past (op_spent s e) 10 _ _ (λ h. last_three (λ k. rw (known r.settings e i, a, b, c, d, f, g, h, k))))))))))

  -- on a sound rack the code's order gives the table's answer
  pub in_order_lem : sound_of r ≡ true → decided r e ≡ in_order r e
  in_order_lem h = by_table h ∙ go (in_rack r.settings e) refl
    where
      go : (t : Bool) → in_rack r.settings e ≡ t → cond (not t) (refused 3) chain ≡ cond t (checked (decision_of s held e) taken (room_of r.wire)) (refused 3)
      go true q = sym (by_code q)
      go false q = refl
