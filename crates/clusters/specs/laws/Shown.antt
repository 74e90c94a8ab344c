-- The arrays show each entry of a record without a fault: where a write is asked, its cell and value; elsewhere no write.
use Rattle.std.specs.Prelude.{ℕ, suc, ◌+◌, ◌≤◌, ◌<◌, ◌≡◌, ◌≢◌, ◌⊎◌, Bool, cond, not, ◌&&◌, eqb, ℤ, pos, length, None}
use Rattle.std.proofs.Math.Path.{refl}
use Rattle.std.proofs.Common.{sym, ap, ◌∙◌, subst, inl, inr, ⊎_elim, true≢false, arith, add-one, eqb-true}
use Rattle.std.proofs.Math.Bool.{true, false}
use mathlib.Core.List.Memᴰ.{append_left as mem_left}
use mathlib.Core.List.Memᴰ.{append_right as mem_right}
use mathlib.Core.List.Memᴰ.{head as here}
use mathlib.Core.List.Memᴰ.{map as mem_map}
use mathlib.Core.List.Memᴰ.{not-nil as no_mem}
use mathlib.Core.List.{List, [], ◌∷◌, ◌++◌}
use mathlib.Core.List.Memᴰ.{of_map as mem_of_map}
use Rattle.number.specs.Value.{alternating_of}
use Rattle.record.specs.declared.Entry.{Entry}
use Rattle.record.specs.declared.Entry.TheVariants.{ReadAsked, WriteAsked, Told, Done}
use Rattle.record.specs.declared.Standing.{Standing}
use Rattle.record.specs.Record.{fresh, fault_after, standing_after}
use Rattle.record.specs.Legal.{Follows, Legal}
use Rattle.law.specs.Operation.{Op, asked, finished, open_of, note, notes, operations}
use Rattle.law.specs.Order.{In}
use Rattle.law.specs.laws.Lists.{in_next}
use Rattle.law.specs.laws.Steps.{Step, step_of, note_step, note_step_lem, ending, ending_keeps, no_fault}
use Rattle.law.specs.Standing.{has}
use Rattle.law.specs.laws.Steps.Step.{asks, ends}
use Rattle.law.specs.laws.Operations.{Matches}
use Rattle.law.proofs.theorems.Operations.{tied_next, tied_fresh}
use Rattle.chains.specs.Chains.{Asks}
use Rattle.clusters.specs.laws.Arrays.{Arrays, kind_at, cell_at, value_at}
use Rattle.clusters.specs.laws.Bridge.{Holds, write_entry, cell_start, value_start, entry_write}

-- what the arrays show of entry p
abbrev pub Shows : Arrays → ℕ → Entry → Type 0
Shows a p (ReadAsked client cell) = kind_at a p ≢ 1
Shows a p (WriteAsked client cell v) = Asks a.kinds a.cells a.values p cell.0 (alternating_of v)
Shows a p (Told client v) = kind_at a p ≢ 1
Shows a p (Done client) = kind_at a p ≢ 1

-- of each of the entries es, of which the first has number n
abbrev pub AllShow : Arrays → ℕ → List Entry → Type 0
AllShow a n [] = Unit {0}
AllShow a n (e ∷ es) = Shows a n e × AllShow a (n + 1) es

-- ---- what later entries leave of an operation

-- y is x later: its number, cell and kind stay, and a write's value
pub record Stays (x y : Op) : Type 0 where
  pub number : y.number ≡ x.number
  pub write : y.write ≡ x.write
  pub cell : y.cell ≡ x.cell
  pub value : x.write ≡ true → y.value ≡ x.value

stays_same : (x : Op) → Stays x x
stays_same x = record { number = refl; write = refl; cell = refl; value = λ w. refl }

stays_on : {x y z : Op} → Stays x y → Stays y z → Stays x z
stays_on p q =
    record {
      number = q.number ∙ p.number;
      write = q.write ∙ p.write;
      cell = q.cell ∙ p.cell;
      value = λ w. q.value (p.write ∙ w) ∙ p.value w;
    }

-- an end by client k leaves it, if a write's value stays
stays_ending : (n k : ℕ) (v : ℤ → ℤ) (x : Op) → (x.write ≡ true → open_of k x ≡ true → v x.value ≡ x.value) → Stays x (ending n k v x)
stays_ending n k v x same =
    record {
      number = ending_keeps (λ (o : Op). o.number) (λ t u y. refl) n k v x;
      write = ending_keeps (λ (o : Op). o.write) (λ t u y. refl) n k v x;
      cell = ending_keeps (λ (o : Op). o.cell) (λ t u y. refl) n k v x;
      value = λ w. go w (open_of k x) refl;
    }
  where
    go : x.write ≡ true → (b : Bool) → open_of k x ≡ b → (cond b (finished n (v x.value) x) x).value ≡ x.value
    go w true e = same w e
    go w false e = refl

open_client : (k : ℕ) (x : Op) → open_of k x ≡ true → (x.client ≡ k) × (x.over ≡ false)
open_client k x e = go (eqb x.client k) refl x.over refl e
  where
    go : (s : Bool) → eqb x.client k ≡ s → (t : Bool) → x.over ≡ t → (s && not t) ≡ true → (x.client ≡ k) × (x.over ≡ false)
    go true p false q h = (eqb-true x.client k p, q)
    go true p true q h = absurd (true≢false (sym h))
    go false p t q h = absurd (true≢false (sym h))

-- a value is told only to a read
told_read : (st : Standing) (client : _) (v : ℤ) → fault_after st (Told client v) ≡ None → has st client.0 ≡ 1
unfolding fault_after
told_read st client v f = eqb-true (has st client.0) 1 (no_fault (eqb (has st client.0) 1) _ f)

-- an operation after one entry more
stays_next : (st : Standing) (n : ℕ) (e : Entry) (ops : List Op) → fault_after st e ≡ None → Matches st ops → (x : Op) → In x ops
    → (y : Op) × (In y (note_step n (step_of e) ops) × Stays x y)
stays_next st n (ReadAsked client cell) ops f t x m = (x, (mem_left (asked n client.0 cell.0 false (pos 0) n ∷ []) m, stays_same x))
stays_next st n (WriteAsked client cell v) ops f t x m = (x, (mem_left (asked n client.0 cell.0 true v n ∷ []) m, stays_same x))
stays_next st n (Told client v) ops f t x m = (
  ending n client.0 (λ old. v) x,
  (
    mem_map (ending n client.0 (λ old. v)) m,
    stays_ending n client.0 (λ old. v) x
        (λ w o. absurd (let c = open_client client.0 x o in let r = told_read st client v f in
        let k : has st x.client ≡ 2 = t.kind x m c.1 ∙ ap (λ (b : Bool). cond b 2 1) w in
        omega (arith, r, k, ap (has st) c.0))),
  ),
)
stays_next st n (Done client) ops f t x m =
    (ending n client.0 (λ old. old) x, (mem_map (ending n client.0 (λ old. old)) m, stays_ending n client.0 (λ old. old) x (λ w o. refl)))

-- after all
stays_after : (st : Standing) (n : ℕ) (es : List Entry) (ops : List Op) → Follows st es → Matches st ops → (x : Op) → In x ops → (y : Op) × (In y (notes n es ops) × Stays x y)
unfolding notes
stays_after st n [] ops f t x m = (x, (m, stays_same x))
stays_after st n (e ∷ es) ops f t x m =
    let a = stays_next st n e ops f.1 t x m in
    let b = stays_after (standing_after st e) (suc n) es (note n e ops) f.2 (tied_next st n e es ops f t) a.0 (rw (note_step_lem n e ops) a.1.0) in
    (b.0, (b.1.0, stays_on a.1.1 b.1.1))

-- where an operation comes from: it was there, or one of the entries started it
begun_next : (n : ℕ) (s : Step) (ops : List Op) (x : Op) → In x (note_step n s ops) → ((y : Op) × (In y ops × (y.number ≡ x.number))) ⊎ (n ≤ x.number)
begun_next n (asks k c w v) ops x m = ⊎_elim (λ i. inl (x, (i, refl))) (λ e. inr (omega (arith, ap (λ (o : Op). o.number) e))) (in_next ops m)
begun_next n (ends k v) ops x m =
    let b = mem_of_map (ending n k v) ops m in
    inl (b.0, (b.1, sym (ending_keeps (λ (o : Op). o.number) (λ t u y. refl) n k v b.0) ∙ ap (λ (o : Op). o.number) b.2))

begun_after : (n : ℕ) (es : List Entry) (ops : List Op) (x : Op) → In x (notes n es ops) → ((y : Op) × (In y ops × (y.number ≡ x.number))) ⊎ (n ≤ x.number)
unfolding notes
begun_after n [] ops x m = inl (x, (m, refl))
begun_after n (e ∷ es) ops x m = ⊎_elim
    (λ b. ⊎_elim (λ d. inl (d.0, (d.1.0, d.1.1 ∙ b.1.1))) (λ l. inr (omega (arith, l, b.1.1))) (begun_next n (step_of e) ops b.0 (rw (note_step_lem n e ops) at b.1.0)))
    (λ l. inr (omega arith)) (begun_after (suc n) es (note n e ops) x m)

-- numbers so far are below n
abbrev Below : ℕ → List Op → Type 0
Below n ops = (x : Op) → In x ops → x.number < n

below_next : (n : ℕ) (s : Step) (ops : List Op) → Below n ops → Below (suc n) (note_step n s ops)
below_next n (asks k c w v) ops d x m = ⊎_elim (λ i. let l = d x i in omega arith) (λ e. omega (arith, ap (λ (o : Op). o.number) e)) (in_next ops m)
below_next n (ends k v) ops d x m =
    let b = mem_of_map (ending n k v) ops m in
    omega (arith, d b.0 b.1, ending_keeps (λ (o : Op). o.number) (λ t u y. refl) n k v b.0, ap (λ (o : Op). o.number) b.2)

-- ---- what is shown

module _ (a : Arrays) (all : ℕ) (final : List Op) (h : Holds a all final) where
  -- the entry n starts x
  starts : (n : ℕ) (es : List Entry) (st : Standing) (ops : List Op) → Follows st es → Matches st ops → notes n es ops ≡ final → (x : Op) → In x ops
      → (y : Op) × (In y final × Stays x y)
  starts n es st ops f t e x m = let s = stays_after st n es ops f t x m in (s.0, (subst (λ (l : List Op). In s.0 l) e s.1.0, s.1.1))

  shows_write : (x y : Op) → In y final → Stays x y → x.write ≡ true → Asks a.kinds a.cells a.values x.number x.cell (alternating_of x.value)
  shows_write x y m s w =
      let i = s.write ∙ w in
      record {
        write = ap (kind_at a) (sym s.number) ∙ (write_entry a all final h y m i).1;
        cell = ap (cell_at a) (sym s.number) ∙ (cell_start a all final h y m ∙ s.cell);
        value = ap (value_at a) (sym s.number) ∙ (value_start a all final h y m i ∙ ap alternating_of (s.value w));
      }

  shows_read : (x y : Op) → In y final → Stays x y → x.write ≡ false → kind_at a x.number ≢ 1
  shows_read x y m s w e =
      omega (arith, (h.paired.started y m).1.kind ∙ ap (λ (b : Bool). cond b 1 0) (s.write ∙ w), ap (kind_at a) s.number, e)

  -- an entry that ends an operation starts none
  shows_end : (n : ℕ) (es : List Entry) (k : ℕ) (v : ℤ → ℤ) (ops : List Op) → n < all → Below n ops → notes (suc n) es (note_step n (ends k v) ops) ≡ final → kind_at a n ≢ 1
  shows_end n es k v ops l d e i = go (entry_write a all final h n (l, i))
    where
      go : ((x : Op) × (In x final) × (x.write ≡ true) × (x.number ≡ n)) → ⊥
      go (x, m, w, q) = ⊎_elim
          (λ b. let c = mem_of_map (ending n k v) ops b.1.0 in
          omega (arith, d c.0 c.1, q, b.1.1, ending_keeps (λ (o : Op). o.number) (λ t u y. refl) n k v c.0, ap (λ (o : Op). o.number) c.2))
          (λ r. omega (arith, r, q)) (begun_after (suc n) es (note_step n (ends k v) ops) x (subst (λ (l : List Op). In x l) (sym e) m))

  shown_one : (n : ℕ) (e : Entry) (es : List Entry) (st : Standing) (ops : List Op) → n < all → Follows st (e ∷ es) → Matches st ops → Below n ops
      → notes (suc n) es (note n e ops) ≡ final → Shows a n e
  unfolding note
  shown_one n (ReadAsked client cell) es st ops l f t d e =
      let x = asked n client.0 cell.0 false (pos 0) n in
      let s = starts (suc n) es (standing_after st (ReadAsked client cell)) (ops ++ (x ∷ [])) f.2 (tied_next st n (ReadAsked client cell) es ops f t) e x
      (mem_right ops (here refl)) in
      shows_read x s.0 s.1.0 s.1.1 refl
  shown_one n (WriteAsked client cell v) es st ops l f t d e =
      let x = asked n client.0 cell.0 true v n in
      let s = starts (suc n) es (standing_after st (WriteAsked client cell v)) (ops ++ (x ∷ [])) f.2 (tied_next st n (WriteAsked client cell v) es ops f t) e x
      (mem_right ops (here refl)) in
      shows_write x s.0 s.1.0 s.1.1 refl
  shown_one n (Told client v) es st ops l f t d e = shows_end n es client.0 (λ old. v) ops l d e
  shown_one n (Done client) es st ops l f t d e = shows_end n es client.0 (λ old. old) ops l d e

  shown_from : (n : ℕ) (es : List Entry) (st : Standing) (ops : List Op) → n + length es ≡ all → Follows st es → Matches st ops → Below n ops → notes n es ops ≡ final
      → AllShow a n es
  unfolding notes
  shown_from n [] st ops l f t d e = tt
  shown_from n (x ∷ es) st ops l f t d e = (
    shown_one n x es st ops (omega arith) f t d e,
    rw (add-one n) (shown_from (suc n) es (standing_after st x) (note n x ops) (omega arith) f.2 (tied_next st n x es ops f t)
        (rw (note_step_lem n x ops) (below_next n (step_of x) ops d)) e),
  )

-- the arrays show every entry of a record without a fault
pub all_shown : (a : Arrays) (es : List Entry) → Legal es → Holds a (length es) (operations es) → AllShow a 0 es
unfolding operations
all_shown a es l h = shown_from a (length es) (operations es) h 0 es fresh [] (omega arith) l.follows tied_fresh (λ x m. absurd (no_mem m)) refl
