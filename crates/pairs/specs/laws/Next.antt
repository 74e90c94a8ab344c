-- One entry more: with what is stored of it at the first free place, the arrays hold the operations after it.
use Rattle.std.specs.Prelude.{◌≡◌, ◌≢◌, ◌⊎◌, Bool, cond, not, ◌&&◌, List, [], ◌∷◌, ◌++◌, map, ℕ, ◌+◌, ◌≤◌, ◌<◌, T, eqb, ℤ, pos, length, set, None}
use Rattle.std.proofs.Math.Path.{refl, sym}
use Rattle.std.proofs.Common.{ap, ◌∙◌, inl, inr, ⊎_elim, arith, get_or-set_same, get_or-set_other}
use Rattle.std.proofs.Math.Bool.{true, false}
use mathlib.Core.List.Memᴰ.{append_left as mem_left}
use mathlib.Core.List.Memᴰ.{append_right as mem_right}
use mathlib.Core.List.Memᴰ.{cast as mem_cast}
use mathlib.Core.List.Memᴰ.{head as here}
use mathlib.Core.List.Memᴰ.{map as mem_map}
use mathlib.Core.List.Memᴰ.{of_map as mem_of_map}
use Rattle.std.proofs.Math.Decide.{ℕ_discrete}
use Rattle.std.proofs.Math.ListN.{get_or}
use borrow.Author.Tests.{eqb-true, eq-eqb}
use Rattle.record.specs.Entry.{last_client, client_limit}
use Rattle.number.specs.Value.{alternating_of}
use Rattle.record.specs.declared.Entry.{Entry}
use Rattle.record.specs.declared.Entry.TheVariants.{ReadAsked, WriteAsked, Told, Done}
use Rattle.record.specs.declared.Standing.{Standing}
use Rattle.record.specs.Record.{entry_limit, fault_after}
use Rattle.record.specs.Legal.{InRange}
use Rattle.law.specs.Operation.{Op, asked, finished, note}
use Rattle.law.specs.Order.{In}
use Rattle.law.specs.laws.Lists.{in_next}
use Rattle.law.specs.Standing.{has}
use Rattle.law.specs.laws.Steps.{kind_of, ending, ending_keeps, ending_over, no_fault, may_step}
use Rattle.law.specs.laws.Operations.{Matches}
use Rattle.law.proofs.theorems.Operations.{none_open, still_open}
use Rattle.pairs.specs.Pairs.{StartsAt, EndsAt, Paired}
use Rattle.pairs.specs.laws.Noting.{Long, note_row}

-- below the place after n: n, or before it
split : (n p : ℕ) → p < n + 1 → (p < n) ⊎ (p ≡ n)
split n p l = go (ℕ_discrete p n)
  where
    go : Dec (p ≡ n) → (p < n) ⊎ (p ≡ n)
    go (yes e) = inr e
    go (no d) = inl (omega (arith, d))

over_true : (b : Bool) → T b → b ≡ true
over_true true t = refl
over_true false t = absurd t

-- ---- what stands below place n stays

module _ (kinds cells values starts : List ℕ) (n kind cell value start : ℕ) (x : Op) (p : ℕ) (l : p < n) where
  other : p ≢ n
  other e = omega arith

  starts_keep : StartsAt kinds cells values starts x p → StartsAt (set kinds n kind) (set cells n cell) (set values n value) (set starts n start) x p
  starts_keep w =
      record {
        kind = get_or-set_other kinds n p kind 0 other ∙ w.kind;
        cell = get_or-set_other cells n p cell 0 other ∙ w.cell;
        value = λ t. get_or-set_other values n p value 0 other ∙ w.value t;
        start = get_or-set_other starts n p start 0 other ∙ w.start;
      }

  ends_keep : EndsAt kinds cells values starts x p → EndsAt (set kinds n kind) (set cells n cell) (set values n value) (set starts n start) x p
  ends_keep w =
      record {
        kind = get_or-set_other kinds n p kind 0 other ∙ w.kind;
        cell = get_or-set_other cells n p cell 0 other ∙ w.cell;
        value = λ t. get_or-set_other values n p value 0 other ∙ w.value t;
        start = get_or-set_other starts n p start 0 other ∙ w.start;
      }

-- ---- an entry that starts an operation, and one that ends one

module _ (kinds cells values starts : List ℕ) (n : ℕ) (ops : List Op) (long : Long kinds cells values starts) (few : n < entry_limit) (old : Paired ops n kinds cells values starts) where
  module _ (kind cell value start : ℕ) where
    started_still : (x : Op) → In x ops
        → (x.number < n + 1) × StartsAt (set kinds n kind) (set cells n cell) (set values n value) (set starts n start) x x.number
    started_still x m = let w = old.started x m in (omega (arith, w.0), starts_keep kinds cells values starts n kind cell value start x x.number w.0 w.1)

    ended_still : (x : Op) → In x ops → T x.over
        → (x.stop < n + 1) × EndsAt (set kinds n kind) (set cells n cell) (set values n value) (set starts n start) x x.stop
    ended_still x m t = let w = old.ended x m t in (omega (arith, w.0), ends_keep kinds cells values starts n kind cell value start x x.stop w.0 w.1)

  module _ (k c : ℕ) (w : Bool) (v : ℤ) (kind value : ℕ) (known : kind ≡ cond w 1 0) (written : w ≡ true → value ≡ alternating_of v) where
    starts_here : StartsAt (set kinds n kind) (set cells n c) (set values n value) (set starts n n) (asked n k c w v n) n
    starts_here =
        record {
          kind = get_or-set_same kinds n kind 0 (omega (arith, long.kinds_long)) ∙ known;
          cell = get_or-set_same cells n c 0 (omega (arith, long.cells_long));
          value = λ t. get_or-set_same values n value 0 (omega (arith, long.values_long)) ∙ written t;
          start = get_or-set_same starts n n 0 (omega (arith, long.starts_long));
        }

    paired_asks : Paired (ops ++ (asked n k c w v n ∷ [])) (n + 1) (set kinds n kind) (set cells n c) (set values n value) (set starts n n)
    paired_asks =
        record {
          started = λ x m. ⊎_elim (λ r. started_still kind c value n x r) (λ e. rw e (omega arith, starts_here)) (in_next ops m);
          ended = λ x m t. ⊎_elim (λ r. ended_still kind c value n x r t) (λ e. let z : T false = rw e at t in absurd z) (in_next ops m);
          each = λ p l. ⊎_elim (λ b. ⊎_elim (λ f. inl (f.0, (mem_left _ f.1.0, f.1.1))) (λ f. inr (f.0, (mem_left _ f.1.0, f.1.1))) (old.each p b))
              (λ e. inl (asked n k c w v n, (mem_right ops (here refl), sym e))) (split n p l);
        }

  -- o is the client's only open operation
  module _ (k : ℕ) (v : ℤ → ℤ) (o : Op) (m : In o ops) (mine : o.client ≡ k) (unended : o.over ≡ false)
      (only : (y : Op) → In y ops → y.client ≡ k → y.over ≡ false → y ≡ o)
      (kind cell value start : ℕ) (known : kind ≡ cond o.write 3 2) (of : cell ≡ o.cell) (from : start ≡ o.number)
      (kept : o.write ≡ true → v o.value ≡ o.value) (given : o.write ≡ false → value ≡ alternating_of (v o.value)) where
    -- the open operation, finished by entry n
    abbrev closed : Op
    closed = finished n (v o.value) o

    closes : ending n k v o ≡ closed
    closes = rw (eq-eqb o.client k mine, unended)

    -- every other operation stays as it was
    stays : (y : Op) → In y ops → (ending n k v y ≡ closed) ⊎ (ending n k v y ≡ y)
    stays y r = go (eqb y.client k) refl y.over refl
      where
        go : (s : Bool) → eqb y.client k ≡ s → (t : Bool) → y.over ≡ t
            → (cond (s && not t) (finished n (v y.value) y) y ≡ closed) ⊎ (cond (s && not t) (finished n (v y.value) y) y ≡ y)
        go true p true q = inr refl
        go true p false q = inl (ap (λ (z : Op). finished n (v z.value) z) (only y r (eqb-true y.client k p) q))
        go false p t q = inr refl

    closed_started : (o.number < n + 1) × StartsAt (set kinds n kind) (set cells n cell) (set values n value) (set starts n start) closed o.number
    closed_started =
        let w = started_still kind cell value start o m in
        (w.0, record { kind = w.1.kind; cell = w.1.cell; value = λ t. w.1.value t ∙ ap alternating_of (sym (kept t)); start = w.1.start })

    ends_here : EndsAt (set kinds n kind) (set cells n cell) (set values n value) (set starts n start) closed n
    ends_here =
        record {
          kind = get_or-set_same kinds n kind 0 (omega (arith, long.kinds_long)) ∙ known;
          cell = get_or-set_same cells n cell 0 (omega (arith, long.cells_long)) ∙ of;
          value = λ t. get_or-set_same values n value 0 (omega (arith, long.values_long)) ∙ given t;
          start = get_or-set_same starts n start 0 (omega (arith, long.starts_long)) ∙ from;
        }

    paired_ends : Paired (map (ending n k v) ops) (n + 1) (set kinds n kind) (set cells n cell) (set values n value) (set starts n start)
    paired_ends =
        record {
          started = λ x r. let b = mem_of_map (ending n k v) ops r in
              ⊎_elim (λ f. let e : x ≡ closed = sym b.2 ∙ f in rw e closed_started) (λ f. let e : x ≡ b.0 = sym b.2 ∙ f in
              rw e (started_still kind cell value start b.0 b.1)) (stays b.0 b.1);
          ended = λ x r t. let b = mem_of_map (ending n k v) ops r in
              ⊎_elim (λ f. let e : x ≡ closed = sym b.2 ∙ f in rw e (omega arith, ends_here))
              (λ f. let e : x ≡ b.0 = sym b.2 ∙ f in let u : T b.0.over = rw e at t in rw e (ended_still kind cell value start b.0 b.1 u)) (stays b.0 b.1);
          each = λ p l. ⊎_elim (λ b. ⊎_elim (λ f. inl (ending n k v f.0, (mem_map (ending n k v) f.1.0, number f.0 ∙ f.1.1)))
              (λ f. inr (f.0, (mem_cast (sym (ending_over n k v f.0 (over_true f.0.over f.1.1.0))) (mem_map (ending n k v) f.1.0), f.1.1))) (old.each p b))
              (λ e. inr (closed, (mem_cast (sym closes) (mem_map (ending n k v) m), (tt, sym e)))) (split n p l);
        }
      where
        number : (x : Op) → (ending n k v x).number ≡ x.number
        number = ending_keeps (λ (z : Op). z.number) (λ t u y. refl) n k v

-- ---- any entry that may follow

kind_read : (w : Bool) → kind_of w ≡ 1 → w ≡ false
kind_read true e = absurd (omega arith)
kind_read false e = refl

kind_write : (w : Bool) → kind_of w ≡ 2 → w ≡ true
kind_write true e = refl
kind_write false e = absurd (omega arith)

true_false : {A : Type 0} {b : Bool} → b ≡ true → b ≡ false → A
true_false p q = let z : ◌≡◌ {A = ℕ} 0 1 = cc in absurd (omega arith)

-- by client, the start of its open operation
abbrev pub OpenAt : List Op → List ℕ → Type 0
OpenAt ops opened = (x : Op) → In x ops → x.over ≡ false → get_or opened x.client 0 ≡ x.number

module _ (kinds cells values starts opened : List ℕ) (n : ℕ) (ops : List Op) (long : Long kinds cells values starts) (few : n < entry_limit) (st : Standing) (tied : Matches st ops)
    (by : OpenAt ops opened) where
  -- the cell that is found for an end
  cell_found : Paired ops n kinds cells values starts → (o : Op) → In o ops → (k : ℕ) → o.client ≡ k → o.over ≡ false → get_or cells (get_or opened k 0) 0 ≡ o.cell
  cell_found old o m k q z =
      let s : get_or opened k 0 ≡ o.number = ap (λ (j : ℕ). get_or opened j 0) (sym q) ∙ by o m z in
      ap (λ (j : ℕ). get_or cells j 0) s ∙ (old.started o m).1.cell

  pub paired_next : Paired ops n kinds cells values starts → (e : Entry) → InRange e → fault_after st e ≡ None
      → Paired (note n e ops) (n + 1) (set kinds n (note_row cells opened n e).kind) (set cells n (note_row cells opened n e).cell.0)
      (set values n (note_row cells opened n e).value)
      (set starts n (note_row cells opened n e).start)
  unfolding note fault_after
  paired_next old (ReadAsked client cell) r f =
      let row = note_row cells opened n (ReadAsked client cell) in
      paired_asks kinds cells values starts n ops long few old client.0 cell.0 false (pos 0) row.kind row.value refl (λ t. true_false t refl)
  paired_next old (WriteAsked client cell v) r f =
      let row = note_row cells opened n (WriteAsked client cell v) in
      paired_asks kinds cells values starts n ops long few old client.0 cell.0 true v row.kind row.value refl (λ t. refl)
  paired_next old (Told client v) r f =
      let row = note_row cells opened n (Told client v) in
      let h : has st client.0 ≡ 1 = eqb-true _ 1 (no_fault (eqb (has st client.0) 1) _ f) in
      let w = tied.found client.0 (λ z. omega arith) in
      let q = w.1.1.0 in
      let z = w.1.1.1 in
      let read : w.0.write ≡ false = kind_read w.0.write (sym (tied.kind w.0 w.1.0 z) ∙ (ap (λ (j : ℕ). has st j) q ∙ h)) in
      paired_ends kinds cells values starts n ops long few old client.0 (λ u. v) w.0 w.1.0 q z
      (λ y m c o. tied.one y w.0 m w.1.0 (c ∙ sym q) o z)
      row.kind row.cell.0 row.value row.start
      (rw read) (cell_found old w.0 w.1.0 client.0 q z) (ap (λ (j : ℕ). get_or opened j 0) (sym q) ∙ by w.0 w.1.0 z)
      (λ t. true_false t read) (λ t. refl)
  paired_next old (Done client) r f =
      let row = note_row cells opened n (Done client) in
      let h : has st client.0 ≡ 2 = eqb-true _ 2 (no_fault (eqb (has st client.0) 2) _ f) in
      let w = tied.found client.0 (λ z. omega arith) in
      let q = w.1.1.0 in
      let z = w.1.1.1 in
      let write : w.0.write ≡ true = kind_write w.0.write (sym (tied.kind w.0 w.1.0 z) ∙ (ap (λ (j : ℕ). has st j) q ∙ h)) in
      paired_ends kinds cells values starts n ops long few old client.0 (λ u. u) w.0 w.1.0 q z
      (λ y m c o. tied.one y w.0 m w.1.0 (c ∙ sym q) o z)
      row.kind row.cell.0 row.value row.start
      (rw write) (cell_found old w.0 w.1.0 client.0 q z) (ap (λ (j : ℕ). get_or opened j 0) (sym q) ∙ by w.0 w.1.0 z)
      (λ t. refl) (λ t. true_false write t)

  open_asks : length opened ≡ client_limit → (k c : ℕ) (w : Bool) (v : ℤ) → k ≤ last_client → has st k ≡ 0 → OpenAt (ops ++ (asked n k c w v n ∷ [])) (set opened k n)
  open_asks eight k c w v l free x m o =
      ⊎_elim (λ r. get_or-set_other opened k x.client n 0 (none_open tied k free x r o) ∙ by x r o)
      (λ e. rw e (get_or-set_same opened k n 0 (omega arith))) (in_next ops m)

  -- what is still open is another client's, whose start stays
  open_ends : (k : ℕ) (v : ℤ → ℤ) (start : ℕ) → OpenAt (map (ending n k v) ops) (set opened k start)
  open_ends k v start x m o = let b = still_open n k v ops x m o in get_or-set_other opened k x.client start 0 b.1 ∙ by x b.0 o

  pub open_next : length opened ≡ client_limit → (e : Entry) → InRange e → fault_after st e ≡ None
      → OpenAt (note n e ops) (set opened (note_row cells opened n e).client.0 (note_row cells opened n e).start)
  unfolding note
  open_next eight (ReadAsked client cell) r f = let a = may_step st (ReadAsked client cell) r f in open_asks eight client.0 cell.0 false (pos 0) a.0 a.2
  open_next eight (WriteAsked client cell v) r f = let a = may_step st (WriteAsked client cell v) r f in open_asks eight client.0 cell.0 true v a.0 a.2
  open_next eight (Told client v) r f = open_ends client.0 (λ u. v) (get_or opened client.0 0)
  open_next eight (Done client) r f = open_ends client.0 (λ u. u) (get_or opened client.0 0)
