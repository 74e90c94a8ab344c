-- From arrays to operations: what the arrays' entries say of the operations that they hold.
use Rattle.std.specs.Prelude.{ℕ, ◌≤◌, ◌<◌, ◌≡◌, refl, ◌≢◌, Bool, true, false, cond, List, T, ℤ, pos}
use Rattle.std.proofs.Common.{sym, ap, ◌∙◌, inl, ⊎_elim, arith}
use Rattle.record.specs.Record.{entry_limit}
use Rattle.record.specs.Entry.{cell_limit}
use Rattle.number.specs.Value.{alternating_of, signed_of}
use Rattle.number.specs.laws.ValueLaws.{signed_alternating}
use Rattle.law.specs.Operation.{Op}
use Rattle.law.specs.Order.{In, Pairs}
use Rattle.law.specs.Part.{of_cell}
use Rattle.law.specs.laws.Lists.{pairs_imp, single, of_cell_of, of_cell_pairs}
use Rattle.law.specs.Cluster.{Distinct}
use Rattle.law.specs.laws.Operations.{Numbered}
use Rattle.pairs.specs.Pairs.{Paired}
use Rattle.clusters.specs.laws.Arrays.{Arrays, kind_at, cell_at, value_at, start_at, Fit, Fresh, IsWrite, Asked}
use Rattle.clusters.specs.laws.Placing.{one_asks}

-- each value has a number of its own
pub alternating_one : (u v : ℤ) → alternating_of u ≡ alternating_of v → u ≡ v
alternating_one u v e = sym (signed_alternating u) ∙ (ap signed_of e ∙ signed_alternating v)

pub alternating_zero : alternating_of (pos 0) ≡ 0
unfolding alternating_of
alternating_zero = refl

-- the first n entries of the arrays hold the operations ops
pub record Holds (a : Arrays) (n : ℕ) (ops : List Op) : Type 0 where
  pub few : n ≤ entry_limit
  pub cells : (x : Op) → In x ops → x.cell < cell_limit
  pub numbered : Numbered n ops
  pub paired : Paired ops n a.kinds a.cells a.values a.starts

-- an operation that ends at p, and whether it is a write
abbrev pub EndedBy : List Op → Bool → ℕ → Op → Type 0
EndedBy ops w p x = In x ops × (x.write ≡ w) × T x.over × (x.stop ≡ p)

kind_start : (b : Bool) (k : ℕ) → k ≡ cond b 1 0 → k ≡ 1 → b ≡ true
kind_start true k e f = refl
kind_start false k e f = absurd (omega arith)

start_kind : (b : Bool) (k : ℕ) → k ≡ cond b 1 0 → k ≤ 1
start_kind true k e = omega arith
start_kind false k e = omega arith

kind_end : (b : Bool) (k : ℕ) → k ≡ cond b 3 2 → (k ≡ 2 → b ≡ false) × ((k ≡ 3 → b ≡ true) × (2 ≤ k))
kind_end true k e = (λ f. absurd (omega arith), (λ f. refl, omega arith))
kind_end false k e = (λ f. refl, (λ f. absurd (omega arith), omega arith))

module _ (a : Arrays) (n : ℕ) (ops : List Op) (h : Holds a n ops) where
  -- ---- from operations to entries

  pub write_entry : (x : Op) → In x ops → x.write ≡ true → IsWrite a n x.number
  write_entry x m w = let s = h.paired.started x m in (s.0, s.1.kind ∙ ap (λ (b : Bool). cond b 1 0) w)

  pub cell_start : (x : Op) → In x ops → cell_at a x.number ≡ x.cell
  cell_start x m = (h.paired.started x m).1.cell

  pub value_start : (x : Op) → In x ops → x.write ≡ true → value_at a x.number ≡ alternating_of x.value
  value_start x m = (h.paired.started x m).1.value

  pub stop_below : (x : Op) → In x ops → T x.over → x.stop < n
  stop_below x m t = (h.paired.ended x m t).0

  pub kind_stop : (x : Op) → In x ops → T x.over → kind_at a x.stop ≡ cond x.write 3 2
  kind_stop x m t = (h.paired.ended x m t).1.kind

  pub read_stop : (x : Op) → In x ops → T x.over → x.write ≡ false → kind_at a x.stop ≡ 2
  read_stop x m t w = kind_stop x m t ∙ ap (λ (b : Bool). cond b 3 2) w

  pub cell_stop : (x : Op) → In x ops → T x.over → cell_at a x.stop ≡ x.cell
  cell_stop x m t = (h.paired.ended x m t).1.cell

  pub value_stop : (x : Op) → In x ops → T x.over → x.write ≡ false → value_at a x.stop ≡ alternating_of x.value
  value_stop x m t = (h.paired.ended x m t).1.value

  pub start_stop : (x : Op) → In x ops → T x.over → start_at a x.stop ≡ x.number
  start_stop x m t = (h.paired.ended x m t).1.start

  pub start_number : (x : Op) → In x ops → x.start ≡ x.number
  start_number x m = (h.numbered.timed x m).starts

  pub start_before : (x : Op) → In x ops → T x.over → x.start < x.stop
  start_before x m t = ((h.numbered.timed x m).stops t).0

  pub same_number : (x y : Op) → In x ops → In y ops → x.number ≡ y.number → x ≡ y
  same_number = single (λ (o : Op). o.number) ops h.numbered.rises

  -- ---- from entries to operations

  pub entry_write : (w : ℕ) → IsWrite a n w → (x : Op) × (In x ops) × (x.write ≡ true) × (x.number ≡ w)
  entry_write w i = ⊎_elim
      (λ s. let x = s.0 in (x, s.1.0, kind_start x.write (kind_at a x.number) (h.paired.started x s.1.0).1.kind (ap (kind_at a) s.1.1 ∙ i.1), s.1.1))
      (λ s. let x = s.0 in absurd (let k = (kind_end x.write (kind_at a x.stop) (kind_stop x s.1.0 s.1.1.0)).1.1 in
      omega (arith, k, i.1, ap (kind_at a) s.1.1.1)))
      (h.paired.each w i.0)

  entry_end : (b : Bool) (p : ℕ) → p < n → kind_at a p ≡ cond b 3 2 → (x : Op) × EndedBy ops b p x
  entry_end b p l k = ⊎_elim
      (λ s. let x = s.0 in absurd (let j = start_kind x.write (kind_at a x.number) (h.paired.started x s.1.0).1.kind in
      let g = (kind_end b (kind_at a p) k).1.1 in omega (arith, j, g, ap (kind_at a) s.1.1)))
      (λ s. let x = s.0 in (x, (s.1.0, same b x.write k (sym (ap (kind_at a) s.1.1.1) ∙ kind_stop x s.1.0 s.1.1.0), s.1.1.0, s.1.1.1)))
      (h.paired.each p l)
    where
      same : (b w : Bool) → kind_at a p ≡ cond b 3 2 → kind_at a p ≡ cond w 3 2 → w ≡ b
      same true true e f = refl
      same false false e f = refl
      same true false e f = absurd (omega arith)
      same false true e f = absurd (omega arith)

  pub entry_read : (p : ℕ) → p < n → kind_at a p ≡ 2 → (x : Op) × EndedBy ops false p x
  entry_read p l k = entry_end false p l k

  pub entry_done : (p : ℕ) → p < n → kind_at a p ≡ 3 → (x : Op) × EndedBy ops true p x
  entry_done p l k = entry_end true p l k

  -- a write's number and a read's end, where the write asks what the read tells
  pub asked_by : (w r : Op) → In w ops → In r ops → w.write ≡ true → r.write ≡ false → T r.over → w.cell ≡ r.cell → w.value ≡ r.value
      → Asked a w.number r.stop
  asked_by w r m k i j t c v =
      record {
        write = (write_entry w m i).1;
        cell = cell_start w m ∙ (c ∙ sym (cell_stop r k t));
        value = value_start w m i ∙ (ap alternating_of v ∙ sym (value_stop r k t j));
      }

  -- and back
  pub asked_value : (w r : Op) → In w ops → In r ops → w.write ≡ true → r.write ≡ false → T r.over → Asked a w.number r.stop → w.value ≡ r.value
  asked_value w r m k i j t s = alternating_one w.value r.value (sym (value_start w m i) ∙ (s.value ∙ value_stop r k t j))

  pub asked_cell : (w r : Op) → In w ops → In r ops → T r.over → Asked a w.number r.stop → w.cell ≡ r.cell
  asked_cell w r m k t s = sym (cell_start w m) ∙ (s.cell ∙ cell_stop r k t)

  -- ---- the arrays are fit

  cell_any : (p : ℕ) → p < n → cell_at a p < cell_limit
  cell_any p l = ⊎_elim
      (λ s. omega (arith, h.cells s.0 s.1.0, cell_start s.0 s.1.0, ap (cell_at a) s.1.1))
      (λ s. omega (arith, h.cells s.0 s.1.0, cell_stop s.0 s.1.0 s.1.1.0, ap (cell_at a) s.1.1.1))
      (h.paired.each p l)

  start_any : (p : ℕ) → p < n → start_at a p ≤ p
  start_any p l = ⊎_elim
      (λ s. omega (arith, (h.paired.started s.0 s.1.0).1.start, ap (start_at a) s.1.1, s.1.1))
      (λ s. omega (
        arith,
        start_stop s.0 s.1.0 s.1.1.0,
        ap (start_at a) s.1.1.1,
        s.1.1.1,
        start_number s.0 s.1.0,
        start_before s.0 s.1.0 s.1.1.0,
      ))
      (h.paired.each p l)

  -- the kind of an end's start
  start_of : (b : Bool) (p : ℕ) → ((x : Op) × EndedBy ops b p x) → kind_at a (start_at a p) ≡ cond b 1 0
  start_of b p (x, (m, w, t, e)) =
      ap (kind_at a) (ap (start_at a) (sym e) ∙ start_stop x m t) ∙ ((h.paired.started x m).1.kind ∙ ap (λ (c : Bool). cond c 1 0) w)

  pub fits : Fit a n
  fits =
      record {
        few = h.few;
        cell = cell_any;
        back = start_any;
        read = λ p l k. start_of false p (entry_read p l k);
        one = λ p q l k i j e. once p q e (entry_read p l i) (entry_read q k j);
      }
    where
      once : (p q : ℕ) → start_at a p ≡ start_at a q → ((x : Op) × EndedBy ops false p x) → ((x : Op) × EndedBy ops false q x) → p ≡ q
      once p q e (x, (m, w, t, f)) (y, (k, v, u, g)) =
          sym f ∙ (ap (λ (o : Op). o.stop) (same_number x y m k (sym (start_stop x m t) ∙ (ap (start_at a) f ∙ (e ∙ (sym (ap (start_at a) g) ∙ start_stop y k u))))) ∙ g)

  -- ---- written values differ

  pub distinct_cell : Fresh a n → (c : ℕ) → Distinct (of_cell c ops)
  distinct_cell fresh c =
      record {
        nonzero = λ {x} m w z. let k = (of_cell_of c ops m).0 in
            let i = write_entry x k w in
            fresh x.number i.0 (record { write = i.1; again = inl (value_start x k w ∙ (ap alternating_of z ∙ alternating_zero)) });
        apart = λ {x} {y} m k w v e. let i = of_cell_of c ops m in let j = of_cell_of c ops k in
            same_number x y i.0 j.0 (one_asks a n fresh x.number y.number y.number (write_entry x i.0 w) (write_entry y j.0 v)
            (record {
              write = (write_entry x i.0 w).1;
              cell = cell_start x i.0 ∙ (i.1 ∙ (sym j.1 ∙ sym (cell_start y j.0)));
              value = value_start x i.0 w ∙ (ap alternating_of e ∙ sym (value_start y j.0 v));
            })
            (record { write = (write_entry y j.0 v).1; cell = refl; value = refl }));
      }

  -- each once, in every cell
  pub once_cell : (c : ℕ) → Pairs (λ x y. x.number ≢ y.number) (of_cell c ops)
  once_cell c =
      pairs_imp (λ x y. x.number < y.number) (λ x y. x.number ≢ y.number) (of_cell c ops) (λ x y m k l e. omega arith)
      (of_cell_pairs (λ x y. x.number < y.number) c ops h.numbered.rises)
