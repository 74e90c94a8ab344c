-- A cell's operations are lawful exactly when the judge doesn't mark it: its passes compute what the cluster rule asks (crate law, Checked).
use Rattle.std.specs.Prelude.{ℕ, ◌≤◌, ◌<◌, ◌≡◌, refl, ◌≢◌, ◌⊎◌, ◌↔◌, Bool, true, false, cond, List, T, pos, get_or}
use Rattle.std.proofs.Common.{sym, ap, ◌∙◌, subst, inl, inr, ⊎_elim, true≢false, arith}
use Rattle.std.proofs.Math.Decide.{dec_lt}
use Rattle.record.specs.Entry.{cell_limit}
use Rattle.number.specs.Value.{alternating_of}
use Rattle.law.specs.Operation.{Op}
use Rattle.law.specs.Order.{In, Lawful}
use Rattle.law.specs.Part.{of_cell}
use Rattle.law.specs.laws.Lists.{of_cell_in, of_cell_of}
use Rattle.law.specs.Cluster.{Distinct, Member, Sourced}
use Rattle.law.proofs.theorems.ClusterTheorem.{rule}
use Rattle.law.specs.laws.Checked.{Write, ZeroRead, Sums, Checked}
use Rattle.law.proofs.theorems.Checked.{checked}
use Rattle.clusters.specs.laws.Arrays.{Arrays, cell_at, value_at, start_at, Fresh, IsWrite, Asked, Joins, ReadOf, ZeroOf, Unsourced, far, Tally, WriteOf, Crossed, Swept}
use Rattle.clusters.specs.laws.Bridge.{Holds, EndedBy, alternating_one, alternating_zero, write_entry, cell_start, stop_below, kind_stop, read_stop, cell_stop, value_stop}
use Rattle.clusters.specs.laws.Bridge.{start_stop, start_number, start_before, same_number, entry_write, entry_read, entry_done, asked_by, asked_value, asked_cell}
use Rattle.clusters.specs.laws.Bridge.{distinct_cell, once_cell}

module _ (a : Arrays) (n : ℕ) (ops : List Op) (h : Holds a n ops) (fresh : Fresh a n) (least most zero was : List ℕ) (t : Tally a n n least most zero was)
    (c : ℕ) (small : c < cell_limit) where
  -- the operations of the cell
  abbrev part : List Op
  part = of_cell c ops

  inside : (x : Op) → In x part → In x ops
  inside x m = (of_cell_of c ops m).0

  of_cell_lem : (x : Op) → In x part → x.cell ≡ c
  of_cell_lem x m = (of_cell_of c ops m).1

  differ : Distinct part
  differ = distinct_cell a n ops h fresh c

  entry : (w : Op) → Write part w → IsWrite a n w.number
  entry w m = write_entry a n ops h w (inside w m.0) m.1

  -- ---- what the passes have found, as sums of clusters

  joins : (w x : Op) → Write part w → In x part → T x.over → x.value ≡ w.value → Joins a w.number x.stop
  joins w x m k o e = go x.write refl
    where
      go : (b : Bool) → x.write ≡ b → Joins a w.number x.stop
      go true i = inl (
        kind_stop a n ops h x (inside x k) o ∙ ap (λ (b : Bool). cond b 3 2) i,
        start_stop a n ops h x (inside x k) o ∙ ap (λ (y : Op). y.number) (differ.apart k m.0 i m.1 e),
      )
      go false i = inr (
        read_stop a n ops h x (inside x k) o i,
        asked_by a n ops h w x (inside w m.0) (inside x k) m.1 i o (of_cell_lem w m.0 ∙ sym (of_cell_lem x k)) (sym e),
      )

  -- the read of the cluster of w that ends at q
  abbrev ReadIn : Op → ℕ → Type 0
  ReadIn w q = (x : Op) × In x part × (x.write ≡ false) × T x.over × (x.value ≡ w.value) × (x.stop ≡ q)

  read_in : (w : Op) → Write part w → (q : ℕ) → q < n → ReadOf a w.number q → ReadIn w q
  read_in w m q l r = go (entry_read a n ops h q l r.0)
    where
      go : ((x : Op) × EndedBy ops false q x) → ReadIn w q
      go (x, (k, i, o, e)) =
          let s : Asked a w.number x.stop = subst (Asked a w.number) (sym e) r.1 in (
            x,
            of_cell_in c ops k (sym (asked_cell a n ops h w x (inside w m.0) k o s) ∙ of_cell_lem w m.0),
            i,
            o,
            sym (asked_value a n ops h w x (inside w m.0) k m.1 i o s),
            e,
          )

  stops : (w : Op) → Write part w → (q : ℕ) → q < n → Joins a w.number q
      → (x : Op) × In x part × T x.over × (x.value ≡ w.value) × (x.stop ≡ q)
  stops w m q l (inl s) = go (entry_done a n ops h q l s.0)
    where
      go : ((x : Op) × EndedBy ops true q x) → (x : Op) × In x part × T x.over × (x.value ≡ w.value) × (x.stop ≡ q)
      go (x, (k, i, o, e)) =
          let d : x ≡ w = same_number a n ops h x w k (inside w m.0) (sym (start_stop a n ops h x k o) ∙ (ap (start_at a) e ∙ s.1)) in
          (x, subst (λ (y : Op). In y part) (sym d) m.0, o, ap (λ (y : Op). y.value) d, e)
  stops w m q l (inr s) = let (x, k, i, o, v, e) = read_in w m q l s in (x, k, o, v, e)

  highest : (w x : Op) → Write part w → Member part x → x.value ≡ w.value → x.start ≤ get_or most w.number 0
  highest w x m k e = go x.write refl k.1
    where
      go : (b : Bool) → x.write ≡ b → (x.write ≡ true) ⊎ T x.over → x.start ≤ get_or most w.number 0
      go true i o = omega (
        arith,
        start_number a n ops h x (inside x k.0),
        ap (λ (y : Op). y.number) (differ.apart k.0 m.0 i m.1 e),
        t.highs.above w.number (entry w m),
      )
      go false i (inl o) = absurd (true≢false (sym o ∙ i))
      go false i (inr o) =
          let r : ReadOf a w.number x.stop = (
            read_stop a n ops h x (inside x k.0) o i,
            asked_by a n ops h w x (inside w m.0) (inside x k.0) m.1 i o (of_cell_lem w m.0 ∙ sym (of_cell_lem x k.0)) (sym e),
          ) in
          omega (
            arith,
            start_number a n ops h x (inside x k.0),
            start_stop a n ops h x (inside x k.0) o,
            t.highs.high w.number x.stop (entry w m) (stop_below a n ops h x (inside x k.0) o) r,
          )

  starts : (w : Op) → Write part w → (x : Op) × Member part x × (x.value ≡ w.value) × (x.start ≡ get_or most w.number 0)
  starts w m = ⊎_elim
      (λ e. (w, (m.0, inl m.1), refl, start_number a n ops h w (inside w m.0) ∙ sym e))
      (λ (q, l, r, e). let (x, k, i, o, v, f) = read_in w m q l r in
      (x, (k, inr o), v, start_number a n ops h x (inside x k) ∙ (sym (start_stop a n ops h x (inside x k) o) ∙ (ap (start_at a) f ∙ sym e))))
      (t.highs.at w.number (entry w m))

  zero_at : (r : Op) → ZeroRead part r → ZeroOf a c r.stop
  zero_at r (m, i, o, v) = (
    read_stop a n ops h r (inside r m) o i,
    value_stop a n ops h r (inside r m) o i ∙ (ap alternating_of v ∙ alternating_zero),
    cell_stop a n ops h r (inside r m) o ∙ of_cell_lem r m,
  )

  zero_read : (q : ℕ) → q < n → ZeroOf a c q → get_or zero c 0 ≡ start_at a q → (r : Op) × ZeroRead part r × (r.start ≡ get_or zero c 0)
  zero_read q l (i, v, k) z = go (entry_read a n ops h q l i)
    where
      go : ((x : Op) × EndedBy ops false q x) → (r : Op) × ZeroRead part r × (r.start ≡ get_or zero c 0)
      go (x, (m, j, o, e)) = (
        x,
        (
          of_cell_in c ops m (sym (cell_stop a n ops h x m o) ∙ (ap (cell_at a) e ∙ k)),
          j,
          o,
          alternating_one x.value (pos 0) (sym (value_stop a n ops h x m o j) ∙ (ap (value_at a) e ∙ (v ∙ sym alternating_zero))),
        ),
        start_number a n ops h x m ∙ (sym (start_stop a n ops h x m o) ∙ (ap (start_at a) e ∙ sym z)),
      )

  pub sums : Sums part far (λ w. get_or least w 0) (λ w. get_or most w 0) (get_or zero c 0)
  sums =
      record {
        low = λ {w} {x} m k o e. t.lows.low w.number x.stop (entry w m) (stop_below a n ops h x (inside x k) o) (joins w x m k o e);
        low_at = λ {w} m. ⊎_elim inl (λ (q, l, j, e). let (x, k, o, v, f) = stops w m q l j in inr (x, k, o, v, f ∙ sym e)) (t.lows.at w.number (entry w m));
        high = λ {w} {x} m k e. highest w x m k e;
        high_at = λ {w} m. starts w m;
        none_high = λ {r} z. omega (
          arith,
          start_number a n ops h r (inside r z.0),
          start_stop a n ops h r (inside r z.0) z.2,
          t.zeros.high c r.stop small (stop_below a n ops h r (inside r z.0) z.2) (zero_at r z),
        );
        none_at = ⊎_elim inl (λ (q, l, z, e). inr (zero_read q l z e)) (t.zeros.at c small);
        above = λ {x} m. omega (arith, start_number a n ops h x (inside x m), (h.numbered.timed x (inside x m)).below, h.few);
      }

  -- ---- lawful is checked

  pub cell_checked : Lawful part ↔ Checked part (λ w. get_or least w 0) (λ w. get_or most w 0) (get_or zero c 0)
  cell_checked =
      let once = once_cell a n ops h c in
      let r = rule part c of_cell_lem (λ x m o. let l = start_before a n ops h x (inside x m) o in omega arith) once differ in
      let k = checked part once differ far (λ w. get_or least w 0) (λ w. get_or most w 0) (get_or zero c 0) sums in
      (λ l. k.0 (r.0 l), λ l. r.1 (k.1 l))

  -- a cell that isn't marked has sources
  all_sourced : get_or was c 0 ≡ 0 → Sourced part
  all_sourced z r m i o v = go (t.marks.sourced r.stop (stop_below a n ops h r (inside r m) o)
      (read_stop a n ops h r (inside r m) o i, λ e. v (alternating_one r.value (pos 0) (sym (value_stop a n ops h r (inside r m) o i) ∙ (e ∙ sym alternating_zero))))
      (ap (λ (d : ℕ). get_or was d 0) (cell_stop a n ops h r (inside r m) o ∙ of_cell_lem r m) ∙ z))
    where
      go : ((w : ℕ) × (IsWrite a n w × Asked a w r.stop × (w ≤ r.stop)))
          → (w : Op) × In w part × (w.write ≡ true) × (w.value ≡ r.value) × ¬ (r.stop < w.start)
      go (w, (j, s, l)) =
          let (x, k, b, e) = entry_write a n ops h w j in
          let s' : Asked a x.number r.stop = subst (λ (y : ℕ). Asked a y r.stop) (sym e) s in (
            x,
            of_cell_in c ops k (asked_cell a n ops h x r k (inside r m) o s' ∙ of_cell_lem r m),
            b,
            asked_value a n ops h x r k (inside r m) b i o s',
            λ f. omega (arith, l, e, f, start_number a n ops h x k),
          )

  -- and one that is marked for a read without a source isn't lawful
  not_sourced : (q : ℕ) → q < n → cell_at a q ≡ c → Unsourced a n q → Sourced part → ⊥
  not_sourced q l e u s = go (entry_read a n ops h q l u.0.0)
    where
      go : ((x : Op) × EndedBy ops false q x) → ⊥
      go (x, (m, i, o, f)) =
          let k : In x part = of_cell_in c ops m (sym (cell_stop a n ops h x m o) ∙ (ap (cell_at a) f ∙ e)) in
          let (w, j, b, v, d) = s x k i o (λ z. u.0.1 (ap (value_at a) (sym f) ∙ (value_stop a n ops h x m o i ∙ (ap alternating_of z ∙ alternating_zero)))) in
          let g : Asked a w.number x.stop = asked_by a n ops h w x (inside w j) m b i o (of_cell_lem w j ∙ sym (of_cell_lem x k)) v in
          let y : q < w.number = u.1 w.number (entry w (j, b)) (subst (Asked a w.number) f g) in
          d (omega (arith, f, y, start_number a n ops h w (inside w j)))

  -- ---- what the sweep has found

  write_of : (w : Op) → Write part w → WriteOf a n c w.number
  write_of w m = (entry w m, cell_start a n ops h w (inside w m.0) ∙ of_cell_lem w m.0)

  of_write : (w : ℕ) → WriteOf a n c w → (x : Op) × Write part x × (x.number ≡ w)
  of_write w i =
      let (x, m, b, e) = entry_write a n ops h w i.0 in
      (x, (of_cell_in c ops m (sym (cell_start a n ops h x m) ∙ (ap (cell_at a) e ∙ i.1)), b), e)

  checks : get_or was c 0 ≡ 0 → ¬ Crossed a n least most zero c → Checked part (λ w. get_or least w 0) (λ w. get_or most w 0) (get_or zero c 0)
  checks z clear =
      record {
        sourced = all_sourced z;
        early = λ {w} m. elim (dec_lt (get_or least w.number 0) (get_or zero c 0)) [
          | yes l ↦ absurd (clear (inl (w.number, write_of w m, l)))
          | no l ↦ omega (arith, l)
        ];
        clear = λ {w} {x} m k d p q. clear (inr (w.number, x.number, write_of w m, write_of x k, d, p, q));
      }

  crossed_unchecked : Crossed a n least most zero c → Checked part (λ w. get_or least w 0) (λ w. get_or most w 0) (get_or zero c 0) → ⊥
  crossed_unchecked (inl (w, i, l)) k =
      let (x, m, e) = of_write w i in
      omega (arith, l, k.early m, ap (λ (y : ℕ). get_or least y 0) e)
  crossed_unchecked (inr (w, x, i, j, d, p, q)) k =
      let (u, m, e) = of_write w i in
      let (v, o, f) = of_write x j in
      k.clear m o (λ g. d (sym e ∙ (g ∙ f)))
      (omega (arith, p, ap (λ (y : ℕ). get_or least y 0) e, ap (λ (y : ℕ). get_or most y 0) f))
      (omega (arith, q, ap (λ (y : ℕ). get_or least y 0) f, ap (λ (y : ℕ). get_or most y 0) e))

  module _ (bad : List ℕ) (s : Swept a n least most zero was bad) where
    -- a cell without a mark is lawful
    pub unmarked_lawful : get_or bad c 0 ≡ 0 → Lawful part
    unmarked_lawful e = cell_checked.1 (checks (s.kept c e) (s.clear c e))

    -- a marked one isn't
    pub marked_unlawful : get_or bad c 0 ≢ 0 → ¬ Lawful part
    marked_unlawful m l =
        let k = cell_checked.0 l in
        ⊎_elim (λ b. let (q, i, e, u) = t.marks.unsourced c small b in not_sourced q i e u k.sourced) (λ x. crossed_unchecked x k) (s.why c m)
