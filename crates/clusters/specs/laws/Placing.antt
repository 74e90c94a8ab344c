-- Clusters have places of their own: each is an end or a start of an operation of the cluster. And how they are scattered by place.
use Rattle.std.specs.Prelude.{ℕ, ◌+◌, ◌≤◌, ◌<◌, ◌≡◌, ◌⊎◌, List, length, get_or, set}
use Rattle.std.proofs.Common.{sym, ap, ◌∙◌, subst, inl, inr, ⊎_elim, arith, length-set, get_or-set_same, get_or-set_other}
use Rattle.std.proofs.Math.Decide.{dec_lt, ℕ_discrete}
use Rattle.record.specs.Record.{entry_limit}
use Rattle.clusters.specs.laws.Arrays.{place_count, Arrays, kind_at, start_at, Fit, Fresh, IsWrite, Asked, ReadOf, Joins, Greatest, Least, far, place_of, Placed, Scattered}

module _ (a : Arrays) (n : ℕ) (fresh : Fresh a n) where
  -- an earlier write of the same is none
  not_before : (w x p : ℕ) → IsWrite a n x → Asked a w p → Asked a x p → w < x → ⊥
  not_before w x p i s t l =
      fresh x i.0 (record { write = i.1; again = inr (w, (l, record { write = s.write; cell = s.cell ∙ sym t.cell; value = s.value ∙ sym t.value })) })

  -- what is told is asked by one write
  pub one_asks : (w x p : ℕ) → IsWrite a n w → IsWrite a n x → Asked a w p → Asked a x p → w ≡ x
  one_asks w x p i j s t = elim (dec_lt w x) [
    | yes l ↦ absurd (not_before w x p j s t l)
    | no l ↦ elim (dec_lt x w) [ yes m ↦ absurd (not_before x w p i t s m) | no m ↦ omega (arith, l, m) ]
  ]

  -- an end is of one cluster
  pub one_joins : (w x p : ℕ) → IsWrite a n w → IsWrite a n x → Joins a w p → Joins a x p → w ≡ x
  one_joins w x p i j (inl s) (inl t) = sym s.1 ∙ t.1
  one_joins w x p i j (inl s) (inr t) = absurd (omega (arith, s.0, t.0))
  one_joins w x p i j (inr s) (inl t) = absurd (omega (arith, s.0, t.0))
  one_joins w x p i j (inr s) (inr t) = one_asks w x p i j s.1 t.1

module _ {a : Arrays} {n : ℕ} {least most : List ℕ} (fit : Fit a n) (fresh : Fresh a n)
    (lows : Least (IsWrite a n) (Joins a) far n least) (highs : Greatest (IsWrite a n) (ReadOf a) (start_at a) (λ w. w) n most) where
  most_below : (w : ℕ) → IsWrite a n w → get_or most w 0 < n
  most_below w i = ⊎_elim (λ e. omega (arith, e, i.0)) (λ (q, l, r, e). omega (arith, e, l, fit.back q l)) (highs.at w i)

  -- a cluster's place is an end, its own start, or the start of a read
  abbrev Stands : ℕ → Type 0
  Stands w =
      ((q : ℕ) × (q < n) × Joins a w q × (place_of least most w ≡ q))
      ⊎ ((place_of least most w ≡ w) ⊎ ((q : ℕ) × (q < n) × ReadOf a w q × (place_of least most w ≡ start_at a q)))

  stands : (w : ℕ) → IsWrite a n w → Stands w
  stands w i = elim (dec_lt (get_or most w 0) (get_or least w 0)) [
    | yes l ↦ ⊎_elim (λ e. inr (inl (omega arith))) (λ (q, m, r, e). inr (inr (q, m, r, omega arith))) (highs.at w i)
    | no l ↦ ⊎_elim (λ e. absurd (omega (arith, l, e, most_below w i, fit.few))) (λ (q, m, r, e). inl (q, m, r, omega (arith, l))) (lows.at w i)
  ]

  end_kind : (w q : ℕ) → Joins a w q → 2 ≤ kind_at a q
  end_kind w q (inl s) = omega (arith, s.0)
  end_kind w q (inr s) = omega (arith, s.0)

  stands_apart : (w x : ℕ) → IsWrite a n w → IsWrite a n x → place_of least most w ≡ place_of least most x → Stands w → Stands x → w ≡ x
  stands_apart w x i j e (inl (q, l, r, u)) (inl (p, m, s, v)) = one_joins a n fresh w x q i j r (subst (Joins a x) (sym v ∙ (sym e ∙ u)) s)
  stands_apart w x i j e (inl (q, l, r, u)) (inr (inl v)) = absurd (omega (arith, end_kind w q r, j.1, ap (kind_at a) (sym u ∙ (e ∙ v))))
  stands_apart w x i j e (inl (q, l, r, u)) (inr (inr (p, m, s, v))) = absurd (omega (arith, end_kind w q r, fit.read p m s.0, ap (kind_at a) (sym u ∙ (e ∙ v))))
  stands_apart w x i j e (inr (inl u)) (inl (p, m, s, v)) = absurd (omega (arith, end_kind x p s, i.1, ap (kind_at a) (sym u ∙ (e ∙ v))))
  stands_apart w x i j e (inr (inl u)) (inr (inl v)) = sym u ∙ (e ∙ v)
  stands_apart w x i j e (inr (inl u)) (inr (inr (p, m, s, v))) = absurd (omega (arith, i.1, fit.read p m s.0, ap (kind_at a) (sym u ∙ (e ∙ v))))
  stands_apart w x i j e (inr (inr (q, l, r, u))) (inl (p, m, s, v)) = absurd (omega (arith, end_kind x p s, fit.read q l r.0, ap (kind_at a) (sym u ∙ (e ∙ v))))
  stands_apart w x i j e (inr (inr (q, l, r, u))) (inr (inl v)) = absurd (omega (arith, j.1, fit.read q l r.0, ap (kind_at a) (sym u ∙ (e ∙ v))))
  stands_apart w x i j e (inr (inr (q, l, r, u))) (inr (inr (p, m, s, v))) =
      one_asks a n fresh w x q i j r.1 (subst (Asked a x) (fit.one p q m l s.0 r.0 (sym v ∙ (sym e ∙ u))) s.1)

  pub placed : Placed a n least most
  placed =
      record {
        inside = λ w i. omega (arith, most_below w i);
        apart = λ w x i j e. stands_apart w x i j e (stands w i) (stands x j);
      }

-- ---- scattering

module _ {a : Arrays} {n : ℕ} {least most : List ℕ} where
  pub scatter_start : {at : List ℕ} → length at ≡ place_count → ((q : ℕ) → q < entry_limit → get_or at q 0 ≡ far) → Scattered a n least most 0 at
  scatter_start l h = record { long = l; here = λ w i b. absurd (omega arith); only = λ q b. inl (h q b) }

  -- entry p asks for no write
  pub scatter_skip : {p : ℕ} {at : List ℕ} → Scattered a n least most p at → ¬ (kind_at a p ≡ 1) → Scattered a n least most (p + 1) at
  scatter_skip {p} {at} s none =
      record {
        long = s.long;
        here = λ w i b. elim (ℕ_discrete w p) [
          | yes e ↦ absurd (none (ap (kind_at a) (sym e) ∙ i.1))
          | no d ↦ s.here w i (omega (arith, d))
        ];
        only = λ q b. ⊎_elim inl (λ (i, l, e). inr (i, omega arith, e)) (s.only q b);
      }

  -- and what is put beyond all places changes nothing
  pub scatter_beyond : {p : ℕ} {at : List ℕ} → Placed a n least most → Fit a n → (i v : ℕ) → entry_limit ≤ i → Scattered a n least most p at
      → Scattered a n least most p (set at i v)
  scatter_beyond {p} {at} own fit i v b s =
      record {
        long = length-set at i v ∙ s.long;
        here = λ w j l. get_or-set_other at i (place_of least most w) v 0 (λ e. omega (arith, e, own.inside w j, fit.few)) ∙ s.here w j l;
        only = λ q l. subst (λ (x : ℕ). (x ≡ far) ⊎ (IsWrite a n x × (x < p) × (place_of least most x ≡ q))) (sym (get_or-set_other at i q v 0 (λ e. omega (arith, e)))) (s.only q l);
      }

  -- it does: it is put at its place
  pub scatter_step : {p : ℕ} {at : List ℕ} → Placed a n least most → Fit a n → Scattered a n least most p at → IsWrite a n p
      → Scattered a n least most (p + 1) (set at (place_of least most p) p)
  scatter_step {p} {at} own fit s i =
      record {
        long = length-set at (place_of least most p) p ∙ s.long;
        here = λ w j b. elim (ℕ_discrete w p) [
          | yes e ↦ (ap (λ (x : ℕ). get_or (set at (place_of least most p) p) (place_of least most x) 0) e ∙ (same ∙ sym e))
          | no d ↦ (get_or-set_other at (place_of least most p) (place_of least most w) p 0 (λ f. d (own.apart w p j i f)) ∙ s.here w j (omega (arith, d)))
        ];
        only = λ q b. elim (ℕ_discrete q (place_of least most p)) [
          | yes e ↦ inr (found q (ap (λ (x : ℕ). get_or (set at (place_of least most p) p) x 0) e ∙ same) e)
          | no d ↦ other q b (get_or-set_other at (place_of least most p) q p 0 d)
        ];
      }
    where
      same : get_or (set at (place_of least most p) p) (place_of least most p) 0 ≡ p
      same = get_or-set_same at (place_of least most p) p 0 (omega (arith, own.inside p i, fit.few, s.long))

      found : (q : ℕ) → get_or (set at (place_of least most p) p) q 0 ≡ p → q ≡ place_of least most p
          → IsWrite a n (get_or (set at (place_of least most p) p) q 0) × (get_or (set at (place_of least most p) p) q 0 < p + 1) ×
          (place_of least most (get_or (set at (place_of least most p) p) q 0) ≡ q)
      found q f e = (subst (IsWrite a n) (sym f) i, omega (arith, f), ap (place_of least most) f ∙ sym e)

      other : (q : ℕ) → q < entry_limit → get_or (set at (place_of least most p) p) q 0 ≡ get_or at q 0
          → (get_or (set at (place_of least most p) p) q 0 ≡ far) ⊎
          (IsWrite a n (get_or (set at (place_of least most p) p) q 0) × (get_or (set at (place_of least most p) p) q 0 < p + 1) ×
          (place_of least most (get_or (set at (place_of least most p) p) q 0) ≡ q))
      other q b f = ⊎_elim (λ e. inl (f ∙ e))
          (λ (j, l, e). inr (subst (IsWrite a n) (sym f) j, omega (arith, f, l), ap (place_of least most) f ∙ e)) (s.only q b)
