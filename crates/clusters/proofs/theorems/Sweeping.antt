-- How the sweep goes on, place by place: a cluster that ends before its cell's reach marks the cell.
use Rattle.std.specs.Prelude.{ℕ, ◌+◌, ◌≤◌, ◌<◌, max, ◌≡◌, refl, ◌≢◌, ◌⊎◌, List, length, get_or, set}
use Rattle.std.proofs.Common.{sym, ap, ◌∙◌, subst, inl, inr, ⊎_elim, arith, length-set, get_or-set_same, get_or-set_other, lt-ltb, le-ltb}
use Rattle.std.proofs.Math.Decide.{dec_lt, ℕ_discrete}
use Rattle.record.specs.Entry.{cell_limit}
use Rattle.clusters.specs.laws.Arrays.{Arrays, cell_at, Fit, IsWrite, place_of, Placed, Scattered, WriteOf, Crossed, mark_of, Sweeping, Swept}

-- a cluster that ends before the reach marks its cell
mark_early : (least reach mark : ℕ) → least < reach → mark_of least reach mark ≡ 1
unfolding mark_of
mark_early least reach mark l = rw (lt-ltb least reach l)

-- one that doesn't leaves the mark as it was
mark_late : (least reach mark : ℕ) → reach ≤ least → mark_of least reach mark ≡ mark
unfolding mark_of
mark_late least reach mark l = rw (le-ltb least reach l)

module _ (a : Arrays) (n : ℕ) (least most zero was : List ℕ) where
  pub sweep_start : length zero ≡ cell_limit → length was ≡ cell_limit → Sweeping a n least most zero was 0 zero was
  sweep_start l m =
      record {
        reach_long = l;
        bad_long = m;
        upper = λ w i b. absurd (omega arith);
        first = λ c. omega arith;
        attained = λ c. inl refl;
        kept = λ c e. e;
        early = λ w i b. absurd (omega arith);
        done = λ w x i j b. absurd (omega arith);
        why = λ c m. inl m;
      }

  module _ (at : List ℕ) (fit : Fit a n) (s : Scattered a n least most n at) (p : ℕ) (reach bad : List ℕ) (t : Sweeping a n least most zero was p reach bad) where
    -- no cluster stands at p
    pub sweep_none : n ≤ get_or at p 0 → Sweeping a n least most zero was (p + 1) reach bad
    sweep_none none =
        record {
          reach_long = t.reach_long;
          bad_long = t.bad_long;
          upper = λ w i b. t.upper w i (past w i b);
          first = t.first;
          attained = λ c. ⊎_elim inl (λ (w, i, l, e). inr (w, i, omega arith, e)) (t.attained c);
          kept = t.kept;
          early = λ w i b. t.early w i (past w i b);
          done = λ w x i j b. t.done w x i j (past w i b);
          why = t.why;
        }
      where
        past : (w : ℕ) → IsWrite a n w → place_of least most w < p + 1 → place_of least most w < p
        past w i b = elim (ℕ_discrete (place_of least most w) p) [
          | yes e ↦ absurd (omega (arith, i.0, s.here w i i.0, ap (λ (q : ℕ). get_or at q 0) e))
          | no d ↦ omega (arith, d)
        ]

    -- the cluster of w stands at p
    module _ (w c r g v : ℕ) (inside : p < n) (is : w ≡ get_or at p 0) (write : w < n) (cell : c ≡ cell_at a w) (reached : r ≡ get_or reach c 0)
        (raised : g ≡ max r (get_or most w 0)) (marked : v ≡ mark_of (get_or least w 0) r (get_or bad c 0)) where
      stands : IsWrite a n w × (place_of least most w ≡ p)
      stands = ⊎_elim (λ e. absurd (omega (arith, fit.few))) (λ (i, l, e). (subst (IsWrite a n) (sym is) i, ap (place_of least most) is ∙ e))
          (s.only p (omega (arith, fit.few)))

      small : c < cell_limit
      small = omega (arith, fit.cell w write)

      reach_same : get_or (set reach c g) c 0 ≡ g
      reach_same = get_or-set_same reach c g 0 (omega (arith, t.reach_long, small))

      bad_same : get_or (set bad c v) c 0 ≡ v
      bad_same = get_or-set_same bad c v 0 (omega (arith, t.bad_long, small))

      -- nowhere less than before
      more : (d : ℕ) → get_or reach d 0 ≤ get_or (set reach c g) d 0
      more d = elim (ℕ_discrete d c) [
        | yes q ↦ omega (arith, reach_same, ap (λ (y : ℕ). get_or (set reach c g) y 0) q, ap (λ (y : ℕ). get_or reach y 0) q)
        | no q ↦ omega (arith, get_or-set_other reach c d g 0 q)
      ]

      mark_yes : get_or least w 0 < r → v ≡ 1
      mark_yes l = marked ∙ mark_early (get_or least w 0) r (get_or bad c 0) l

      mark_no : r ≤ get_or least w 0 → v ≡ get_or bad c 0
      mark_no l = marked ∙ mark_late (get_or least w 0) r (get_or bad c 0) l

      -- what is not marked: w ends after the reach, and the cell was not marked
      fine : v ≡ 0 → (r ≤ get_or least w 0) × (get_or bad c 0 ≡ 0)
      fine z = elim (dec_lt (get_or least w 0) r) [
        | yes l ↦ absurd (omega (arith, z, mark_yes l))
        | no l ↦ (omega (arith, l), sym (mark_no (omega (arith, l))) ∙ z)
      ]

      clean : (d : ℕ) → get_or (set bad c v) d 0 ≡ 0 → get_or bad d 0 ≡ 0
      clean d e = elim (ℕ_discrete d c) [
        | yes q ↦ (ap (λ (y : ℕ). get_or bad y 0) q ∙ (fine (sym bad_same ∙ (ap (λ (y : ℕ). get_or (set bad c v) y 0) (sym q) ∙ e))).1)
        | no q ↦ (sym (get_or-set_other bad c d v 0 q) ∙ e)
      ]

      ends_late : (d : ℕ) → d ≡ c → get_or (set bad c v) d 0 ≡ 0 → r ≤ get_or least w 0
      ends_late d q e = (fine (sym bad_same ∙ (ap (λ (y : ℕ). get_or (set bad c v) y 0) (sym q) ∙ e))).0

      split : (x : ℕ) → IsWrite a n x → place_of least most x < p + 1 → (x ≡ w) ⊎ (place_of least most x < p)
      split x i b = elim (ℕ_discrete (place_of least most x) p) [
        | yes e ↦ inl (sym (s.here x i i.0) ∙ (ap (λ (y : ℕ). get_or at y 0) e ∙ sym is))
        | no d ↦ inr (omega (arith, d))
      ]

      cell_of : (x : ℕ) → x ≡ w → cell_at a x ≡ c
      cell_of x e = ap (cell_at a) e ∙ sym cell

      -- how the reach came about
      abbrev Reached : ℕ → List ℕ → ℕ → Type 0
      Reached q xs d = (get_or xs d 0 ≡ get_or zero d 0) ⊎ ((x : ℕ) × WriteOf a n d x × (place_of least most x < q) × (get_or xs d 0 ≡ get_or most x 0))

      old : (d : ℕ) → get_or (set reach c g) d 0 ≡ get_or reach d 0 → Reached (p + 1) (set reach c g) d
      old d q = ⊎_elim (λ z. inl (q ∙ z)) (λ (x, i, l, e). inr (x, i, omega arith, q ∙ e)) (t.attained d)

      reaches : (d : ℕ) → Reached (p + 1) (set reach c g) d
      reaches d = elim (ℕ_discrete d c) [
        | no q ↦ old d (get_or-set_other reach c d g 0 q)
        | yes q ↦ elim (dec_lt r (get_or most w 0)) [
          | yes l ↦ inr (w, (stands.0, sym cell ∙ sym q), omega (arith, stands.1), omega (arith, reach_same, ap (λ (y : ℕ). get_or (set reach c g) y 0) q))
          | no l ↦ old d (omega (arith, l, reach_same, ap (λ (y : ℕ). get_or (set reach c g) y 0) q, ap (λ (y : ℕ). get_or reach y 0) q))
        ]
      ]

      -- w ends before its cell's reach: a fault of the cell
      crosses : get_or least w 0 < r → Crossed a n least most zero c
      crosses l = ⊎_elim
          (λ z. inl (w, (stands.0, sym cell), omega (arith, z)))
          (λ (x, i, b, e). inr (w, x, (stands.0, sym cell), i, λ q. omega (arith, b, stands.1, ap (place_of least most) q), omega (arith, e), omega (arith, e, b, stands.1)))
          (t.attained c)

      -- where the cell c has a mark, why
      blame : v ≢ 0 → (get_or was c 0 ≢ 0) ⊎ Crossed a n least most zero c
      blame m = elim (dec_lt (get_or least w 0) r) [
        | yes l ↦ inr (crosses l)
        | no l ↦ t.why c (λ z. m (mark_no (omega (arith, l)) ∙ z))
      ]

      blames : (d : ℕ) → get_or (set bad c v) d 0 ≢ 0 → (get_or was d 0 ≢ 0) ⊎ Crossed a n least most zero d
      blames d m = elim (ℕ_discrete d c) [
        | yes q ↦ subst (λ (y : ℕ). (get_or was y 0 ≢ 0) ⊎ Crossed a n least most zero y) (sym q)
            (blame (λ z. m (ap (λ (y : ℕ). get_or (set bad c v) y 0) q ∙ (bad_same ∙ z))))
        | no q ↦ t.why d (λ z. m (get_or-set_other bad c d v 0 q ∙ z))
      ]

      pub sweep_step : Sweeping a n least most zero was (p + 1) (set reach c g) (set bad c v)
      sweep_step =
          record {
            reach_long = length-set reach c g ∙ t.reach_long;
            bad_long = length-set bad c v ∙ t.bad_long;
            upper = λ x i b. ⊎_elim
                (λ e. omega (arith, reach_same, ap (λ (y : ℕ). get_or (set reach c g) y 0) (cell_of x e), ap (λ (y : ℕ). get_or most y 0) e))
                (λ l. omega (arith, t.upper x i l, more (cell_at a x))) (split x i b);
            first = λ d. omega (arith, t.first d, more d);
            attained = reaches;
            kept = λ d e. t.kept d (clean d e);
            early = λ x i b e. ⊎_elim
                (λ q. omega (arith, t.first c, ends_late (cell_at a x) (cell_of x q) e, ap (λ (y : ℕ). get_or zero y 0) (cell_of x q), ap (λ (y : ℕ). get_or least y 0) q))
                (λ l. t.early x i l (clean (cell_at a x) e)) (split x i b);
            done = λ x y i j b l f e. ⊎_elim
                (λ q. omega (
                  arith,
                  t.upper y j (omega (arith, l, stands.1, ap (place_of least most) q)),
                  ends_late (cell_at a x) (cell_of x q) e,
                  ap (λ (z : ℕ). get_or reach z 0) (sym f ∙ cell_of x q),
                  ap (λ (z : ℕ). get_or least z 0) q,
                ))
                (λ k. t.done x y i j k l f (clean (cell_at a x) e)) (split x i b);
            why = blames;
          }

  -- all places are swept
  pub sweep_end : (p : ℕ) (reach bad : List ℕ) → Placed a n least most → n ≤ p → Sweeping a n least most zero was p reach bad → Swept a n least most zero was bad
  sweep_end p reach bad own far t =
      record { kept = t.kept; clear = clears; why = t.why }
    where
      before : (w : ℕ) → IsWrite a n w → place_of least most w < p
      before w i = omega (arith, own.inside w i)

      clears : (c : ℕ) → get_or bad c 0 ≡ 0 → ¬ Crossed a n least most zero c
      clears c e (inl (w, i, l)) = omega (arith, l, ap (λ (y : ℕ). get_or zero y 0) i.1, t.early w i.0 (before w i.0) (ap (λ (y : ℕ). get_or bad y 0) i.1 ∙ e))
      clears c e (inr (w, x, i, j, d, l, m)) = elim (dec_lt (place_of least most x) (place_of least most w)) [
        | yes k ↦ omega (arith, l, t.done w x i.0 j.0 (before w i.0) k (i.1 ∙ sym j.1) (ap (λ (y : ℕ). get_or bad y 0) i.1 ∙ e))
        | no k ↦ elim (ℕ_discrete (place_of least most w) (place_of least most x)) [
          | yes q ↦ d (own.apart w x i.0 j.0 q)
          | no q ↦ omega (arith, m, t.done x w j.0 i.0 (before x j.0) (omega (arith, k, q)) (j.1 ∙ sym i.1) (ap (λ (y : ℕ). get_or bad y 0) j.1 ∙ e))
        ]
      ]
