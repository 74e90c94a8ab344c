-- How a pass over the entries goes on, place by place: greatest and least values by key, and the marks of cells without a source.
use Rattle.std.specs.Prelude.{ℕ, ◌+◌, ◌≤◌, ◌<◌, min, max, ◌≡◌, ◌⊎◌, List, length, get_or, set}
use Rattle.std.proofs.Common.{sym, ap, ◌∙◌, subst, inl, inr, ⊎_elim, arith, get_or-set_same, get_or-set_other}
use Rattle.std.proofs.Math.Decide.{dec_lt, ℕ_discrete}
use Rattle.clusters.specs.laws.Arrays.{Arrays, cell_at, TellsAt, Source, Unsourced, Greatest, Least, Sources}

-- ---- the greatest by key

module _ {Key : ℕ → Type 0} {R : ℕ → ℕ → Type 0} {f base : ℕ → ℕ} where
  pub greatest_start : {xs : List ℕ} → ((k : ℕ) → Key k → get_or xs k 0 ≡ base k) → Greatest Key R f base 0 xs
  greatest_start h = record { above = λ k m. omega (arith, h k m); high = λ k q m l. absurd (omega arith); at = λ k m. inl (h k m) }

  -- place p stands in R to no key
  pub greatest_skip : {p : ℕ} {xs : List ℕ} → Greatest Key R f base p xs → ((k : ℕ) → Key k → R k p → ⊥) → Greatest Key R f base (p + 1) xs
  greatest_skip {p} {xs} g none =
      record {
        above = g.above;
        high = λ k q m l r. elim (ℕ_discrete q p) [
          | yes e ↦ absurd (none k m (subst (R k) e r))
          | no d ↦ g.high k q m (omega (arith, d)) r
        ];
        at = λ k m. ⊎_elim inl (λ (q, l, r, e). inr (q, omega arith, r, e)) (g.at k m);
      }

  -- place p stands in R to one key
  pub greatest_step : {p : ℕ} {xs : List ℕ} → Greatest Key R f base p xs → (k₀ v : ℕ) → k₀ < length xs → R k₀ p → ((k : ℕ) → Key k → R k p → k ≡ k₀)
      → v ≡ max (get_or xs k₀ 0) (f p) → Greatest Key R f base (p + 1) (set xs k₀ v)
  greatest_step {p} {xs} g k₀ v long here one is =
      record {
        above = λ k m. omega (arith, g.above k m, more k);
        high = λ k q m l r. elim (ℕ_discrete q p) [
          | yes e ↦ omega (arith, same, ap f e, ap (λ (j : ℕ). get_or (set xs k₀ v) j 0) (one k m (subst (R k) e r)))
          | no d ↦ omega (arith, g.high k q m (omega (arith, d)) r, more k)
        ];
        at = λ k m. elim (ℕ_discrete k k₀) [
          | no d ↦ old k m (get_or-set_other xs k₀ k v 0 d)
          | yes e ↦ elim (dec_lt (get_or xs k₀ 0) (f p)) [
            | yes l ↦ inr (p, omega arith, subst (λ (j : ℕ). R j p) (sym e) here, omega (arith, same, ap (λ (j : ℕ). get_or (set xs k₀ v) j 0) e))
            | no l ↦ old k m (omega (arith, l, same, ap (λ (j : ℕ). get_or (set xs k₀ v) j 0) e, ap (λ (j : ℕ). get_or xs j 0) e))
          ]
        ];
      }
    where
      same : get_or (set xs k₀ v) k₀ 0 ≡ v
      same = get_or-set_same xs k₀ v 0 long

      more : (k : ℕ) → get_or xs k 0 ≤ get_or (set xs k₀ v) k 0
      more k = elim (ℕ_discrete k k₀) [
        | yes e ↦ omega (arith, same, ap (λ (j : ℕ). get_or (set xs k₀ v) j 0) e, ap (λ (j : ℕ). get_or xs j 0) e)
        | no d ↦ omega (arith, get_or-set_other xs k₀ k v 0 d)
      ]

      old : (k : ℕ) → Key k → get_or (set xs k₀ v) k 0 ≡ get_or xs k 0
          → (get_or (set xs k₀ v) k 0 ≡ base k) ⊎ ((q : ℕ) × (q < p + 1) × R k q × (get_or (set xs k₀ v) k 0 ≡ f q))
      old k m s = ⊎_elim (λ e. inl (s ∙ e)) (λ (q, l, r, e). inr (q, omega arith, r, s ∙ e)) (g.at k m)

-- ---- the least by key

module _ {Key : ℕ → Type 0} {R : ℕ → ℕ → Type 0} {top : ℕ} where
  pub least_start : {xs : List ℕ} → ((k : ℕ) → Key k → get_or xs k 0 ≡ top) → Least Key R top 0 xs
  least_start h = record { low = λ k q m l. absurd (omega arith); at = λ k m. inl (h k m) }

  -- the same at every key
  pub least_same : {p : ℕ} {xs : List ℕ} → Least Key R top p xs → (ys : List ℕ) → ((k : ℕ) → Key k → get_or ys k 0 ≡ get_or xs k 0) → Least Key R top p ys
  least_same {p} {xs} g ys e =
      record {
        low = λ k q m l r. omega (arith, g.low k q m l r, e k m);
        at = λ k m. ⊎_elim (λ z. inl (e k m ∙ z)) (λ (q, l, r, z). inr (q, l, r, e k m ∙ z)) (g.at k m);
      }

  pub least_skip : {p : ℕ} {xs : List ℕ} → Least Key R top p xs → ((k : ℕ) → Key k → R k p → ⊥) → Least Key R top (p + 1) xs
  least_skip {p} {xs} g none =
      record {
        low = λ k q m l r. elim (ℕ_discrete q p) [
          | yes e ↦ absurd (none k m (subst (R k) e r))
          | no d ↦ g.low k q m (omega (arith, d)) r
        ];
        at = λ k m. ⊎_elim inl (λ (q, l, r, e). inr (q, omega arith, r, e)) (g.at k m);
      }

  pub least_step : {p : ℕ} {xs : List ℕ} → Least Key R top p xs → (k₀ v : ℕ) → k₀ < length xs → R k₀ p → ((k : ℕ) → Key k → R k p → k ≡ k₀)
      → v ≡ min (get_or xs k₀ 0) p → Least Key R top (p + 1) (set xs k₀ v)
  least_step {p} {xs} g k₀ v long here one is =
      record {
        low = λ k q m l r. elim (ℕ_discrete q p) [
          | yes e ↦ omega (arith, same, ap (λ (j : ℕ). get_or (set xs k₀ v) j 0) (one k m (subst (R k) e r)))
          | no d ↦ omega (arith, g.low k q m (omega (arith, d)) r, less k)
        ];
        at = λ k m. elim (ℕ_discrete k k₀) [
          | no d ↦ old k m (get_or-set_other xs k₀ k v 0 d)
          | yes e ↦ elim (dec_lt p (get_or xs k₀ 0)) [
            | yes l ↦ inr (p, omega arith, subst (λ (j : ℕ). R j p) (sym e) here, omega (arith, same, ap (λ (j : ℕ). get_or (set xs k₀ v) j 0) e))
            | no l ↦ old k m (omega (arith, l, same, ap (λ (j : ℕ). get_or (set xs k₀ v) j 0) e, ap (λ (j : ℕ). get_or xs j 0) e))
          ]
        ];
      }
    where
      same : get_or (set xs k₀ v) k₀ 0 ≡ v
      same = get_or-set_same xs k₀ v 0 long

      less : (k : ℕ) → get_or (set xs k₀ v) k 0 ≤ get_or xs k 0
      less k = elim (ℕ_discrete k k₀) [
        | yes e ↦ omega (arith, same, ap (λ (j : ℕ). get_or (set xs k₀ v) j 0) e, ap (λ (j : ℕ). get_or xs j 0) e)
        | no d ↦ omega (arith, get_or-set_other xs k₀ k v 0 d)
      ]

      old : (k : ℕ) → Key k → get_or (set xs k₀ v) k 0 ≡ get_or xs k 0
          → (get_or (set xs k₀ v) k 0 ≡ top) ⊎ ((q : ℕ) × (q < p + 1) × R k q × (get_or (set xs k₀ v) k 0 ≡ q))
      old k m s = ⊎_elim (λ e. inl (s ∙ e)) (λ (q, l, r, e). inr (q, omega arith, r, s ∙ e)) (g.at k m)

-- ---- cells without a source

module _ {a : Arrays} {n : ℕ} where
  pub sources_start : {bad : List ℕ} → ((c : ℕ) → get_or bad c 0 ≡ 0) → Sources a n 0 bad
  sources_start h = record { sourced = λ q l. absurd (omega arith); unsourced = λ c b m. absurd (m (h c)) }

  -- the entry at p tells nothing
  pub sources_skip : {p : ℕ} {bad : List ℕ} → Sources a n p bad → ¬ TellsAt a p → Sources a n (p + 1) bad
  sources_skip {p} {bad} s none =
      record {
        sourced = λ q l t b. elim (ℕ_discrete q p) [
          | yes e ↦ absurd (none (subst (TellsAt a) e t))
          | no d ↦ s.sourced q (omega (arith, d)) t b
        ];
        unsourced = λ c b m. let (q, l, e, u) = s.unsourced c b m in (q, omega arith, e, u);
      }

  -- it tells what w asks, which starts before
  pub sources_found : {p : ℕ} {bad : List ℕ} → Sources a n p bad → (w : ℕ) → Source a n p w → Sources a n (p + 1) bad
  sources_found {p} {bad} s w f =
      record {
        sourced = λ q l t b. elim (ℕ_discrete q p) [
          | yes e ↦ (w, subst (λ (j : ℕ). Source a n j w) (sym e) f)
          | no d ↦ s.sourced q (omega (arith, d)) t b
        ];
        unsourced = λ c b m. let (q, l, e, u) = s.unsourced c b m in (q, omega arith, e, u);
      }

  -- it has no source: its cell is marked
  pub sources_mark : {p : ℕ} {bad : List ℕ} → Sources a n p bad → cell_at a p < length bad → Unsourced a n p → Sources a n (p + 1) (set bad (cell_at a p) 1)
  sources_mark {p} {bad} s long u =
      record {
        sourced = λ q l t b. elim (ℕ_discrete (cell_at a q) (cell_at a p)) [
          | yes e ↦ absurd (omega (arith, b, same, ap (λ (j : ℕ). get_or (set bad (cell_at a p) 1) j 0) e))
          | no d ↦ elim (ℕ_discrete q p) [
            | yes e ↦ absurd (d (ap (cell_at a) e))
            | no e ↦ s.sourced q (omega (arith, e)) t (sym (get_or-set_other bad (cell_at a p) (cell_at a q) 1 0 d) ∙ b)
          ]
        ];
        unsourced = λ c b m. elim (ℕ_discrete c (cell_at a p)) [
          | yes e ↦ (p, omega arith, sym e, u)
          | no d ↦ (let (q, l, e, w) = s.unsourced c b (λ z. m (get_or-set_other bad (cell_at a p) c 1 0 d ∙ z)) in (q, omega arith, e, w))
        ];
      }
    where
      same : get_or (set bad (cell_at a p) 1) (cell_at a p) 0 ≡ 1
      same = get_or-set_same bad (cell_at a p) 1 0 long
