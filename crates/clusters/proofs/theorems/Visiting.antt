-- What the judge's stores make of the sweep, place by place.
use Rattle.std.specs.Prelude.{ℕ, ◌+◌, ◌≤◌, ◌<◌, max, ◌≡◌, refl, Bool, cond, List, eqb, get_or, set, replicate}
use Rattle.std.proofs.Common.{ap, ◌∙◌, subst, arith, eq-eqb, ne_eqb}
use Rattle.std.proofs.Math.Decide.{ℕ_discrete}
use Rattle.std.proofs.lemmas.List.{length-replicate, get_or-replicate}
use Rattle.record.specs.Record.{entry_limit}
use Rattle.record.specs.Entry.{cell_limit}
use Rattle.clusters.specs.laws.Arrays.{place_count, far, Arrays, kind_at, cell_at, place_of, Scattering, Scattered, mark_of, Sweepable, Visited}
use Rattle.clusters.specs.laws.Placing.{scatter_start, scatter_skip, scatter_beyond, scatter_step}
use Rattle.clusters.proofs.theorems.Sweeping.{sweep_none, sweep_step}

-- ---- scattering

pub scattered_none : (a : Arrays) (n : ℕ) (least most : List ℕ) → Scattered a n least most 0 (replicate place_count far)
scattered_none a n least most = scatter_start (length-replicate {A = ℕ} place_count far) (λ q b. get_or-replicate place_count q far 0 (omega arith))

module _ (a : Arrays) (n : ℕ) (least most : List ℕ) (p : ℕ) (at : List ℕ) (own : Scattering a n least most) (s : Scattered a n least most p at) where
  -- a write to its place, another entry beyond all places
  pub scatter_on : (i v : ℕ) → p < n → i ≡ cond (eqb (kind_at a p) 1) (place_of least most p) entry_limit → v ≡ p → Scattered a n least most (p + 1) (set at i v)
  scatter_on i v b e f = elim (ℕ_discrete (kind_at a p) 1) [
    | yes k ↦ rw (e ∙ ap (λ (c : Bool). cond c (place_of least most p) entry_limit) (eq-eqb (kind_at a p) 1 k), f) (scatter_step own.own own.fit s (b, k))
    | no k ↦ rw (e ∙ ap (λ (c : Bool). cond c (place_of least most p) entry_limit) (ne_eqb (kind_at a p) 1 k)) (scatter_skip (scatter_beyond own.own own.fit entry_limit v (omega arith) s) k)
  ]

  pub scatter_end : p ≤ n → n ≤ p → Scattered a n least most n at
  scatter_end l m = let e : p ≡ n = omega arith in subst (λ (q : ℕ). Scattered a n least most q at) e s

  pub scatter_inside : (i : ℕ) → p < n → i ≡ cond (eqb (kind_at a p) 1) (place_of least most p) entry_limit → i < place_count
  scatter_inside i b e = elim (ℕ_discrete (kind_at a p) 1) [
    | yes k ↦ omega (arith, e ∙ ap (λ (c : Bool). cond c (place_of least most p) entry_limit) (eq-eqb (kind_at a p) 1 k), own.own.inside p (b, k), own.fit.few)
    | no k ↦ omega (arith, e ∙ ap (λ (c : Bool). cond c (place_of least most p) entry_limit) (ne_eqb (kind_at a p) 1 k))
  ]

-- ---- the sweep

-- a write's places
pub visit_small : (a : Arrays) (n : ℕ) (least most at : List ℕ) → Sweepable a n least most at → (w : ℕ) → w < n → (w < entry_limit) × (cell_at a w < cell_limit)
visit_small a n least most at s w b = (omega (arith, b, s.fit.few), s.fit.cell w b)

module _ (a : Arrays) (n : ℕ) (least most at : List ℕ) (s : Sweepable a n least most at) (p : ℕ) (reach bad : List ℕ) where
  pub visit_none : n ≤ get_or at p 0 → Visited a n least most p reach bad reach bad
  visit_none none zero was t = sweep_none a n least most zero was at s.fit s.scattered p reach bad t none

  module _ (w : ℕ) (is : w ≡ get_or at p 0) (b : w < n) where
    pub visit_on : (reach' bad' : List ℕ) → p < n → reach' ≡ set reach (cell_at a w) (max (get_or reach (cell_at a w) 0) (get_or most w 0))
        → bad' ≡ set bad (cell_at a w) (mark_of (get_or least w 0) (get_or reach (cell_at a w) 0) (get_or bad (cell_at a w) 0))
        → Visited a n least most p reach bad reach' bad'
    visit_on reach' bad' l e f zero was t = rw (e, f) (sweep_step a n least most zero was at s.fit s.scattered p reach bad t
        w (cell_at a w) (get_or reach (cell_at a w) 0) (max (get_or reach (cell_at a w) 0) (get_or most w 0)) (mark_of (get_or least w 0) (get_or reach (cell_at a w) 0) (get_or bad (cell_at a w) 0))
        l is b refl refl refl refl)
