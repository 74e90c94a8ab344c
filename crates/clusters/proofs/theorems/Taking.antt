-- What the judge's stores make of the sums, entry by entry.
use Rattle.std.specs.Prelude.{ℕ, ◌+◌, ◌≤◌, ◌<◌, min, max, ◌≡◌, refl, ◌≢◌, List, length, get_or, set, replicate}
use Rattle.std.proofs.Common.{sym, ap, ◌∙◌, subst, inl, inr, ⊎_elim, arith, length-set, get_or-set_same, get_or-set_other, ne_eqb}
use Rattle.std.proofs.Math.Decide.{ℕ_discrete}
use Rattle.std.proofs.lemmas.List.{length-replicate, get_or-replicate}
use Rattle.record.specs.Record.{entry_limit}
use Rattle.record.specs.Entry.{cell_limit}
use Rattle.chains.specs.laws.TableLaws.{zero_at}
use Rattle.clusters.specs.laws.Arrays.{Arrays, kind_at, cell_at, value_at, start_at, IsWrite, Asked, Sources, Tally, Ready, Taking, OwnNumbers, far, stop_of, Scattering}
use Rattle.clusters.specs.laws.Passing.{greatest_start, greatest_skip, greatest_step, least_start, least_same, least_skip, least_step, sources_start, sources_skip}
use Rattle.clusters.specs.laws.Passing.{sources_found, sources_mark}
use Rattle.clusters.specs.laws.Placing.{one_asks, placed}

-- ---- own numbers

pub own_start : (most : List ℕ) → length most ≡ entry_limit → OwnNumbers 0 most
own_start most l = record { long = l; own = λ i b. absurd (omega arith) }

pub own_step : (i v : ℕ) (most : List ℕ) → OwnNumbers i most → i < entry_limit → v ≡ i → OwnNumbers (i + 1) (set most i v)
own_step i v most o b e =
    record {
      long = length-set most i v ∙ o.long;
      own = λ j l. elim (ℕ_discrete j i) [
        | yes q ↦ (ap (λ (k : ℕ). get_or (set most i v) k 0) q ∙ (get_or-set_same most i v 0 (omega (arith, o.long)) ∙ (e ∙ sym q)))
        | no d ↦ (get_or-set_other most i j v 0 d ∙ o.own j (omega (arith, d)))
      ];
    }

pub own_end : (i n : ℕ) (most : List ℕ) → OwnNumbers i most → n ≤ i → OwnNumbers n most
own_end i n most o l = record { long = o.long; own = λ j b. o.own j (omega arith) }

-- ---- before the first entry

pub tally_none_yet : (a : Arrays) (n : ℕ) (most : List ℕ) → n ≤ entry_limit → OwnNumbers n most
    → Tally a n 0 (replicate entry_limit far) most (replicate cell_limit 0) (replicate cell_limit 0)
tally_none_yet a n most few o =
    record {
      least_long = length-replicate {A = ℕ} entry_limit far;
      most_long = o.long;
      zero_long = length-replicate {A = ℕ} cell_limit 0;
      bad_long = length-replicate {A = ℕ} cell_limit 0;
      lows = least_start (λ w i. get_or-replicate entry_limit w far 0 (omega (arith, i.0)));
      highs = greatest_start (λ w i. o.own w i.0);
      zeros = greatest_start (λ c b. zero_at cell_limit c);
      marks = sources_start (zero_at cell_limit);
    }

-- ---- one entry

-- a write that ends at p stops there
stop_done : (kind p : ℕ) → kind ≡ 3 → stop_of kind p ≡ p
unfolding stop_of
stop_done kind p k = rw k

-- an entry that ends no write stops none
stop_none : (kind p : ℕ) → kind ≢ 3 → stop_of kind p ≡ far
unfolding stop_of
stop_none kind p k = rw (ne_eqb kind 3 k)

module _ (a : Arrays) (n p : ℕ) (head next least most zero bad : List ℕ) (t : Taking a n p head next least most zero bad) where
  -- of the places below n
  pub small : p < entry_limit
  small = omega (arith, t.below, t.ready.fit.few)

  pub small_cell : cell_at a p < cell_limit
  small_cell = t.ready.fit.cell p t.below

  pub small_start : start_at a p < entry_limit
  small_start = omega (arith, small, t.ready.fit.back p t.below)

  -- it ends nothing
  pub tally_skip : kind_at a p ≢ 2 → kind_at a p ≢ 3 → Tally a n (p + 1) least most zero bad
  tally_skip k j =
      record {
        least_long = t.tally.least_long;
        most_long = t.tally.most_long;
        zero_long = t.tally.zero_long;
        bad_long = t.tally.bad_long;
        lows = least_skip t.tally.lows (λ w i r. ⊎_elim (λ s. j s.0) (λ s. k s.0) r);
        highs = greatest_skip t.tally.highs (λ w i r. k r.0);
        zeros = greatest_skip t.tally.zeros (λ c b z. k z.0);
        marks = sources_skip t.tally.marks (λ s. k s.0);
      }

  -- it ends a write
  pub tally_done : (least' : List ℕ) → kind_at a p ≡ 3 → least' ≡ set least (start_at a p) (min (get_or least (start_at a p) 0) p) → Tally a n (p + 1) least' most zero bad
  tally_done least' k e = rw e (record {
    least_long = length-set least (start_at a p) (min (get_or least (start_at a p) 0) p) ∙ t.tally.least_long;
    most_long = t.tally.most_long;
    zero_long = t.tally.zero_long;
    bad_long = t.tally.bad_long;
    lows = least_step t.tally.lows (start_at a p) (min (get_or least (start_at a p) 0) p) (omega (arith, small_start, t.tally.least_long)) (inl (k, refl))
        (λ w i r. ⊎_elim (λ s. sym s.1) (λ s. absurd (omega (arith, k, s.0))) r) refl;
    highs = greatest_skip t.tally.highs (λ w i r. omega (arith, k, r.0));
    zeros = greatest_skip t.tally.zeros (λ c b z. omega (arith, k, z.0));
    marks = sources_skip t.tally.marks (λ s. omega (arith, k, s.0));
  })

  -- a stop that isn't there lowers nothing: where the entry ends no write, its start is no write, or is its own and has no later stop yet
  lowered : kind_at a p ≢ 3 → (w : ℕ) → IsWrite a n w → get_or (set least (start_at a p) (min (get_or least (start_at a p) 0) far)) w 0 ≡ get_or least w 0
  lowered k w i = elim (ℕ_discrete w (start_at a p)) [
    | no d ↦ get_or-set_other least (start_at a p) w (min (get_or least (start_at a p) 0) far) 0 d
    | yes e ↦ omega (
      arith,
      ap (λ (j : ℕ). get_or (set least (start_at a p) (min (get_or least (start_at a p) 0) far)) j 0) e,
      get_or-set_same least (start_at a p) (min (get_or least (start_at a p) 0) far) 0 (omega (arith, small_start, t.tally.least_long)),
      ap (λ (j : ℕ). get_or least j 0) e,
      at_most w i,
    )
  ]
    where
      at_most : (w : ℕ) → IsWrite a n w → get_or least w 0 ≤ far
      at_most w i = ⊎_elim (λ z. omega (arith, z)) (λ (q, l, r, z). omega (arith, l, z, small)) (t.tally.lows.at w i)

  pub tally_pass : (least' : List ℕ) → kind_at a p ≢ 3 → least' ≡ set least (start_at a p) (min (get_or least (start_at a p) 0) far) → Taking a n p head next least' most zero bad
  tally_pass least' k e = rw e (record {
    ready = t.ready;
    below = t.below;
    tally = record {
      least_long = length-set least (start_at a p) (min (get_or least (start_at a p) 0) far) ∙ t.tally.least_long;
      most_long = t.tally.most_long;
      zero_long = t.tally.zero_long;
      bad_long = t.tally.bad_long;
      lows = least_same t.tally.lows (set least (start_at a p) (min (get_or least (start_at a p) 0) far)) (lowered k);
      highs = t.tally.highs;
      zeros = t.tally.zeros;
      marks = t.tally.marks;
    };
  })

  -- it ends a read
  module _ (k : kind_at a p ≡ 2) where
    -- of zero: no write asks that
    pub tally_zero : (zero' : List ℕ) → value_at a p ≡ 0 → zero' ≡ set zero (cell_at a p) (max (get_or zero (cell_at a p) 0) (start_at a p)) → Tally a n (p + 1) least most zero' bad
    tally_zero zero' z e = rw e (record {
      least_long = t.tally.least_long;
      most_long = t.tally.most_long;
      zero_long = length-set zero (cell_at a p) (max (get_or zero (cell_at a p) 0) (start_at a p)) ∙ t.tally.zero_long;
      bad_long = t.tally.bad_long;
      lows = least_skip t.tally.lows (λ w i r. ⊎_elim (λ s. omega (arith, k, s.0)) (λ s. unasked w i s.1) r);
      highs = greatest_skip t.tally.highs (λ w i r. unasked w i r.1);
      zeros = greatest_step t.tally.zeros (cell_at a p) (max (get_or zero (cell_at a p) 0) (start_at a p)) (omega (arith, small_cell, t.tally.zero_long)) (k, z, refl)
          (λ c b r. sym r.2) refl;
      marks = sources_skip t.tally.marks (λ s. s.1 z);
    })
      where
        unasked : (w : ℕ) → IsWrite a n w → Asked a w p → ⊥
        unasked w i s = t.ready.fresh w i.0 (record { write = i.1; again = inl (s.value ∙ z) })

    module _ (v : value_at a p ≢ 0) where
      -- of what no write asks
      pub tally_none : (bad' : List ℕ) → ((w : ℕ) → w < n → Asked a w p → ⊥) → bad' ≡ set bad (cell_at a p) 1 → Tally a n (p + 1) least most zero bad'
      tally_none bad' none e = rw e (record {
        least_long = t.tally.least_long;
        most_long = t.tally.most_long;
        zero_long = t.tally.zero_long;
        bad_long = length-set bad (cell_at a p) 1 ∙ t.tally.bad_long;
        lows = least_skip t.tally.lows (λ w i r. ⊎_elim (λ s. omega (arith, k, s.0)) (λ s. none w i.0 s.1) r);
        highs = greatest_skip t.tally.highs (λ w i r. none w i.0 r.1);
        zeros = greatest_skip t.tally.zeros (λ c b z. v z.1);
        marks = sources_mark t.tally.marks (omega (arith, small_cell, t.tally.bad_long)) ((k, v), λ w i s. absurd (none w i.0 s));
      })

      -- of what w asks
      module _ (w : ℕ) (l : w < n) (s : Asked a w p) (least' most' : List ℕ) (el : least' ≡ set least w (min (get_or least w 0) p))
          (em : most' ≡ set most w (max (get_or most w 0) (start_at a p))) where
        write : IsWrite a n w
        write = (l, s.write)

        only : (x : ℕ) → IsWrite a n x → Asked a x p → x ≡ w
        only x i r = one_asks a n t.ready.fresh x w p i write r s

        tally_marks : (bad' : List ℕ) → length bad' ≡ cell_limit → Sources a n (p + 1) bad' → Tally a n (p + 1) least' most' zero bad'
        tally_marks bad' long m = rw (el, em) (record {
          least_long = length-set least w (min (get_or least w 0) p) ∙ t.tally.least_long;
          most_long = length-set most w (max (get_or most w 0) (start_at a p)) ∙ t.tally.most_long;
          zero_long = t.tally.zero_long;
          bad_long = long;
          lows = least_step t.tally.lows w (min (get_or least w 0) p) (omega (arith, l, t.ready.fit.few, t.tally.least_long)) (inr (k, s))
              (λ x i r. ⊎_elim (λ q. absurd (omega (arith, k, q.0))) (λ q. only x i q.1) r) refl;
          highs = greatest_step t.tally.highs w (max (get_or most w 0) (start_at a p)) (omega (arith, l, t.ready.fit.few, t.tally.most_long)) (k, s)
              (λ x i r. only x i r.1) refl;
          zeros = greatest_skip t.tally.zeros (λ c b z. v z.1);
          marks = m;
        })

        -- which starts after the read ended
        pub tally_late : (bad' : List ℕ) → p < w → bad' ≡ set bad (cell_at a p) 1 → Tally a n (p + 1) least' most' zero bad'
        tally_late bad' b e =
            tally_marks bad' (rw e (length-set bad (cell_at a p) 1 ∙ t.tally.bad_long))
            (rw e (sources_mark t.tally.marks (omega (arith, small_cell, t.tally.bad_long)) ((k, v), λ x i r. omega (arith, b, only x i r))))

        -- which doesn't
        pub tally_found : w ≤ p → Tally a n (p + 1) least' most' zero bad
        tally_found b = tally_marks bad t.tally.bad_long (sources_found t.tally.marks w (write, s, b))

-- the lowering of a start's least stop: by p where p ends a write, by nothing elsewhere
module _ (a : Arrays) (n p : ℕ) (head next least most zero bad : List ℕ) (t : Taking a n p head next least most zero bad) (least' : List ℕ)
    (e : least' ≡ set least (start_at a p) (min (get_or least (start_at a p) 0) (stop_of (kind_at a p) p))) where
  unlowered : kind_at a p ≢ 3 → Taking a n p head next least' most zero bad
  unlowered k = tally_pass a n p head next least most zero bad t least' k
      (e ∙ ap (λ (s : ℕ). set least (start_at a p) (min (get_or least (start_at a p) 0) s)) (stop_none (kind_at a p) p k))

  pub lowered_read : kind_at a p ≡ 2 → Taking a n p head next least' most zero bad
  lowered_read k = unlowered (λ j. omega arith)

  pub lowered_other : kind_at a p ≢ 2 → Tally a n (p + 1) least' most zero bad
  lowered_other k = elim (ℕ_discrete (kind_at a p) 3) [
    | yes j ↦ tally_done a n p head next least most zero bad t least' j
        (e ∙ ap (λ (s : ℕ). set least (start_at a p) (min (get_or least (start_at a p) 0) s)) (stop_done (kind_at a p) p j))
    | no j ↦ tally_skip a n p head next least' most zero bad (unlowered j) k j
  ]

-- ---- after the last

pub tally_end : (a : Arrays) (n p : ℕ) (least most zero bad : List ℕ) → Tally a n p least most zero bad → p ≤ n → n ≤ p → Tally a n n least most zero bad
tally_end a n p least most zero bad t l m = let e : p ≡ n = omega arith in subst (λ (q : ℕ). Tally a n q least most zero bad) e t

pub scatterable : (a : Arrays) (n : ℕ) (head next least most zero bad : List ℕ) → Ready a n head next → Tally a n n least most zero bad → Scattering a n least most
scatterable a n head next least most zero bad r t = record { fit = r.fit; own = placed r.fit r.fresh t.lows t.highs }
