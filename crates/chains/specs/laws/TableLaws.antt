-- Laws for callers: which answers of the table are possible.
use Rattle.std.specs.Prelude.{ℕ, ◌-◌, ◌<◌, ◌≡◌, refl, ◌⊎◌, Option, Some, None, List, get_or, replicate}
use Rattle.std.proofs.Common.{sym, ap, ◌∙◌, inl, inr, ⊎_elim, arith, ext_get_or}
use Rattle.std.proofs.Math.Decide.{dec_lt, ℕ_discrete}
use Rattle.std.proofs.lemmas.List.{length-replicate, get_or-replicate}
use Rattle.std.proofs.Math.ListN.{get_or-eq_default}
use Rattle.record.specs.Record.{entry_limit}
use Rattle.chains.specs.Chains.{Asks, Again, NoneAgain}
use Rattle.chains.specs.Table.{chain_count, Latest, Chained, Empty, Found, Stays, Linking, SameLink}

-- two numbers are equal, or one is less
order : (p q : ℕ) → (p < q) ⊎ ((q < p) ⊎ (p ≡ q))
order p q = elim (dec_lt p q) [
  | yes l ↦ inl l
  | no n ↦ elim (dec_lt q p) [ yes l ↦ inr (inl l) | no m ↦ inr (inr (omega (arith, n, m))) ]
]

module _ {kinds cells values : List ℕ} where
  -- a later write of the same is again
  pub asks_again : {p q c v : ℕ} → q < p → Asks kinds cells values q c v → Asks kinds cells values p c v → Again kinds cells values p
  asks_again {p} {q} l a b = record {
    write = b.write;
    again = inr (q, (l, record { write = a.write; cell = a.cell ∙ sym b.cell; value = a.value ∙ sym b.value }));
  }

  -- and so is a write of 0
  pub zero_again : {p c : ℕ} → Asks kinds cells values p c 0 → Again kinds cells values p
  zero_again a = record { write = a.write; again = inl a.value }

  -- where none asks again, a cell and a value have one write
  pub one_write : {n p q c v : ℕ} → Asks kinds cells values p c v → Asks kinds cells values q c v → p < n → q < n → NoneAgain kinds cells values n → p ≡ q
  one_write {n} {p} {q} a b lp lq none =
      ⊎_elim (λ l. absurd (none q lq (asks_again l a b))) (⊎_elim (λ l. absurd (none p lp (asks_again l b a))) (λ e. e)) (order p q)

  -- so a search finds that write and no other
  pub found_write : {n w c v : ℕ} (r : Option ℕ) → Found kinds cells values n c v r → Asks kinds cells values w c v → w < n → NoneAgain kinds cells values n → r ≡ Some w
  found_write (Some x) f a l none = let (lx, ax) = f.at x refl in ap Some (one_write ax a lx l none)
  found_write {n} {w} None f a l none = absurd (f.none refl w l a)

  -- and a search has one right answer, whatever the table holds
  pub one_found : {n c v : ℕ} (r s : Option ℕ) → Found kinds cells values n c v r → Found kinds cells values n c v s → r ≡ s
  one_found (Some x) (Some y) f g =
      let (lx, ax) = f.at x refl in
      let (ly, ay) = g.at y refl in
      ap Some (⊎_elim (λ l. absurd (f.latest x refl y l ly ay)) (⊎_elim (λ l. absurd (g.latest y refl x l lx ax)) (λ e. e)) (order x y))
  one_found (Some x) None f g = let (lx, ax) = f.at x refl in absurd (g.none refl x lx ax)
  one_found None (Some y) f g = let (ly, ay) = g.at y refl in absurd (f.none refl y ly ay)
  one_found None None f g = refl

  -- the first that asks again is one entry
  pub one_first : {p q : ℕ} → Again kinds cells values p → Again kinds cells values q → NoneAgain kinds cells values p → NoneAgain kinds cells values q → p ≡ q
  one_first {p} {q} a b n m = ⊎_elim (λ l. absurd (m p l a)) (⊎_elim (λ l. absurd (n q l b)) (λ e. e)) (order p q)

  -- a chain below an entry has one latest write
  pub one_latest : {n h a b : ℕ} → Latest kinds cells values n h a → Latest kinds cells values n h b → a ≡ b
  one_latest {n} {h} {a} {b} x y =
      ⊎_elim (λ l. absurd (let z = x.last (b - 1) (y.one (omega arith)) in omega arith))
      (⊎_elim (λ l. absurd (let z = y.last (a - 1) (x.one (omega arith)) in omega arith)) (λ e. e)) (order a b)

  -- so the writes alone say what stands in the table
  pub one_table : {n : ℕ} {head next head' next' : List ℕ} → Chained kinds cells values n head next → Chained kinds cells values n head' next' →
      ((h : ℕ) → h < chain_count → get_or head h 0 ≡ get_or head' h 0) × ((p : ℕ) → p < n → get_or kinds p 0 ≡ 1 → get_or next p 0 ≡ get_or next' p 0)
  one_table s t = (λ h l. one_latest (s.heads h l) (t.heads h l), λ p l w. one_latest (s.nexts p l w) (t.nexts p l w))

  -- and with what stood there before all of next
  same_table : {n : ℕ} {was head next head' next' : List ℕ} → Chained kinds cells values n head next → Chained kinds cells values n head' next'
      → Stays kinds n was next → Stays kinds n was next' → (head ≡ head') × (next ≡ next')
  same_table {n} {was} {head} {next} {head'} {next'} s t u v = (
    ext_get_or 0 head head' (s.head_long ∙ sym t.head_long) (λ h l. (one_table s t).0 h (omega (arith, s.head_long))),
    ext_get_or 0 next next' (s.next_long ∙ sym t.next_long) (λ p l. elim (dec_lt p n) [
      | yes b ↦ elim (ℕ_discrete (get_or kinds p 0) 1) [
        | yes w ↦ (one_table s t).1 p b w
        | no w ↦ u.same p (λ _ e. w e) ∙ sym (v.same p (λ _ e. w e))
      ]
      | no b ↦ u.same p (λ e _. b e) ∙ sym (v.same p (λ e _. b e))
    ]),
  )

  -- linking has one right answer
  one_linked : {n : ℕ} {was head next head' next' : List ℕ} (r s : Option ℕ) → Linking kinds cells values n was head next r → Linking kinds cells values n was head' next' s
      → r ≡ s
  one_linked None None a b = refl
  one_linked None (Some q) a b = let (l, (g, _)) = b.again q refl in absurd ((a.all refl).0 q l g)
  one_linked (Some p) None a b = let (l, (g, _)) = a.again p refl in absurd ((b.all refl).0 p l g)
  one_linked (Some p) (Some q) a b = let (_, (g, f)) = a.again p refl in let (_, (h, e)) = b.again q refl in ap Some (one_first g h f e)

  -- and leaves one table, in every number of it
  pub one_link : {n : ℕ} {was head next head' next' : List ℕ} (r s : Option ℕ) → Linking kinds cells values n was head next r → Linking kinds cells values n was head' next' s
      → SameLink r s head head' next next'
  one_link {n} {was} {head} {next} {head'} {next'} r s a b = go r s (one_linked r s a b) a b
    where
      joined : (x y : Option ℕ) → x ≡ y → (head ≡ head') × (next ≡ next') → SameLink x y head head' next next'
      joined x y e t = record { answer = e; heads = t.0; nexts = t.1 }

      go : (x y : Option ℕ) → x ≡ y → Linking kinds cells values n was head next x → Linking kinds cells values n was head' next' y → SameLink x y head head' next next'
      go None y e f g =
          let d = sym e in
          joined None y e (same_table (f.all refl).1 (g.all d).1 (f.all_stays refl) (g.all_stays d))
      go (Some p) y e f g =
          let d = sym e in
          joined (Some p) y e (same_table (f.begun p refl) (g.begun p d) (f.begun_stays p refl) (g.begun_stays p d))

-- in an array of zeros everything is 0, past its end too
pub zero_at : (n i : ℕ) → ◌≡◌ {A = ℕ} (get_or (replicate n 0) i 0) 0
zero_at n i = elim (dec_lt i n) [
  | yes l ↦ get_or-replicate n i 0 0 l
  | no q ↦ get_or-eq_default (replicate n 0) 0 (rw length-replicate (omega (arith, q)))
]

-- arrays of zeros are an empty table
pub empty_zeros : Empty (replicate chain_count 0) (replicate entry_limit 0)
empty_zeros = record { head_long = length-replicate {A = ℕ} chain_count 0; next_long = length-replicate {A = ℕ} entry_limit 0; no_heads = zero_at chain_count }
