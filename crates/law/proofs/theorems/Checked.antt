-- The cluster rule by writes: each cluster's least stop and greatest start by its write's number, and the greatest start of a read of zero.
use Rattle.std.specs.Prelude.{ℕ, ◌<◌, ◌≡◌, refl, ◌≢◌, ◌⊎◌, ◌↔◌, Bool, true, false, List, T, pos}
use Rattle.std.proofs.Common.{sym, ap, ◌∙◌, inl, inr, ⊎_elim, true≢false, arith}
use Rattle.std.proofs.Math.Decide.{dec_lt}
use Rattle.std.proofs.Math.IntN.{ℤ_discrete}
use Rattle.law.specs.Operation.{Op}
use Rattle.law.specs.Order.{In, Pairs, Before}
use Rattle.law.proofs.theorems.TagTheorem.{same}
use Rattle.law.specs.Cluster.{Distinct, Member, Rule}
use Rattle.law.specs.laws.Checked.{Write, ZeroRead, Sums, Checked}

module _ (s : List Op) (once : Pairs (λ x y. x.number ≢ y.number) s) (d : Distinct s) (far : ℕ) (least most : ℕ → ℕ) (none : ℕ) (z : Sums s far least most none) where
  -- the operations that make one cluster's least stop less than a start
  stops : {w y : Op} → Write s w → In y s → least w.number < y.start → (a : Op) × Member s a × (a.value ≡ w.value) × Before a y
  stops m n l = ⊎_elim (λ e. absurd (omega (arith, z.above n))) (λ (a, i, t, e, q). (a, (i, inr t), e, (t, omega arith))) (z.low_at m)

  rule_checked : Rule s → Checked s least most none
  rule_checked u =
      record {
        sourced = u.sourced;
        early = λ {w} m. elim (dec_lt (least w.number) none) [
          | no q ↦ omega (arith, q)
          | yes q ↦ absurd (⊎_elim (λ e. omega arith)
              (λ (r, k, e). let (a, i, f, b) = stops m k.0 (omega arith) in u.zero k.0 k.1 k.2 k.3 i (λ g. d.nonzero m.0 m.1 (sym f ∙ g)) b) z.none_at)
        ];
        clear = λ {w} {x} m n e p q.
            let (b', i', f', g') = z.high_at n in
            let (a', j', h', k') = z.high_at m in
            let (a, i, f, g) = stops m i'.0 (omega arith) in
            let (b, j, h, k) = stops n j'.0 (omega arith) in
            u.crossing a a' b b' i j' j i' (f ∙ sym h') (h ∙ sym f')
            (λ v. e (ap (λ (o : Op). o.number) (d.apart m.0 n.0 m.1 n.1 (sym f ∙ (v ∙ h))))) g k;
      }

  module _ (k : Checked s least most none) where
    -- the write of a member's cluster
    owner : {x : Op} → Member s x → x.value ≢ pos 0 → (w : Op) × Write s w × (x.value ≡ w.value)
    owner {x} m n = go x.write refl m.1
      where
        go : (b : Bool) → x.write ≡ b → (x.write ≡ true) ⊎ T x.over → (w : Op) × Write s w × (x.value ≡ w.value)
        go true e t = (x, (m.0, e), refl)
        go false e (inl t) = absurd (true≢false (sym t ∙ e))
        go false e (inr t) = let (w, i, u, f, l) = k.sourced x m.0 e t n in (w, (i, u), sym f)

    zero_read : {x : Op} → Member s x → x.value ≡ pos 0 → ZeroRead s x
    zero_read {x} m n = go x.write refl m.1
      where
        go : (b : Bool) → x.write ≡ b → (x.write ≡ true) ⊎ T x.over → ZeroRead s x
        go true e t = absurd (d.nonzero m.0 e n)
        go false e (inl t) = absurd (true≢false (sym t ∙ e))
        go false e (inr t) = (m.0, e, t, n)

    late : {r b : Op} → ZeroRead s r → Member s b → b.value ≢ pos 0 → Before b r → ⊥
    late m n e p = let (w, i, f) = owner n e in omega (arith, z.low i n.0 p.0 f, p.1, z.none_high m, k.early i)

    apart : {a a' b b' : Op} → Member s a → Member s a' → Member s b → Member s b' → a.value ≡ a'.value → b.value ≡ b'.value
        → a.value ≢ b.value → a.value ≢ pos 0 → b.value ≢ pos 0 → Before a b' → Before b a' → ⊥
    apart ma ma' mb mb' e f n za zb p q =
        let (w, i, g) = owner ma za in
        let (x, j, h) = owner mb zb in
        k.clear i j (λ v. n (g ∙ (ap (λ (o : Op). o.value) (same s once i.0 j.0 v) ∙ sym h)))
        (omega (arith, z.low i ma.0 p.0 g, p.1, z.high j mb' (sym f ∙ h)))
        (omega (arith, z.low j mb.0 q.0 h, q.1, z.high i ma' (sym e ∙ g)))

    checked_rule : Rule s
    checked_rule =
        record {
          sourced = k.sourced;
          crossing = λ a a' b b' ma ma' mb mb' e f n p q. elim (ℤ_discrete a.value (pos 0)) [
            | yes za ↦ late (zero_read ma' (sym e ∙ za)) mb (λ zb. n (za ∙ sym zb)) q
            | no za ↦ elim (ℤ_discrete b.value (pos 0)) [
              | yes zb ↦ late (zero_read mb' (sym f ∙ zb)) ma za p
              | no zb ↦ apart ma ma' mb mb' e f n za zb p q
            ]
          ];
          zero = λ m w t e n f p. late (m, w, t, e) n f p;
        }

  -- the rule is what is checked
  pub checked : Rule s ↔ Checked s least most none
  checked = (rule_checked, checked_rule)
