-- A cluster's zone: the least stop of its finished operations and the greatest start of its members, by its value. Two clusters cross
-- exactly when each has its least stop before the other's greatest start.
use Rattle.std.specs.Prelude.{ℕ, ◌≤◌, ◌<◌, min, max, ◌≡◌, ◌⊎◌, ◌↔◌, Bool, true, false, T, ℤ}
use Rattle.std.proofs.Math.Path.{refl, ap}
use Rattle.std.proofs.Common.{sym, ◌∙◌, subst, ⊎_elim, arith}
use Rattle.std.proofs.Math.Logic.{inl, inr}
use Rattle.std.proofs.Math.Bool.{Bool-discrete}
use mathlib.Core.List.Memᴰ.{cases_cons as mem_cons}
use mathlib.Core.List.Memᴰ.{head as here}
use mathlib.Core.List.Memᴰ.{not-nil as no_mem}
use mathlib.Core.List.Memᴰ.{tail as there}
use mathlib.Core.List.{List, [], ◌∷◌}
use Rattle.std.proofs.Math.Decide.{dec_le}
use Rattle.std.proofs.Math.IntN.{ℤ_discrete}
use Rattle.law.specs.Operation.{Op}
use Rattle.law.specs.Order.{In, Before}
use Rattle.law.specs.Cluster.{Member, Crossless}
use Rattle.law.specs.laws.Zones.{Zones, Clear}

-- ---- the same

module _ (s : List Op) (far : ℕ) (least most : ℤ → ℕ) (z : Zones s far least most) where
  most_far : (v : ℤ) → most v ≤ far
  most_far v = ⊎_elim (λ e. omega arith) (λ (x, m, e, q). omega (arith, z.above m.0)) (z.high_at v)

  -- the operations that make one cluster's least stop less than another's greatest start
  crossers : (u v : ℤ) → least u < most v → (a b : Op) × Member s a × Member s b × (a.value ≡ u) × (b.value ≡ v) × Before a b
  crossers u v l = ⊎_elim (λ e. absurd (omega (arith, most_far v)))
      (λ (a, m, t, e, q). ⊎_elim (λ f. absurd (omega arith)) (λ (b, n, f, r). (a, b, (m, inr t), n, e, f, (t, omega arith))) (z.high_at v)) (z.low_at u)

  pub before_zones : {a b : Op} → Member s a → Member s b → Before a b → least a.value < most b.value
  before_zones m n b = omega (arith, z.low m.0 b.0, b.1, z.high n)

  pub clear_crossless : Clear least most → Crossless s
  clear_crossless c a a' b b' ma ma' mb mb' e f n p q =
      c a.value b.value n (subst (λ v. least a.value < most v) (sym f) (before_zones ma mb' p))
      (subst (λ v. least b.value < most v) (sym e) (before_zones mb ma' q))

  pub crossless_clear : Crossless s → Clear least most
  crossless_clear c u v n p q =
      let (a, b', ma, mb', ea, eb', x) = crossers u v p in
      let (b, a', mb, ma', eb, ea', y) = crossers v u q in
      c a a' b b' ma ma' mb mb' (ea ∙ sym ea') (eb ∙ sym eb') (λ e. n (sym ea ∙ (e ∙ eb))) x y

  -- no two clusters cross exactly when no two zones do
  pub zones : Crossless s ↔ Clear least most
  zones = (crossless_clear, clear_crossless)

-- ---- every list of operations has zones

-- the greatest so far, r, or a where that is greater and the statement holds
abbrev raise : {A : Type 0} → Dec A → ℕ → ℕ → ℕ
raise (yes p) a r = max a r
raise (no p) a r = r

-- the least so far, r, or a where that is less and the statement holds
abbrev lower : {A : Type 0} → Dec A → ℕ → ℕ → ℕ
lower (yes p) a r = min a r
lower (no p) a r = r

module _ (P : Op → Type 0) (dec : (x : Op) → Dec (P x)) (f : Op → ℕ) where
  -- the greatest f of what has P, 0 if nothing has
  pub greatest : List Op → ℕ
  greatest [] = 0
  greatest (x ∷ xs) = raise (dec x) (f x) (greatest xs)

  -- the least f of what has P, far if nothing has
  pub fewest : ℕ → List Op → ℕ
  fewest far [] = far
  fewest far (x ∷ xs) = lower (dec x) (f x) (fewest far xs)

  pub greatest_high : (l : List Op) {x : Op} → In x l → P x → f x ≤ greatest l
  unfolding greatest
  greatest_high [] m p = absurd (no_mem m)
  greatest_high (y ∷ ys) {x} m p = go (dec y) (mem_cons m) (λ n. greatest_high ys n p)
    where
      go : (d : Dec (P y)) → (x ≡ y) ⊎ In x ys → (In x ys → f x ≤ greatest ys) → f x ≤ raise d (f y) (greatest ys)
      go (yes q) (inl e) g = omega (arith, ap f e)
      go (yes q) (inr n) g = omega (arith, g n)
      go (no q) (inl e) g = absurd (q (subst P e p))
      go (no q) (inr n) g = g n

  pub greatest_at : (l : List Op) → (greatest l ≡ 0) ⊎ ((x : Op) × In x l × P x × (f x ≡ greatest l))
  unfolding greatest
  greatest_at [] = inl refl
  greatest_at (y ∷ ys) = go (dec y) (greatest_at ys)
    where
      go : (d : Dec (P y)) → (greatest ys ≡ 0) ⊎ ((x : Op) × In x ys × P x × (f x ≡ greatest ys))
          → (raise d (f y) (greatest ys) ≡ 0) ⊎ ((x : Op) × In x (y ∷ ys) × P x × (f x ≡ raise d (f y) (greatest ys)))
      go (no q) (inl e) = inl e
      go (no q) (inr (x, m, p, e)) = inr (x, there m, p, e)
      go (yes q) (inl e) = inr (y, here refl, q, omega arith)
      go (yes q) (inr (x, m, p, e)) = elim (dec_le (greatest ys) (f y)) [
        | yes l ↦ inr (y, here refl, q, omega arith)
        | no l ↦ inr (x, there m, p, omega (arith, l))
      ]

  pub fewest_low : (far : ℕ) (l : List Op) {x : Op} → In x l → P x → fewest far l ≤ f x
  unfolding fewest
  fewest_low far [] m p = absurd (no_mem m)
  fewest_low far (y ∷ ys) {x} m p = go (dec y) (mem_cons m) (λ n. fewest_low far ys n p)
    where
      go : (d : Dec (P y)) → (x ≡ y) ⊎ In x ys → (In x ys → fewest far ys ≤ f x) → lower d (f y) (fewest far ys) ≤ f x
      go (yes q) (inl e) g = omega (arith, ap f e)
      go (yes q) (inr n) g = omega (arith, g n)
      go (no q) (inl e) g = absurd (q (subst P e p))
      go (no q) (inr n) g = g n

  pub fewest_at : (far : ℕ) (l : List Op) → (fewest far l ≡ far) ⊎ ((x : Op) × In x l × P x × (f x ≡ fewest far l))
  unfolding fewest
  fewest_at far [] = inl refl
  fewest_at far (y ∷ ys) = go (dec y) (fewest_at far ys)
    where
      go : (d : Dec (P y)) → (fewest far ys ≡ far) ⊎ ((x : Op) × In x ys × P x × (f x ≡ fewest far ys))
          → (lower d (f y) (fewest far ys) ≡ far) ⊎ ((x : Op) × In x (y ∷ ys) × P x × (f x ≡ lower d (f y) (fewest far ys)))
      go (no q) (inl e) = inl e
      go (no q) (inr (x, m, p, e)) = inr (x, there m, p, e)
      go (yes q) (inl e) = elim (dec_le (f y) (fewest far ys)) [
        | yes l ↦ inr (y, here refl, q, omega arith)
        | no l ↦ inl (omega (arith, l))
      ]
      go (yes q) (inr (x, m, p, e)) = elim (dec_le (f y) (fewest far ys)) [
        | yes l ↦ inr (y, here refl, q, omega arith)
        | no l ↦ inr (x, there m, p, omega (arith, l))
      ]

pub T-dec : (b : Bool) → Dec (T b)
T-dec true = yes tt
T-dec false = no (λ t. t)

-- a write or finished
abbrev Counts : Op → Type 0
Counts x = (x.write ≡ true) ⊎ T x.over

counts_dec : (x : Op) → Dec (Counts x)
counts_dec x = elim (Bool-discrete x.write true) [ yes p ↦ yes (inl p) | no p ↦ elim (T-dec x.over) [ yes q ↦ yes (inr q) | no q ↦ no (λ e. ⊎_elim p q e) ] ]

pub with_value : (P : Op → Type 0) → ((x : Op) → Dec (P x)) → (v : ℤ) (x : Op) → Dec (P x × (x.value ≡ v))
with_value P dec v x = elim (dec x) [ no q ↦ no (λ e. q e.0) | yes p ↦ elim (ℤ_discrete x.value v) [ yes e ↦ yes (p, e) | no q ↦ no (λ e. q e.1) ] ]

-- above every start of s
pub far_of : List Op → ℕ
far_of s = greatest (λ x. Unit {0}) (λ x. yes tt) (λ x. x.start) s

pub least_of : List Op → ℤ → ℕ
least_of s v = fewest (λ x. T x.over × (x.value ≡ v)) (with_value (λ x. T x.over) (λ x. T-dec x.over) v) (λ x. x.stop) (far_of s) s

pub most_of : List Op → ℤ → ℕ
most_of s v = greatest (λ x. Counts x × (x.value ≡ v)) (with_value Counts counts_dec v) (λ x. x.start) s

pub zones_of : (s : List Op) → Zones s (far_of s) (least_of s) (most_of s)
unfolding far_of least_of most_of
zones_of s =
    record {
      low = λ {x} m t. fewest_low (λ y. T y.over × (y.value ≡ x.value)) (with_value (λ y. T y.over) (λ y. T-dec y.over) x.value) (λ y. y.stop) (far_of s) s m
          (t, refl);
      low_at = λ v. ⊎_elim inl (λ (x, m, p, e). inr (x, m, p.0, p.1, e))
          (fewest_at (λ y. T y.over × (y.value ≡ v)) (with_value (λ y. T y.over) (λ y. T-dec y.over) v) (λ y. y.stop) (far_of s) s);
      high = λ {x} m. greatest_high (λ y. Counts y × (y.value ≡ x.value)) (with_value Counts counts_dec x.value) (λ y. y.start) s m.0 (m.1, refl);
      high_at = λ v. ⊎_elim inl (λ (x, m, p, e). inr (x, (m, p.0), p.1, e))
          (greatest_at (λ y. Counts y × (y.value ≡ v)) (with_value Counts counts_dec v) (λ y. y.start) s);
      above = λ m. greatest_high (λ x. Unit {0}) (λ x. yes tt) (λ x. x.start) s m tt;
    }
