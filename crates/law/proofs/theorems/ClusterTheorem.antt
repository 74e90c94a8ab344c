-- The cluster theorem: where written values differ and none is zero, one cell's operations are lawful exactly when the cluster rule holds.
use Rattle.std.specs.Prelude.{ℕ, ◌+◌, ◌*◌, ◌≤◌, ◌<◌, max, ◌≡◌, refl, ◌≢◌, ◌⊎◌, ◌↔◌, Bool, true, false, ◌||◌, List, T, ltb, ℤ, pos}
use Rattle.std.proofs.Common.{sym, ap, ◌∙◌, subst, inl, inr, ⊎_elim, true≢false, arith, mul-le-mul_right, add-mul, ltb-true, ltb-false}
use Rattle.std.proofs.Math.Bool.{Bool-discrete}
use Rattle.std.proofs.Math.Decide.{dec_lt, ℕ_discrete}
use Rattle.std.proofs.Math.IntN.{ℤ_discrete}
use Rattle.law.specs.Operation.{Op}
use Rattle.law.specs.Order.{In, Pairs, Before, Lawful}
use Rattle.law.specs.Tags.{Chosen, Gives, Tagged}
use Rattle.law.proofs.theorems.TagTheorem.{same, at, at_in, tags}
use Rattle.law.specs.Cluster.{Distinct, Member, Rule}
use Rattle.law.proofs.theorems.Zones.{crossless_clear, before_zones, greatest, greatest_high, greatest_at, with_value, far_of, least_of, most_of, zones_of}

-- ---- from tags to the rule

module _ (s : List Op) (d : Distinct s) (h : Tagged s) where
  -- x is an operation of s, and chosen
  abbrev Has : Op → Type 0
  Has x = Chosen s h.chosen x

  -- the tag that an operation has by its number
  abbrev tagged : Op → ℕ
  tagged x = h.tag x.number

  -- a chosen operation has tag 0 and value zero, or the tag and value of a chosen write
  origin : {x : Op} → Has x → Gives s h.chosen h.tag x
  origin {x} m = go x.write refl
    where
      go : (b : Bool) → x.write ≡ b → Gives s h.chosen h.tag x
      go true e = inr (x, m, e, refl, refl)
      go false e = h.reads m e

  -- the same value, the same tag
  same_tag : {x y : Op} → Has x → Has y → x.value ≡ y.value → tagged x ≡ tagged y
  same_tag {x} {y} m n e = go (origin m) (origin n)
    where
      go : Gives s h.chosen h.tag x → Gives s h.chosen h.tag y → tagged x ≡ tagged y
      go (inl p) (inl q) = p.0 ∙ sym q.0
      go (inl p) (inr (w, k, u, f, g)) = absurd (d.nonzero k.0 u (g ∙ (sym e ∙ p.1)))
      go (inr (v, i, t, f, g)) (inl q) = absurd (d.nonzero i.0 t (g ∙ (e ∙ q.1)))
      go (inr (v, i, t, f, g)) (inr (w, k, u, f', g')) =
          sym f ∙ (ap tagged (d.apart i.0 k.0 t u (g ∙ (e ∙ sym g'))) ∙ f')

  -- the same tag, the same value
  same_value : {x y : Op} → Has x → Has y → tagged x ≡ tagged y → x.value ≡ y.value
  same_value {x} {y} m n e = go (origin m) (origin n)
    where
      go : Gives s h.chosen h.tag x → Gives s h.chosen h.tag y → x.value ≡ y.value
      go (inl p) (inl q) = p.1 ∙ sym q.1
      go (inl p) (inr (w, k, u, f, g)) = absurd (omega (arith, p.0, f, h.above k u))
      go (inr (v, i, t, f, g)) (inl q) = absurd (omega (arith, q.0, f, h.above i t))
      go (inr (v, i, t, f, g)) (inr (w, k, u, f', g')) =
          sym g ∙ (ap (λ (o : Op). o.value) (h.apart i k t u (f ∙ (e ∙ sym f'))) ∙ g')

  -- a member of a chosen operation's cluster is chosen
  joins : {x y : Op} → Has x → Member s y → x.value ≡ y.value → Has y
  joins {x} {y} m (n, inr t) e = (n, h.all n t)
  joins {x} {y} m (n, inl t) e = go (origin m)
    where
      go : Gives s h.chosen h.tag x → Has y
      go (inl p) = absurd (d.nonzero n t (sym e ∙ p.1))
      go (inr (w, k, u, f, g)) = subst Has (d.apart k.0 n u t (g ∙ e)) k

  pub tags_rule : Rule s
  tags_rule =
      record {
        sourced = λ r m w t n. let k : Has r = (m, h.all m t) in
            ⊎_elim (λ p. absurd (n p.1)) (λ (v, i, u, f, g). (v, i.0, u, g, λ l. omega (arith, f, h.climbs k i (t, l) u))) (h.reads k w);
        crossing = λ a a' b b' ma ma' mb mb' e f n p q.
            let ka : Has a = (ma.0, h.all ma.0 p.0) in
            let kb : Has b = (mb.0, h.all mb.0 q.0) in
            let ka' = joins ka ma' e in
            let kb' = joins kb mb' f in
            n (same_value ka kb (omega (arith, same_tag ka ka' e, same_tag kb kb' f, h.rises ka kb' p, h.rises kb ka' q)));
        zero = λ {r} {b} m w t e mb n p.
            let k : Has r = (m, h.all m t) in
            let kb : Has b = (mb.0, h.all mb.0 p.0) in
            ⊎_elim (λ q. n (same_value kb k (omega (arith, q.0, h.rises kb k p)) ∙ e)) (λ (v, i, u, f, g). d.nonzero i.0 u (g ∙ e)) (h.reads k w);
      }

-- ---- from the rule to tags: a cluster's key is the greater end of its zone, then whether its least stop comes first, then its write's number

-- 0 for a cluster whose least stop comes before its greatest start, else 1
abbrev back : Bool → ℕ
back true = 0
back false = 1

-- the greater of a cluster's least stop and greatest start, a cluster that stops before it starts first
abbrev zone_key : ℕ → ℕ → ℕ
zone_key a b = 2 * max a b + back (ltb a b)

key_rises : (a b a' b' : ℕ) → a < b' → b ≤ a' → zone_key a b < zone_key a' b'
key_rises a b a' b' p q = go (ltb a b) refl (ltb a' b') refl
  where
    go : (t : Bool) → ltb a b ≡ t → (u : Bool) → ltb a' b' ≡ u → 2 * max a b + back t < 2 * max a' b' + back u
    go true e true f = omega (arith, ltb-true a b e, ltb-true a' b' f)
    go true e false f = omega (arith, ltb-true a b e, ltb-false a' b' f)
    go false e true f = omega (arith, ltb-false a b e, ltb-true a' b' f)
    go false e false f = omega (arith, ltb-false a b e, ltb-false a' b' f)

-- two digits: the first decides
digits : (k l n x y : ℕ) → k < l → x < n → k * n + x < l * n + y
digits k l n x y p q = omega (arith, mul-le-mul_right {m = k + 1} {n = l} n (omega arith), add-mul k 1 n)

-- and equal numbers have equal second digits
second : (k l n x y : ℕ) → x < n → y < n → k * n + x ≡ l * n + y → x ≡ y
second k l n x y p q e = elim (ℕ_discrete k l) [
  | yes f ↦ (let g = ap (λ i. i * n) f in omega arith)
  | no f ↦ elim (dec_lt k l) [
    | yes g ↦ absurd (omega (arith, digits k l n x y g p))
    | no g ↦ absurd (omega (arith, digits l k n y x (omega (arith, f, g)) q))
  ]
]

-- 0 where the statement holds, else n
abbrev unless : {A : Type 0} → Dec A → ℕ → ℕ
unless (yes p) n = 0
unless (no p) n = n

unless_yes : {A : Type 0} (d : Dec A) (n : ℕ) → A → unless d n ≡ 0
unless_yes (yes p) n a = refl
unless_yes (no p) n a = absurd (p a)

unless_no : {A : Type 0} (d : Dec A) (n : ℕ) → ¬ A → unless d n ≡ n
unless_no (yes p) n a = absurd (a p)
unless_no (no p) n a = refl

-- x is a write or finished
abbrev counts : Op → Bool
counts x = x.write || x.over

counts_to : (a b : Bool) → T (a || b) → (a ≡ true) ⊎ T b
counts_to true b t = inl refl
counts_to false b t = inr t

counts_of : (a b : Bool) → (a ≡ true) ⊎ T b → T (a || b)
counts_of true b t = tt
counts_of false b (inl e) = absurd (true≢false (sym e))
counts_of false b (inr t) = t

write_dec : (x : Op) → Dec (x.write ≡ true)
write_dec x = Bool-discrete x.write true

-- above every number of s
top : List Op → ℕ
top s = greatest (λ x. Unit {0}) (λ x. yes tt) (λ x. x.number) s + 1

-- the number of the write of v
writer : List Op → ℤ → ℕ
writer s v = greatest (λ x. (x.write ≡ true) × (x.value ≡ v)) (with_value (λ x. x.write ≡ true) write_dec v) (λ x. x.number) s

writer_below : (s : List Op) (v : ℤ) → writer s v < top s
unfolding top writer
writer_below s v = ⊎_elim (λ e. omega arith)
    (λ (x, m, p, e). omega (arith, greatest_high (λ x. Unit {0}) (λ x. yes tt) (λ x. x.number) s m tt))
    (greatest_at (λ x. (x.write ≡ true) × (x.value ≡ v)) (with_value (λ x. x.write ≡ true) write_dec v) (λ x. x.number) s)

writer_is : (s : List Op) → Distinct s → {w : Op} → In w s → w.write ≡ true → writer s w.value ≡ w.number
unfolding writer
writer_is s d {w} m t =
    let v = w.value in
    ⊎_elim (λ e. omega (arith, greatest_high (λ x. (x.write ≡ true) × (x.value ≡ v)) (with_value (λ x. x.write ≡ true) write_dec v) (λ x. x.number) s m (t, refl)))
    (λ (x, n, p, e). sym e ∙ ap (λ (o : Op). o.number) (d.apart n m p.0 t p.1))
    (greatest_at (λ x. (x.write ≡ true) × (x.value ≡ v)) (with_value (λ x. x.write ≡ true) write_dec v) (λ x. x.number) s)

-- the key of the cluster of v
cluster_key : List Op → ℤ → ℕ
cluster_key s v = zone_key (least_of s v) (most_of s v)

-- the tag of what has value v: 0 where that is zero
value_tag : List Op → ℤ → ℕ
value_tag s v = unless (ℤ_discrete v (pos 0)) (cluster_key s v * top s + writer s v + 1)

module _ (s : List Op) (sound : (x : Op) → In x s → T x.over → x.start ≤ x.stop) (once : Pairs (λ x y. x.number ≢ y.number) s) (d : Distinct s) (u : Rule s) where
  zero_tag : (v : ℤ) → v ≡ pos 0 → value_tag s v ≡ 0
  unfolding value_tag
  zero_tag v e = unless_yes (ℤ_discrete v (pos 0)) _ e

  other_tag : (v : ℤ) → v ≢ pos 0 → value_tag s v ≡ cluster_key s v * top s + writer s v + 1
  unfolding value_tag
  other_tag v e = unless_no (ℤ_discrete v (pos 0)) _ e

  -- from a cluster to another that it has an operation before, the tag rises
  clusters_rise : {a b : Op} → Member s a → Member s b → a.value ≢ pos 0 → b.value ≢ pos 0 → a.value ≢ b.value → Before a b
      → value_tag s a.value < value_tag s b.value
  unfolding cluster_key
  clusters_rise {a} {b} m n p q e k =
      let l = before_zones s (far_of s) (least_of s) (most_of s) (zones_of s) m n k in
      let g : most_of s a.value ≤ least_of s b.value = elim (dec_lt (least_of s b.value) (most_of s a.value)) [
        | yes r ↦ absurd (crossless_clear s (far_of s) (least_of s) (most_of s) (zones_of s) u.crossing a.value b.value e l r)
        | no r ↦ omega (arith, r)
      ] in
      let f = digits (cluster_key s a.value) (cluster_key s b.value) (top s) (writer s a.value) (writer s b.value)
      (key_rises _ _ _ _ l g) (writer_below s a.value) in
      omega (arith, other_tag a.value p, other_tag b.value q)

  nonzero_tag : (v : ℤ) → v ≢ pos 0 → 0 < value_tag s v
  nonzero_tag v e = omega (arith, other_tag v e)

  rise : {a b : Op} → Member s a → Member s b → Before a b → (a.value ≡ b.value) ⊎ (value_tag s a.value < value_tag s b.value)
  rise {a} {b} m n k = elim (ℤ_discrete a.value b.value) [
    | yes e ↦ inl e
    | no e ↦ inr (elim (ℤ_discrete a.value (pos 0)) [
      | yes p ↦ (let q = nonzero_tag b.value (λ f. e (p ∙ sym f)) in omega (arith, zero_tag a.value p))
      | no p ↦ elim (ℤ_discrete b.value (pos 0)) [
        | yes q ↦ absurd (go b.write refl q p n.1)
        | no q ↦ clusters_rise m n p q e k
      ]
    ])
  ]
    where
      go : (w : Bool) → b.write ≡ w → b.value ≡ pos 0 → a.value ≢ pos 0 → (b.write ≡ true) ⊎ T b.over → ⊥
      go true f q p t = d.nonzero n.0 f q
      go false f q p (inl t) = true≢false (sym t ∙ f)
      go false f q p (inr t) = u.zero n.0 f t q m p k

  -- nothing of a cluster is before its write
  own : {a b : Op} → In a s → In b s → Before a b → b.write ≡ true → a.value ≡ b.value → ⊥
  own {a} {b} m n k t e = go a.write refl
    where
      go : (w : Bool) → a.write ≡ w → ⊥
      go true f = let q = ap (λ (o : Op). o.start) (d.apart m n f t e) in omega (arith, k.1, sound a m k.0)
      go false f =
          let (w, i, v, g, l) = u.sourced a m f k.0 (λ z. d.nonzero n t (sym e ∙ z)) in
          l (subst (λ (o : Op). a.stop < o.start) (sym (d.apart i n v t (g ∙ e))) k.1)

  -- chosen are the writes and the finished operations, by their numbers
  abbrev choice : ℕ → Bool
  choice = at false counts s

  -- each operation has the tag of its value, by its number
  abbrev tagging : ℕ → ℕ
  tagging = at 0 (λ x. value_tag s x.value) s

  tag_is : {x : Op} → In x s → tagging x.number ≡ value_tag s x.value
  tag_is m = at_in 0 (λ x. value_tag s x.value) s once m

  member : {x : Op} → Chosen s choice x → Member s x
  member {x} m = (m.0, counts_to x.write x.over (subst T (at_in false counts s once m.0) m.1))

  chosen_is : {x : Op} → Member s x → Chosen s choice x
  chosen_is {x} m = (m.0, subst T (sym (at_in false counts s once m.0)) (counts_of x.write x.over m.1))

  pub rule_tags : Tagged s
  rule_tags =
      record {
        chosen = choice;
        tag = tagging;
        all = λ {x} m t. (chosen_is {x = x} (m, inr t)).1;
        ended = λ m w. ⊎_elim (λ t. absurd (true≢false (sym t ∙ w))) (λ t. t) (member m).1;
        above = λ {x} m w. omega (arith, tag_is m.0, nonzero_tag x.value (d.nonzero m.0 w));
        apart = λ {x} {y} m n w v e. same s once m.0 n.0
            (sym (writer_is s d m.0 w) ∙ (second (cluster_key s x.value) (cluster_key s y.value) (top s) (writer s x.value) (writer s y.value)
            (writer_below s x.value) (writer_below s y.value)
            (omega (arith, tag_is m.0, tag_is n.0, other_tag x.value (d.nonzero m.0 w), other_tag y.value (d.nonzero n.0 v))) ∙ writer_is s d n.0 v));
        rises = λ {x} {y} m n b. ⊎_elim (λ e. omega (arith, tag_is m.0, tag_is n.0, ap (value_tag s) e)) (λ l. omega (arith, tag_is m.0, tag_is n.0))
            (rise (member m) (member n) b);
        climbs = λ {x} {y} m n b w. ⊎_elim (λ e. absurd (own m.0 n.0 b w e)) (λ l. omega (arith, tag_is m.0, tag_is n.0)) (rise (member m) (member n) b);
        reads = λ {x} m w. elim (ℤ_discrete x.value (pos 0)) [
          | yes e ↦ inl (tag_is m.0 ∙ zero_tag x.value e, e)
          | no e ↦ (let (v, i, t, g, l) = u.sourced x m.0 w (⊎_elim (λ t. absurd (true≢false (sym t ∙ w))) (λ t. t) (member m).1) e in
              inr (v, chosen_is (i, inl t), t, tag_is i ∙ (ap (value_tag s) g ∙ sym (tag_is m.0)), g))
        ];
      }

-- ---- both ways

-- the cluster theorem
pub rule : (s : List Op) (c : ℕ) → ((x : Op) → In x s → x.cell ≡ c) → ((x : Op) → In x s → T x.over → x.start ≤ x.stop)
    → Pairs (λ x y. x.number ≢ y.number) s → Distinct s → Lawful s ↔ Rule s
rule s c cells sound once d =
    let t = tags s c cells sound once in
    (λ h. tags_rule s d (t.0 h), λ u. t.1 (rule_tags s sound once d u))
