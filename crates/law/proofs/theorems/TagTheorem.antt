-- The tag theorem: one cell's operations are lawful exactly when they have tags. Times may be equal.
use Rattle.std.specs.Prelude.{◌≡◌, refl, ◌≢◌, ◌⊎◌, ◌↔◌, Bool, true, false, cond, List, [], ◌∷◌, map, ℕ, ◌+◌, ◌*◌, ◌≤◌, ◌<◌, T, eqb, ℤ, pos}
use Rattle.std.proofs.Common.{sym, ap, ◌∙◌, subst, inl, inr, ⊎_elim, true≢false, arith, eq-eqb, ne_eqb, eqb-true}
use mathlib.Core.List.Memᴰ.{cases_cons as mem_cons}
use mathlib.Core.List.Memᴰ.{head as here}
use mathlib.Core.List.Memᴰ.{not-nil as no_mem}
use mathlib.Core.List.Memᴰ.{tail as there}
use Rattle.std.proofs.Math.Decide.{ℕ_discrete}
use Rattle.std.proofs.lemmas.Bool.{eqb-false}
use Rattle.law.specs.Operation.{Op}
use Rattle.law.specs.Order.{In, Pairs, Before, after, Reads, Ordered, Lawful}
use Rattle.law.specs.Part.{keep_if}
use Rattle.law.specs.laws.Lists.{pairs_imp}
use Rattle.law.specs.laws.Sort.{sort, sort_of, sort_in, First, sort_pairs}
use Rattle.law.specs.Tags.{Chosen, Tagged}

-- ---- what tags are

-- ---- the order that tags give

-- 0 for a write, 1 for a read: of one tag the write comes first
abbrev late : Bool → ℕ
late true = 0
late false = 1

-- by tag, the write first
abbrev pub rank : (ℕ → ℕ) → Op → ℕ
rank tag x = 2 * tag x.number + late x.write

-- when an operation starts
abbrev start_of : Op → ℕ
start_of x = x.start

-- the operations that a test keeps
abbrev kept : (Op → Bool) → List Op → List Op
kept f [] = []
kept f (x ∷ xs) = keep_if (f x) x (kept f xs)

-- the chosen operations by start, then by tag
abbrev pub by_tag : (ℕ → Bool) → (ℕ → ℕ) → List Op → List Op
by_tag chosen tag s = sort (rank tag) (sort start_of (kept (λ x. chosen x.number) s))

-- ---- lists of operations

-- two operations have different numbers
abbrev Differ : Op → Op → Type 0
Differ x y = x.number ≢ y.number

-- where numbers differ, operations with the same number are the same
pub same : (l : List Op) → Pairs (λ x y. x.number ≢ y.number) l → {x y : Op} → In x l → In y l → x.number ≡ y.number → x ≡ y
same [] p m n e = absurd (no_mem m)
same (z ∷ zs) p (here a) (here b) e = a ∙ sym b
same (z ∷ zs) p {x} {y} (here a) (there n) e = absurd (p.0 y n (ap (λ (o : Op). o.number) (sym a) ∙ e))
same (z ∷ zs) p {x} {y} (there m) (here b) e = absurd (p.0 x m (ap (λ (o : Op). o.number) (sym b) ∙ sym e))
same (z ∷ zs) p (there m) (there n) e = same zs p.1 m n e

-- what g gives of the operation of l with number n, and d if there is none: functions of operations as functions of numbers
abbrev pub at : {A : Type 0} → A → (Op → A) → List Op → ℕ → A
at d g [] n = d
at d g (x ∷ xs) n = cond (eqb x.number n) (g x) (at d g xs n)

pub at_in : {A : Type 0} (d : A) (g : Op → A) (l : List Op) → Pairs (λ x y. x.number ≢ y.number) l → {x : Op} → In x l → at d g l x.number ≡ g x
at_in d g [] p m = absurd (no_mem m)
at_in d g (z ∷ zs) p {x} (here e) = rw (eq-eqb z.number x.number (ap (λ (o : Op). o.number) (sym e))) (ap g (sym e))
at_in d g (z ∷ zs) p {x} (there m) = rw (ne_eqb z.number x.number (p.0 x m)) (at_in d g zs p.1 m)

kept_in : (f : Op → Bool) (l : List Op) {y : Op} → In y l → T (f y) → In y (kept f l)
kept_in f [] m t = absurd (no_mem m)
kept_in f (x ∷ xs) {y} m t = go (f x) refl (mem_cons m) (λ n. kept_in f xs n t)
  where
    go : (b : Bool) → f x ≡ b → (y ≡ x) ⊎ In y xs → (In y xs → In y (kept f xs)) → In y (keep_if b x (kept f xs))
    go true q (inl p) r = here p
    go true q (inr n) r = there (r n)
    go false q (inl p) r = absurd (subst T (ap f p ∙ q) t)
    go false q (inr n) r = r n

kept_of : (f : Op → Bool) (l : List Op) {y : Op} → In y (kept f l) → In y l × T (f y)
kept_of f [] m = absurd (no_mem m)
kept_of f (x ∷ xs) {y} m = go (f x) refl m (λ n. kept_of f xs n)
  where
    go : (b : Bool) → f x ≡ b → In y (keep_if b x (kept f xs)) → (In y (kept f xs) → In y xs × T (f y)) → In y (x ∷ xs) × T (f y)
    go true q (here p) r = (here p, subst T (sym (ap f p ∙ q)) tt)
    go true q (there n) r = (there (r n).0, (r n).1)
    go false q n r = (there (r n).0, (r n).1)

kept_pairs : (R : Op → Op → Type 0) (f : Op → Bool) (l : List Op) → Pairs R l → Pairs R (kept f l)
kept_pairs R f [] h = tt
kept_pairs R f (x ∷ xs) h = go (f x) (kept_pairs R f xs h.1)
  where
    go : (b : Bool) → Pairs R (kept f xs) → Pairs R (keep_if b x (kept f xs))
    go true r = (λ y m. h.0 y (kept_of f xs m).0, r)
    go false r = r

after_write : (m : ℕ → ℤ) (x : Op) (c : ℕ) → x.write ≡ true → x.cell ≡ c → after m x c ≡ x.value
after_write m x c w e = rw (w, eq-eqb x.cell c e)

after_read : (m : ℕ → ℤ) (x : Op) (c : ℕ) → x.write ≡ false → after m x c ≡ m c
after_read m x c w = rw w

not_both : (a b : Op) → a ≡ b → a.write ≡ true → b.write ≡ false → ⊥
not_both a b e p q = true≢false (sym p ∙ (ap (λ (o : Op). o.write) e ∙ q))

-- ---- from tags to an order: by tag, the write first, then by start

late_most : (b : Bool) → late b ≤ 1
late_most true = omega arith
late_most false = omega arith

-- ---- from an order to tags: the tag is the number of writes placed so far

-- whether an operation of l has the number n
abbrev has : List Op → ℕ → Bool
has [] n = false
has (x ∷ xs) n = cond (eqb x.number n) true (has xs n)

-- one more after a write
abbrev count : Bool → ℕ → ℕ
count true t = t + 1
count false t = t

-- how many writes stand in l up to the operation with number n, and t more
abbrev placed : ℕ → List Op → ℕ → ℕ
placed t [] n = t
placed t (x ∷ xs) n = cond (eqb x.number n) (count x.write t) (placed (count x.write t) xs n)

has_in : (l : List Op) {x : Op} → In x l → T (has l x.number)
has_in [] m = absurd (no_mem m)
has_in (z ∷ zs) {x} m = go (eqb z.number x.number) refl (mem_cons m) (λ n. has_in zs n)
  where
    go : (b : Bool) → eqb z.number x.number ≡ b → (x ≡ z) ⊎ In x zs → (In x zs → T (has zs x.number)) → T (cond b true (has zs x.number))
    go true q e f = tt
    go false q (inl e) f = absurd (eqb-false z.number x.number q (ap (λ (o : Op). o.number) (sym e)))
    go false q (inr n) f = f n

has_of : (l : List Op) (n : ℕ) → T (has l n) → (x : Op) × In x l × (x.number ≡ n)
has_of [] n t = absurd t
has_of (z ∷ zs) n t = go (eqb z.number n) refl t (λ u. has_of zs n u)
  where
    go : (b : Bool) → eqb z.number n ≡ b → T (cond b true (has zs n)) → (T (has zs n) → (x : Op) × In x zs × (x.number ≡ n)) → (x : Op) × In x (z ∷ zs) × (x.number ≡ n)
    go true q u f = (z, here refl, eqb-true z.number n q)
    go false q u f = let (x, m, e) = f u in (x, there m, e)

placed_head : (t : ℕ) (x y : Op) (xs : List Op) → y ≡ x → placed t (x ∷ xs) y.number ≡ count x.write t
placed_head t x y xs e = rw (eq-eqb x.number y.number (ap (λ (o : Op). o.number) (sym e)))

placed_tail : (t : ℕ) (x y : Op) (xs : List Op) → x.number ≢ y.number → placed t (x ∷ xs) y.number ≡ placed (count x.write t) xs y.number
placed_tail t x y xs e = rw (ne_eqb x.number y.number e)

count_le : (b : Bool) (t : ℕ) → t ≤ count b t
count_le true t = omega arith
count_le false t = omega arith

placed_le : (t : ℕ) (l : List Op) (n : ℕ) → t ≤ placed t l n
placed_le t [] n = omega arith
placed_le t (x ∷ xs) n = go (eqb x.number n) (placed_le (count x.write t) xs n)
  where
    go : (b : Bool) → count x.write t ≤ placed (count x.write t) xs n → t ≤ cond b (count x.write t) (placed (count x.write t) xs n)
    go true q = count_le x.write t
    go false q = omega (arith, count_le x.write t)

count_write : (b : Bool) (t : ℕ) → b ≡ true → count b t ≡ t + 1
count_write b t e = rw e

placed_more : (t : ℕ) (l : List Op) → Pairs (λ x y. x.number ≢ y.number) l → {x : Op} → In x l → x.write ≡ true → t < placed t l x.number
placed_more t [] p m w = absurd (no_mem m)
placed_more t (z ∷ zs) p {x} (here e) w = omega (arith, placed_head t z x zs e, count_write z.write t (ap (λ (o : Op). o.write) (sym e) ∙ w))
placed_more t (z ∷ zs) p {x} (there m) w =
    omega (arith, placed_tail t z x zs (p.0 x m), placed_more (count z.write t) zs p.1 m w, count_le z.write t)

-- writes have tags of their own
placed_apart : (t : ℕ) (l : List Op) → Pairs (λ x y. x.number ≢ y.number) l → {x y : Op} → In x l → In y l → x.write ≡ true → y.write ≡ true
    → placed t l x.number ≡ placed t l y.number → x ≡ y
placed_apart t [] p m n u w e = absurd (no_mem m)
placed_apart t (z ∷ zs) p (here a) (here b) u w e = a ∙ sym b
placed_apart t (z ∷ zs) p {x} {y} (here a) (there n) u w e =
    absurd (omega (arith, placed_head t z x zs a, placed_tail t z y zs (p.0 y n), placed_more (count z.write t) zs p.1 n w))
placed_apart t (z ∷ zs) p {x} {y} (there m) (here b) u w e =
    absurd (omega (arith, placed_head t z y zs b, placed_tail t z x zs (p.0 x m), placed_more (count z.write t) zs p.1 m u))
placed_apart t (z ∷ zs) p {x} {y} (there m) (there n) u w e =
    placed_apart (count z.write t) zs p.1 m n u w (sym (placed_tail t z x zs (p.0 x m)) ∙ (e ∙ placed_tail t z y zs (p.0 y n)))

-- x is before y, so x stands first and the tag doesn't fall
placed_rises : (t : ℕ) (l : List Op) → Pairs (λ x y. x.number ≢ y.number) l → Pairs (λ x y. ¬ Before y x) l → ((x : Op) → In x l → T x.over → x.start ≤ x.stop)
    → {x y : Op} → In x l → In y l → Before x y
    → (placed t l x.number ≤ placed t l y.number) × (y.write ≡ true → placed t l x.number < placed t l y.number)
placed_rises t [] p r s m n b = absurd (no_mem m)
placed_rises t (z ∷ zs) p r s {x} {y} (here e) (here f) b =
    absurd (let w = ap (λ (o : Op). o.start) (f ∙ sym e) in omega (arith, b.1, s x (here e) b.0))
placed_rises t (z ∷ zs) p r s {x} {y} (here e) (there n) b = (
  omega (arith, placed_head t z x zs e, placed_tail t z y zs (p.0 y n), placed_le (count z.write t) zs y.number),
  λ w. omega (arith, placed_head t z x zs e, placed_tail t z y zs (p.0 y n), placed_more (count z.write t) zs p.1 n w),
)
placed_rises t (z ∷ zs) p r s {x} {y} (there m) (here f) b = absurd (r.0 x m (subst (Before x) f b))
placed_rises t (z ∷ zs) p r s {x} {y} (there m) (there n) b =
    let k = placed_rises (count z.write t) zs p.1 r.1 (λ o i. s o (there i)) m n b in (
      omega (arith, k.0, placed_tail t z x zs (p.0 x m), placed_tail t z y zs (p.0 y n)),
      λ w. omega (arith, k.1 w, placed_tail t z x zs (p.0 x m), placed_tail t z y zs (p.0 y n)),
    )

-- a read gives what the cell held at first, or what was written last
abbrev Source : ℕ → (ℕ → ℤ) → ℕ → List Op → Op → Type 0
Source c m t l x =
    ((placed t l x.number ≡ t) × (x.value ≡ m c))
    ⊎ ((w : Op) × In w l × (w.write ≡ true) × (placed t l w.number ≡ placed t l x.number) × (w.value ≡ x.value))

placed_reads : (c : ℕ) (m : ℕ → ℤ) (t : ℕ) (l : List Op) → Pairs (λ x y. x.number ≢ y.number) l → ((x : Op) → In x l → x.cell ≡ c) → Reads m l
    → {x : Op} → In x l → x.write ≡ false → Source c m t l x
placed_reads c m t [] p cells r i w = absurd (no_mem i)
placed_reads c m t (z ∷ zs) p cells r {x} (here e) w =
    let no = ap (λ (o : Op). o.write) (sym e) ∙ w in
    inl (
      placed_head t z x zs e ∙ ap (λ b. count b t) no,
      ap (λ (o : Op). o.value) e ∙ (r.0 no ∙ ap m (cells z (here refl))),
    )
placed_reads c m t (z ∷ zs) p cells r {x} (there i) w =
    go z.write refl (placed_reads c (after m z) (count z.write t) zs p.1 (λ o j. cells o (there j)) r.1 i w)
  where
    tail : placed t (z ∷ zs) x.number ≡ placed (count z.write t) zs x.number
    tail = placed_tail t z x zs (p.0 x i)

    is_c : z.cell ≡ c
    is_c = cells z (here refl)

    go : (b : Bool) → z.write ≡ b → Source c (after m z) (count z.write t) zs x → Source c m t (z ∷ zs) x
    go b q (inr (v, j, u, e, f)) = inr (v, there j, u, placed_tail t z v zs (p.0 v j) ∙ (e ∙ sym tail), f)
    go true q (inl (e, f)) = inr (z, here refl, q, placed_head t z z zs refl ∙ sym (tail ∙ e), sym (f ∙ after_write m z c q is_c))
    go false q (inl (e, f)) = inl (tail ∙ (e ∙ ap (λ b. count b t) q), f ∙ after_read m z c q)

-- ---- both ways

module _ (s : List Op) (c : ℕ) (cells : (x : Op) → In x s → x.cell ≡ c) (sound : (x : Op) → In x s → T x.over → x.start ≤ x.stop)
    (once : Pairs (λ x y. x.number ≢ y.number) s) where
  module _ (h : Tagged s) where
    -- the tag that an operation has by its number
    abbrev tag_of : Op → ℕ
    tag_of x = h.tag x.number

    -- x is an operation of s, and chosen
    abbrev Has : Op → Type 0
    Has x = Chosen s h.chosen x

    -- one stands before another: by tag, the write first, then by start; where these are equal, their numbers differ
    abbrev Then : Op → Op → Type 0
    Then = First (rank h.tag) (First start_of Differ)

    -- the chosen operations, as they stand in s
    abbrev these : List Op
    these = kept (λ x. h.chosen x.number) s

    -- the chosen operations in the order that tags give
    abbrev order : List Op
    order = by_tag h.chosen h.tag s

    order_of_lem : {x : Op} → In x order → Has x
    order_of_lem m = kept_of (λ x. h.chosen x.number) s (sort_of start_of these (sort_of (rank h.tag) (sort start_of these) m))

    order_in : {x : Op} → Has x → In x order
    order_in m = sort_in (rank h.tag) (sort start_of these) (sort_in start_of these (kept_in (λ x. h.chosen x.number) s m.0 m.1))

    sorted : Pairs Then order
    sorted = sort_pairs (rank h.tag) (First start_of Differ) (sort start_of these) (sort_pairs start_of Differ these (kept_pairs Differ (λ x. h.chosen x.number) s once))

    then_le : (a b : Op) → Then a b → rank h.tag a ≤ rank h.tag b
    then_le a b (inl p) = omega arith
    then_le a b (inr p) = omega (arith, p.0)

    tag_le : (a b : Op) → Then a b → tag_of a ≤ tag_of b
    tag_le a b p = omega (arith, then_le a b p, late_most a.write, late_most b.write)

    start_le : (a b : Op) → First start_of Differ a b → a.start ≤ b.start
    start_le a b (inl p) = omega arith
    start_le a b (inr p) = omega (arith, p.0)

    -- of two in order the second is not before the first
    fair : (a b : Op) → Has a → Has b → Then a b → Before b a → ⊥
    fair a b m n t e = go a.write refl b.write refl t
      where
        up : tag_of b ≤ tag_of a
        up = h.rises n m e

        go : (p : Bool) → a.write ≡ p → (q : Bool) → b.write ≡ q → Then a b → ⊥
        go true x q y t = omega (arith, h.climbs n m e x, tag_le a b t)
        go false x true y t = let z = ap late x in let w = ap late y in omega (arith, up, then_le a b t)
        go false x false y (inl k) = let z = ap late x in let w = ap late y in omega (arith, up)
        go false x false y (inr k) = omega (arith, start_le a b k.1, e.1, sound b n.0 e.0)

    -- and it is another
    differ : (a b : Op) → Has a → Has b → Then a b → Differ a b
    differ a b m n t e = go t (same s once m.0 n.0 e)
      where
        go : Then a b → a ≡ b → ⊥
        go (inl p) q = let w = ap (rank h.tag) q in omega arith
        go (inr (k, inl p)) q = let w = ap start_of q in omega arith
        go (inr (k, inr p)) q = p.1 e

    -- what is left, k, where the last write had tag t and the cell holds v
    record Left (k : List Op) (t : ℕ) (v : ℤ) : Type 0 where
      of : (a : Op) → In a k → Has a
      rest : Pairs Then k
      least : (a : Op) → In a k → t ≤ tag_of a
      more : (a : Op) → In a k → a.write ≡ true → t < tag_of a
      same_tag : (a : Op) → In a k → a.write ≡ false → tag_of a ≡ t → a.value ≡ v
      comes : (a b : Op) → In a k → Has b → b.write ≡ true → tag_of b ≡ tag_of a → t < tag_of a → In b k

    gives : (x : Op) (xs : List Op) (t : ℕ) (v : ℤ) → Left (x ∷ xs) t v → x.write ≡ false → x.value ≡ v
    gives x xs t v k w = go (ℕ_discrete (tag_of x) t)
      where
        from : t < tag_of x → (b : Op) → b.write ≡ true → tag_of b ≡ tag_of x → (b ≡ x) ⊎ In b xs → ⊥
        from m b u e (inl q) = not_both b x q u w
        from m b u e (inr n) = let y = ap late w in let z = ap late u in omega (arith, then_le x b (k.rest.0 b n))

        go : Dec (tag_of x ≡ t) → x.value ≡ v
        go (yes e) = k.same_tag x (here refl) w e
        go (no e) =
            let m : t < tag_of x = omega (arith, k.least x (here refl)) in
            ⊎_elim (λ z. absurd (omega (arith, z.0)))
            (λ (b, n, u, q, y). absurd (from m b u q (mem_cons (k.comes x b (here refl) n u q m))))
            (h.reads (k.of x (here refl)) w)

    left_read : (x : Op) (xs : List Op) (t : ℕ) (v : ℤ) → Left (x ∷ xs) t v → x.write ≡ false → Left xs t v
    left_read x xs t v k w =
        record {
          of = λ a m. k.of a (there m);
          rest = k.rest.1;
          least = λ a m. k.least a (there m);
          more = λ a m. k.more a (there m);
          same_tag = λ a m. k.same_tag a (there m);
          comes = λ a b m n u e q. ⊎_elim (λ z. absurd (not_both b x z u w)) (λ z. z) (mem_cons (k.comes a b (there m) n u e q));
        }

    left_write : (x : Op) (xs : List Op) (t : ℕ) (v : ℤ) → Left (x ∷ xs) t v → x.write ≡ true → Left xs (tag_of x) x.value
    left_write x xs t v k w =
        let up = k.more x (here refl) w in
        record {
          of = λ a m. k.of a (there m);
          rest = k.rest.1;
          least = λ a m. tag_le x a (k.rest.0 a m);
          more = λ a m u. elim (ℕ_discrete (tag_of x) (tag_of a)) [
            | yes e ↦ absurd (differ x a (k.of x (here refl)) (k.of a (there m)) (k.rest.0 a m)
                (ap (λ (o : Op). o.number) (h.apart (k.of x (here refl)) (k.of a (there m)) w u e)))
            | no e ↦ omega (arith, e, tag_le x a (k.rest.0 a m))
          ];
          same_tag = λ a m u e. ⊎_elim (λ z. absurd (omega (arith, z.0)))
              (λ (b, n, y, q, z). sym z ∙ ap (λ (o : Op). o.value) (h.apart n (k.of x (here refl)) y w (q ∙ e)))
              (h.reads (k.of a (there m)) u);
          comes = λ a b m n u e q. ⊎_elim (λ z. absurd (let y = ap tag_of z in omega arith)) (λ z. z) (mem_cons (k.comes a b (there m) n u e (omega arith)));
        }

    runs : (k : List Op) (t : ℕ) (m : ℕ → ℤ) → Left k t (m c) → Reads m k
    runs [] t m k = tt
    runs (x ∷ xs) t m k = (λ w. gives x xs t (m c) k w ∙ ap m (sym is_c), go x.write refl (λ u j. runs xs u (after m x) j))
      where
        is_c : x.cell ≡ c
        is_c = cells x (k.of x (here refl)).0

        go : (b : Bool) → x.write ≡ b → ((u : ℕ) → Left xs u (after m x c) → Reads (after m x) xs) → Reads (after m x) xs
        go true e f = f (tag_of x) (subst (Left xs (tag_of x)) (sym (after_write m x c e is_c)) (left_write x xs t (m c) k e))
        go false e f = f t (subst (Left xs t) (sym (after_read m x c e)) (left_read x xs t (m c) k e))

    begin : Left order 0 (pos 0)
    begin =
        record {
          of = λ a m. order_of_lem m;
          rest = sorted;
          least = λ a m. omega arith;
          more = λ a m w. h.above (order_of_lem m) w;
          same_tag = λ a m w e. ⊎_elim (λ z. z.1) (λ (b, n, y, q, z). absurd (omega (arith, q, h.above n y))) (h.reads (order_of_lem m) w);
          comes = λ a b m n u e q. order_in n;
        }

    -- by tag they stand in a lawful order
    pub tags_order : Ordered s (by_tag h.chosen h.tag s)
    tags_order =
        record {
          of = λ m. (order_of_lem m).0;
          all = λ m t. order_in (m, h.all m t);
          ended = λ m w. h.ended (order_of_lem m) w;
          once = pairs_imp Then Differ order (λ a b m n. differ a b (order_of_lem m) (order_of_lem n)) sorted;
          respects = pairs_imp Then (λ x y. ¬ Before y x) order (λ a b m n. fair a b (order_of_lem m) (order_of_lem n)) sorted;
          reads = runs order 0 (λ k. pos 0) begin;
        }

    pub tags_lawful : Lawful s
    tags_lawful = (map (λ (x : Op). x.number) order, (order, refl, tags_order))

  module _ (l : List Op) (o : Ordered s l) where
    -- what is of s and has a number of l stands in l
    stands : {x : Op} → Chosen s (has l) x → In x l
    stands {x} m = let (y, n, e) = has_of l x.number m.1 in subst (λ (a : Op). In a l) (same s once (o.of n) m.0 e) n

    fits : (x : Op) → In x l → T x.over → x.start ≤ x.stop
    fits x m = sound x (o.of m)

    order_tags : Tagged s
    order_tags =
        record {
          chosen = has l;
          tag = placed 0 l;
          all = λ m t. has_in l (o.all m t);
          ended = λ m w. o.ended (stands m) w;
          above = λ m w. placed_more 0 l o.once (stands m) w;
          apart = λ m n u w e. placed_apart 0 l o.once (stands m) (stands n) u w e;
          rises = λ m n b. (placed_rises 0 l o.once o.respects fits (stands m) (stands n) b).0;
          climbs = λ m n b w. (placed_rises 0 l o.once o.respects fits (stands m) (stands n) b).1 w;
          reads = λ m w. ⊎_elim inl (λ (v, n, u, e, f). inr (v, (o.of n, has_in l n), u, e, f))
              (placed_reads c (λ k. pos 0) 0 l o.once (λ x n. cells x (o.of n)) o.reads (stands m) w);
        }

  -- the tag theorem
  pub tags : Lawful s ↔ Tagged s
  tags = (λ (order, (l, e, o)). order_tags l o, λ h. tags_lawful h)
