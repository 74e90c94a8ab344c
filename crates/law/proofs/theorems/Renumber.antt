-- Other numbers for the entries, in the same order: operations are lawful with them exactly when they are without.
use Rattle.std.specs.Prelude.{◌≡◌, refl, ◌≢◌, ◌↔◌, Bool, true, false, cond, List, [], ◌∷◌, map, ℕ, ◌<◌, T, ℤ, pos}
use Rattle.std.proofs.Common.{sym, ap, ⊎_elim, arith}
use mathlib.Core.List.Memᴰ.{cases_cons as mem_cons}
use mathlib.Core.List.Memᴰ.{cast as mem_cast}
use mathlib.Core.List.Memᴰ.{head as here}
use mathlib.Core.List.Memᴰ.{not-nil as no_mem}
use mathlib.Core.List.Memᴰ.{tail as there}
use mathlib.Core.List.Memᴰ.{map as mem_map}
use mathlib.Core.List.Memᴰ.{of_map as mem_of_map}
use Rattle.std.proofs.Math.Decide.{dec_lt}
use Rattle.law.specs.Operation.{Op}
use Rattle.law.specs.Order.{In, Before, after, Reads, Ordered, Lawful}
use Rattle.law.specs.laws.Lists.{pairs_imp, pairs_map, map_pairs}
use Rattle.law.proofs.theorems.Locality.{lawful_by, order_of, orderly}
use Rattle.law.specs.CellPart.{renumbered, Rises}

module _ (f : ℕ → ℕ) (up : Rises f) where
  pub rises_back : (i j : ℕ) → f i < f j → i < j
  rises_back i j h = go (dec_lt i j) (dec_lt j i)
    where
      go : Dec (i < j) → Dec (j < i) → i < j
      go (yes a) b = a
      go (no a) (yes b) = absurd (omega (arith, up j i b))
      go (no a) (no b) = absurd (let e : i ≡ j = omega (arith, a, b) in let g = ap f e in omega arith)

  pub rises_one : (i j : ℕ) → f i ≡ f j → i ≡ j
  rises_one i j e = go (dec_lt i j) (dec_lt j i)
    where
      go : Dec (i < j) → Dec (j < i) → i ≡ j
      go (yes a) b = absurd (omega (arith, up i j a))
      go (no a) (yes b) = absurd (omega (arith, up j i b))
      go (no a) (no b) = omega (arith, a, b)

  -- different operations stay different
  renumbered_one : (x y : Op) → renumbered f x ≡ renumbered f y → x ≡ y
  renumbered_one x y e =
      let number = rises_one x.number y.number (ap (λ (o : Op). o.number) e) in
      let start = rises_one x.start y.start (ap (λ (o : Op). o.start) e) in
      let over : x.over ≡ y.over = ap (λ (o : Op). o.over) e in
      let stop = ended x.over y.over over (ap (λ (o : Op). o.stop) e) in
      λ i. record {
        number = number i;
        client = (e i).client;
        cell = (e i).cell;
        write = (e i).write;
        value = (e i).value;
        start = start i;
        over = over i;
        stop = stop i;
      }
    where
      ended : (s t : Bool) → s ≡ t → cond s (f x.stop) x.stop ≡ cond t (f y.stop) y.stop → x.stop ≡ y.stop
      ended true true p q = rises_one x.stop y.stop q
      ended false false p q = q
      ended true false p q = absurd (let z : ◌≡◌ {A = ℕ} 0 1 = cc in omega arith)
      ended false true p q = absurd (let z : ◌≡◌ {A = ℕ} 0 1 = cc in omega arith)

  -- before is kept both ways
  before_there : (x y : Op) → Before x y → Before (renumbered f x) (renumbered f y)
  before_there x y b = (b.0, go x.over b.0)
    where
      go : (t : Bool) → T t → cond t (f x.stop) x.stop < f y.start
      go true z = up x.stop y.start b.1
      go false z = absurd z

  before_back : (x y : Op) → Before (renumbered f x) (renumbered f y) → Before x y
  before_back x y b = (b.0, go x.over b.0 b.1)
    where
      go : (t : Bool) → T t → cond t (f x.stop) x.stop < f y.start → x.stop < y.start
      go true z h = rises_back x.stop y.start h
      go false z h = absurd z

  reads_there : (m : ℕ → ℤ) (l : List Op) → Reads m l → Reads m (map (renumbered f) l)
  reads_there m [] h = tt
  reads_there m (x ∷ xs) h = (h.0, reads_there (after m x) xs h.1)

  reads_back : (m : ℕ → ℤ) (l : List Op) → Reads m (map (renumbered f) l) → Reads m l
  reads_back m [] h = tt
  reads_back m (x ∷ xs) h = (h.0, reads_back (after m x) xs h.1)

  -- an order of the operations is one of the renumbered
  ordered_there : (s l : List Op) → Ordered s l → Ordered (map (renumbered f) s) (map (renumbered f) l)
  ordered_there s l o =
      record {
        of = λ m. let w = mem_of_map (renumbered f) l m in mem_cast (sym w.2) (mem_map (renumbered f) (o.of w.1));
        all = λ m t. let w = mem_of_map (renumbered f) s m in
            mem_cast (sym w.2) (mem_map (renumbered f) (o.all w.1 (rw (← w.2) at t)));
        ended = λ m e. let w = mem_of_map (renumbered f) l m in rw (← w.2) (o.ended w.1 (rw (← w.2) at e));
        once = pairs_map (renumbered f) (λ x y. x.number ≢ y.number) l
            (pairs_imp (λ x y. x.number ≢ y.number) (λ x y. f x.number ≢ f y.number) l
            (λ x y m r h e. h (rises_one x.number y.number e)) o.once);
        respects = pairs_map (renumbered f) (λ x y. ¬ Before y x) l
            (pairs_imp (λ x y. ¬ Before y x) (λ x y. ¬ Before (renumbered f y) (renumbered f x)) l
            (λ x y m r h b. h (before_back y x b)) o.respects);
        reads = reads_there (λ c. pos 0) l o.reads;
      }

  -- and the other way
  ordered_back : (s l : List Op) → ((x : Op) → In x l → In x s) → Ordered (map (renumbered f) s) (map (renumbered f) l) → Ordered s l
  ordered_back s l of o =
      record {
        of = λ {x} m. of x m;
        all = λ {x} m t.
            let w = mem_of_map (renumbered f) l (o.all (mem_map (renumbered f) m) t) in
            mem_cast (sym (renumbered_one w.0 x w.2)) w.1;
        ended = λ m e. o.ended (mem_map (renumbered f) m) e;
        once = pairs_imp (λ x y. f x.number ≢ f y.number) (λ x y. x.number ≢ y.number) l
            (λ x y m r h e. h (ap f e)) (map_pairs (renumbered f) (λ x y. x.number ≢ y.number) l o.once);
        respects = pairs_imp (λ x y. ¬ Before (renumbered f y) (renumbered f x)) (λ x y. ¬ Before y x) l
            (λ x y m r h b. h (before_there y x b)) (map_pairs (renumbered f) (λ x y. ¬ Before y x) l o.respects);
        reads = reads_back (λ c. pos 0) l o.reads;
      }

  -- a list of renumbered operations of s is a list of operations of s, renumbered
  from_renumbered : (s k : List Op) → ((x : Op) → In x k → In x (map (renumbered f) s))
      → (l : List Op) × ((map (renumbered f) l ≡ k) × ((x : Op) → In x l → In x s))
  from_renumbered s [] of = ([], (refl, λ x m. absurd (no_mem m)))
  from_renumbered s (x ∷ xs) of =
      let w = mem_of_map (renumbered f) s (of x (here refl)) in
      let r = from_renumbered s xs (λ y m. of y (there m)) in
      (w.0 ∷ r.0, (cc, λ y m. ⊎_elim (λ e. mem_cast e w.1) (λ n. r.1.1 y n) (mem_cons m)))

  pub renumber : (s : List Op) → Lawful (map (renumbered f) s) ↔ Lawful s
  renumber s = (
    λ h.
        let w = from_renumbered s (order_of h) (λ x m. (orderly h).of m) in
        lawful_by w.0 (ordered_back s w.0 w.1.1 (rw w.1.0 (orderly h))),
    λ h. lawful_by (map (renumbered f) (order_of h)) (ordered_there s (order_of h) (orderly h)),
  )
