-- Locality: operations have a lawful order exactly when those of each cell have one, whatever their times are.
-- From a cell's order each operation gets a point: the greatest start up to it. It lies between start and stop, and points don't fall
-- along the order. The operations of all cells, sorted by their points, stand in a lawful order: an operation before another has the
-- smaller point, and only operations of different cells change places.
use Rattle.std.specs.Prelude.{◌≡◌, refl, ◌≢◌, ◌↔◌, Bool, true, false, List, [], ◌∷◌, ◌++◌, map, ℕ, zero, suc, ◌≤◌, ◌<◌, max, T, eqb, leb, ℤ, pos}
use Rattle.std.proofs.Common.{sym, ap, ◌∙◌, ⊎_elim, arith, not-suc-le-zero, eqb-true, leb-false}
use mathlib.Core.List.Memᴰ.{cast as mem_cast}
use mathlib.Core.List.Memᴰ.{head as here}
use mathlib.Core.List.Memᴰ.{not-nil as no_mem}
use mathlib.Core.List.Memᴰ.{tail as there}
use Rattle.std.proofs.lemmas.List.{map-append}
use mathlib.Core.List.Memᴰ.{append_cases as mem_append}
use mathlib.Core.List.Memᴰ.{append_left as mem_left}
use mathlib.Core.List.Memᴰ.{append_right as mem_right}
use mathlib.Core.List.Memᴰ.{map as mem_map}
use mathlib.Core.List.Memᴰ.{of_map as mem_of_map}
use Rattle.std.proofs.lemmas.Bool.{eqb-false}
use Rattle.law.specs.Operation.{Op}
use Rattle.law.specs.Order.{In, Pairs, Before, Ordered, Lawful}
use Rattle.law.specs.Part.{of_cell}
use Rattle.law.specs.laws.Sort.{place, insert, sort, sort_of, sort_in, First, sort_pairs}
use Rattle.law.specs.laws.Lists.{pairs_imp, pairs_append, pairs_map, map_pairs, sort_either, of_cell_in, of_cell_of, of_cell_pairs}
use Rattle.law.specs.laws.Reads.{now, ReadsAt, reads_at, at_reads, of_cell_reads, none_reads, reads_left, reads_right, swap_reads}

-- ---- lawful, and an order of the operations themselves

pub lawful_by : {s : List Op} (l : List Op) → Ordered s l → Lawful s
lawful_by l o = (map (λ (x : Op). x.number) l, (l, refl, o))

-- the operations in the lawful order that s has
abbrev pub order_of : {s : List Op} → Lawful s → List Op
order_of h = h.1.0

pub orderly : {s : List Op} (h : Lawful s) → Ordered s (order_of h)
orderly h = h.1.2

-- ---- from all operations to a cell's

pub of_cell_ordered : (c : ℕ) (s l : List Op) → Ordered s l → Ordered (of_cell c s) (of_cell c l)
of_cell_ordered c s l o =
    record {
      of = λ m. let k = of_cell_of c l m in of_cell_in c s (o.of k.0) k.1;
      all = λ m t. let k = of_cell_of c s m in of_cell_in c l (o.all k.0 t) k.1;
      ended = λ m w. o.ended (of_cell_of c l m).0 w;
      once = of_cell_pairs (λ x y. x.number ≢ y.number) c l o.once;
      respects = of_cell_pairs (λ x y. ¬ Before y x) c l o.respects;
      reads = at_reads (λ k. pos 0) (of_cell c l) cells;
    }
  where
    cells : (k : ℕ) → ReadsAt k (pos 0) (of_cell c l)
    cells k = go (eqb c k) refl
      where
        go : (t : Bool) → eqb c k ≡ t → ReadsAt k (pos 0) (of_cell c l)
        go true q = let e : c ≡ k = eqb-true c k q in rw (← e) (of_cell_reads c (pos 0) l (reads_at (λ i. pos 0) l o.reads c))
        go false q = none_reads k (pos 0) (of_cell c l) (λ y m e. eqb-false c k q (sym (of_cell_of c l m).1 ∙ e))

-- ---- points

-- an operation with its point
abbrev Stamped : Type 0
Stamped = ℕ × Op

-- the time at which the operation is put in order
abbrev point : Stamped → ℕ
point z = z.0

-- the operation without its point
abbrev op : Stamped → Op
op z = z.1

-- the operations of a list without their points
abbrev ops : List Stamped → List Op
ops l = map op l

-- each operation with the latest start so far, at least p
abbrev stamp : ℕ → List Op → List Stamped
stamp p [] = []
stamp p (x ∷ xs) = (max p x.start, x) ∷ stamp (max p x.start) xs

-- the point lies in the operation
abbrev Good : Stamped → Type 0
Good z = (z.1.start ≤ z.0) × (T z.1.over → z.0 ≤ z.1.stop)

-- an operation doesn't end before it starts
abbrev pub Sound : Op → Type 0
Sound x = T x.over → x.start ≤ x.stop

ops_stamp : (p : ℕ) (l : List Op) → ops (stamp p l) ≡ l
ops_stamp p [] = refl
ops_stamp p (x ∷ xs) = ap (λ (r : List Op). x ∷ r) (ops_stamp (max p x.start) xs)

stamp_late : (p : ℕ) (l : List Op) {z : Stamped} → In z (stamp p l) → p ≤ z.0
stamp_late p [] m = absurd (no_mem m)
stamp_late p (x ∷ xs) (here e) = let h = ap (λ (w : Stamped). w.0) e in omega arith
stamp_late p (x ∷ xs) (there m) = let h = stamp_late (max p x.start) xs m in omega arith

-- the second has no smaller point than the first
abbrev Up : Stamped → Stamped → Type 0
Up a b = a.0 ≤ b.0

stamp_up : (p : ℕ) (l : List Op) → Pairs Up (stamp p l)
stamp_up p [] = tt
stamp_up p (x ∷ xs) = (λ z m. stamp_late (max p x.start) xs m, stamp_up (max p x.start) xs)

stamp_good : (p : ℕ) (l : List Op) → ((x : Op) → In x l → T x.over → p ≤ x.stop) → ((x : Op) → In x l → Sound x)
    → Pairs (λ x y. ¬ Before y x) l → (z : Stamped) → In z (stamp p l) → Good z
stamp_good p [] low sound resp z m = absurd (no_mem m)
stamp_good p (x ∷ xs) low sound resp z (here e) = rw e (omega arith, λ t. omega (arith, low x (here refl) t, sound x (here refl) t))
stamp_good p (x ∷ xs) low sound resp z (there m) = stamp_good (max p x.start) xs later (λ y n. sound y (there n)) resp.1 z m
  where
    later : (y : Op) → In y xs → T y.over → max p x.start ≤ y.stop
    later y n t = let b : ¬ (y.stop < x.start) = λ k. resp.0 y n (t, k) in omega (arith, low y (there n) t)

-- ---- sorting by points

sort_up : (l : List Stamped) → Pairs Up (sort point l)
sort_up l =
    pairs_imp (First point (λ a b. Unit {0})) Up (sort point l) (λ a b m n h. ⊎_elim (λ q. omega arith) (λ q. omega (arith, q.0)) h)
    (sort_pairs point (λ a b. Unit {0}) l (any l))
  where
    any : (l : List Stamped) → Pairs (λ a b. Unit {0}) l
    any [] = tt
    any (x ∷ xs) = (λ y m. tt, any xs)

-- points that don't fall along a cell's operations: sorting keeps their order, and so their reads
insert_reads : (c : ℕ) (v : ℤ) (z : Stamped) (l : List Stamped) → ((y : Stamped) → In y l → (op z).cell ≡ (op y).cell → z.0 ≤ y.0)
    → ReadsAt c v (ops (z ∷ l)) → ReadsAt c v (ops (insert point z l))
insert_reads c v z [] up h = h
insert_reads c v z (w ∷ ws) up h = go (leb z.0 w.0) refl (λ u k. insert_reads c u z ws (λ y m. up y (there m)) k)
  where
    go : (t : Bool) → leb z.0 w.0 ≡ t → ((u : ℤ) → ReadsAt c u (ops (z ∷ ws)) → ReadsAt c u (ops (insert point z ws)))
        → ReadsAt c v (ops (place point t z w ws (insert point z ws)))
    go true q f = h
    go false q f =
        let d : (op z).cell ≢ (op w).cell = λ e. omega (arith, up w (here refl) e, leb-false z.0 w.0 q) in
        let k = swap_reads c v (op z) (op w) (ops ws) d h in
        (k.0, f (now c v (op w)) k.1)

sort_reads : (c : ℕ) (v : ℤ) (l : List Stamped) → Pairs (λ a b. (op a).cell ≡ (op b).cell → a.0 ≤ b.0) l → ReadsAt c v (ops l)
    → ReadsAt c v (ops (sort point l))
sort_reads c v [] up h = tt
sort_reads c v (z ∷ zs) up h =
    insert_reads c v z (sort point zs) (λ y m. up.0 y (sort_of point zs m)) (h.0, sort_reads c (now c v (op z)) zs up.1 h.1)

-- ---- the cells' orders, one after another

-- the lists of all cells below n as one, the highest cell first
abbrev joined : (ℕ → List Stamped) → ℕ → List Stamped
joined f zero = []
joined f (suc n) = f n ++ joined f n

joined_of : (f : ℕ → List Stamped) (n : ℕ) {y : Stamped} → In y (joined f n) → (k : ℕ) × (k < n) × In y (f k)
joined_of f zero m = absurd (no_mem m)
joined_of f (suc n) m = ⊎_elim (λ r. (n, omega arith, r)) (λ r. let w = joined_of f n r in (w.0, omega (arith, w.1), w.2)) (mem_append (f n) m)

joined_in : (f : ℕ → List Stamped) (n k : ℕ) {y : Stamped} → k < n → In y (f k) → In y (joined f n)
joined_in f zero k h m = absurd (not-suc-le-zero h)
joined_in f (suc n) k {y} h m = go (eqb k n) refl (λ l. joined_in f n k l m)
  where
    go : (t : Bool) → eqb k n ≡ t → (k < n → In y (joined f n)) → In y (f n ++ joined f n)
    go true q g = mem_left (joined f n) (let e : k ≡ n = eqb-true k n q in rw e at m)
    go false q g = mem_right (f n) (g (let d : k ≢ n = eqb-false k n q in omega arith))

joined_pairs : (R : Stamped → Stamped → Type 0) (f : ℕ → List Stamped) (n : ℕ) → ((k : ℕ) → Pairs R (f k))
    → ((j k : ℕ) (a b : Stamped) → j < k → In a (f k) → In b (f j) → R a b) → Pairs R (joined f n)
joined_pairs R f zero each across = tt
joined_pairs R f (suc n) each across =
    pairs_append R (f n) (joined f n) (each n) (joined_pairs R f n each across)
    (λ a b m r. let w = joined_of f n r in across w.0 n a b w.1 m w.2)

joined_reads : (f : ℕ → List Stamped) → ((k : ℕ) (y : Stamped) → In y (f k) → (op y).cell ≡ k) → ((k : ℕ) → ReadsAt k (pos 0) (ops (f k)))
    → (n c : ℕ) → ReadsAt c (pos 0) (ops (joined f n))
joined_reads f own each zero c = tt
joined_reads f own each (suc n) c = rw (map-append op (f n) (joined f n)) (go (eqb n c) refl (joined_reads f own each n c))
  where
    go : (t : Bool) → eqb n c ≡ t → ReadsAt c (pos 0) (ops (joined f n)) → ReadsAt c (pos 0) (ops (f n) ++ ops (joined f n))
    go true q r =
        let e : n ≡ c = eqb-true n c q in
        rw (← e)
        (reads_left n (pos 0) (ops (f n)) (ops (joined f n)) (each n) (λ y m e.
        let z = mem_of_map op (joined f n) m in
        let w = joined_of f n z.1 in
        let d : w.0 ≡ n = sym (own w.0 z.0 w.2) ∙ (ap (λ (o : Op). o.cell) z.2 ∙ e) in
        omega (arith, w.1)))
    go false q r =
        reads_right c (pos 0) (ops (f n)) (ops (joined f n)) (λ y m e.
        let z = mem_of_map op (f n) m in
        eqb-false n c q (sym (own n z.0 z.1) ∙ (ap (λ (o : Op). o.cell) z.2 ∙ e))) r

-- ---- from each cell's operations to all

module _ (s : List Op) (n : ℕ) (cells : (x : Op) → In x s → x.cell < n) (sound : (x : Op) → In x s → Sound x)
    (apart : (x y : Op) → In x s → In y s → x.number ≡ y.number → x ≡ y) (f : (c : ℕ) → Lawful (of_cell c s)) where
  -- the operations of cell k in their lawful order, with their points
  abbrev g : ℕ → List Stamped
  g k = stamp 0 (order_of (f k))

  -- the operations of all cells with their points, not yet sorted
  abbrev whole : List Stamped
  whole = joined g n

  in_cell : (k : ℕ) (y : Stamped) → In y (g k) → In (op y) (order_of (f k))
  in_cell k y m = rw (ops_stamp 0 (order_of (f k))) at (mem_map op m)

  in_s : (k : ℕ) (y : Stamped) → In y (g k) → In (op y) s × ((op y).cell ≡ k)
  in_s k y m = of_cell_of k s ((orderly (f k)).of (in_cell k y m))

  good : (k : ℕ) (y : Stamped) → In y (g k) → Good y
  good k y m =
      stamp_good 0 (order_of (f k)) (λ x i t. omega arith) (λ x i. sound x (of_cell_of k s ((orderly (f k)).of i)).0) (orderly (f k)).respects y m

  origin : {x : Op} → In x (ops (sort point whole)) → (y : Stamped) × (k : ℕ) × In y (g k) × (op y ≡ x)
  origin m =
      let w = mem_of_map op (sort point whole) m in
      let c = joined_of g n (sort_of point whole w.1) in
      (w.0, c.0, c.2, w.2)

  differ : (j k : ℕ) (a b : Stamped) → j < k → In a (g k) → In b (g j) → (op a).cell ≡ (op b).cell → ⊥
  differ j k a b l m r e = let z : k ≡ j = sym (in_s k a m).1 ∙ e ∙ (in_s j b r).1 in omega arith

  kept : {x : Op} → In x s → T x.over → In x (ops (sort point whole))
  kept {x} m t =
      let i : In x (order_of (f x.cell)) = (orderly (f x.cell)).all (of_cell_in x.cell s m refl) t in
      let j : In x (ops (g x.cell)) = rw (ops_stamp 0 (order_of (f x.cell))) i in
      let w = mem_of_map op (g x.cell) j in
      mem_cast (sym w.2) (mem_map op (sort_in point whole (joined_in g n x.cell (cells x m) w.1)))

  answered : {x : Op} → In x (ops (sort point whole)) → x.write ≡ false → T x.over
  answered m h = let w = origin m in rw w.3 at ((orderly (f w.1)).ended (in_cell w.1 w.0 w.2) (rw w.3 h))

  distinct : Pairs (λ a b. (op a).number ≢ (op b).number) whole
  distinct =
      joined_pairs (λ a b. (op a).number ≢ (op b).number) g n
      (λ k. map_pairs op (λ x y. x.number ≢ y.number) (g k) (rw (ops_stamp 0 (order_of (f k))) (orderly (f k)).once))
      (λ j k a b l m r e. differ j k a b l m r (ap (λ (o : Op). o.cell) (apart (op a) (op b) (in_s k a m).0 (in_s j b r).0 e)))

  cellwise : Pairs (λ a b. (op a).cell ≡ (op b).cell → a.0 ≤ b.0) whole
  cellwise =
      joined_pairs (λ a b. (op a).cell ≡ (op b).cell → a.0 ≤ b.0) g n
      (λ k. pairs_imp Up (λ a b. (op a).cell ≡ (op b).cell → a.0 ≤ b.0) (g k) (λ a b m r h e. h) (stamp_up 0 (order_of (f k))))
      (λ j k a b l m r e. absurd (differ j k a b l m r e))

  all_good : (y : Stamped) → In y (sort point whole) → Good y
  all_good y m = let c = joined_of g n (sort_of point whole m) in good c.0 y c.2

  merged : Ordered s (ops (sort point whole))
  merged =
      record {
        of = λ m. let w = origin m in mem_cast (sym w.3) (in_s w.1 w.0 w.2).0;
        all = kept;
        ended = answered;
        once =
            pairs_map op (λ x y. x.number ≢ y.number) (sort point whole)
            (sort_either point (λ a b. (op a).number ≢ (op b).number) (λ a b h e. h (sym e)) whole distinct);
        respects =
            pairs_map op (λ x y. ¬ Before y x) (sort point whole)
            (pairs_imp Up (λ a b. ¬ Before (op b) (op a)) (sort point whole)
            (λ a b m r u z. omega (arith, (all_good a m).0, (all_good b r).1 z.0, z.1)) (sort_up whole));
        reads =
            at_reads (λ c. pos 0) (ops (sort point whole))
            (λ c. sort_reads c (pos 0) whole cellwise
            (joined_reads g (λ k y m. (in_s k y m).1)
            (λ k. rw (ops_stamp 0 (order_of (f k))) (reads_at (λ i. pos 0) (order_of (f k)) (orderly (f k)).reads k)) n c));
      }

-- operations are lawful exactly when those of each cell are
pub locality : (s : List Op) (n : ℕ) → ((x : Op) → In x s → x.cell < n) → ((x : Op) → In x s → (T x.over → x.start ≤ x.stop))
    → ((x y : Op) → In x s → In y s → x.number ≡ y.number → x ≡ y) → Lawful s ↔ ((c : ℕ) → Lawful (of_cell c s))
locality s n cells sound apart = (
  λ h c. lawful_by (of_cell c (order_of h)) (of_cell_ordered c s (order_of h) (orderly h)),
  λ f. lawful_by (ops (sort point (whole s n cells sound apart f))) (merged s n cells sound apart f),
)
