-- A record that shows a view's operations is lawful where these have tags: cell by cell by the tag theorem, and then all cells by locality.
use Rattle.std.specs.Prelude.{ℕ, suc, ◌+◌, ◌≤◌, ◌<◌, ◌≡◌, refl, ◌≢◌, Bool, true, false, List, [], ◌∷◌, T, leb}
use Rattle.std.proofs.Common.{sym, ap, ◌∙◌, inl, inr, ⊎_elim, arith, leb-true, le-leb}
use mathlib.Core.List.Memᴰ.{cases_cons as mem_cons}
use mathlib.Core.List.Memᴰ.{not-nil as no_mem}
use Rattle.record.specs.declared.Entry.{Entry}
use Rattle.law.specs.Operation.{Op as Operation, operations}
use Rattle.law.specs.Order.{In, Pairs, Lawful}
use Rattle.law.specs.Part.{of_cell}
use Rattle.law.specs.laws.Lists.{of_cell_in, of_cell_of, of_cell_pairs, pairs_imp}
use Rattle.law.proofs.theorems.Operations.{numbered, number_apart, stops_after}
use Rattle.law.proofs.theorems.Locality.{locality}
use Rattle.law.specs.Tags.{Gives as LawGives, Tagged as LawTagged}
use Rattle.law.proofs.theorems.TagTheorem.{tags_lawful}
use Rattle.protocol.specs.View.{Op}
use Rattle.protocol.specs.Tagged.{chosen, tag, Gives, Tagged}
use Rattle.promise.specs.Tie.{shown, Book}

-- ---- tests

is_true : (b : Bool) → T b → b ≡ true
is_true true t = refl
is_true false t = absurd t

-- ---- a bound for the cells of finitely many operations

bound : (l : List Operation) → (n : ℕ) × ((x : Operation) → In x l → x.cell < n)
bound [] = (0, λ x m. absurd (no_mem m))
bound (y ∷ l) =
    let w = bound l in
    (suc (y.cell + w.0), λ x m. ⊎_elim (λ e. rw e (omega arith)) (λ n. let h = w.1 x n in omega arith) (mem_cons m))

module _ (ops : ℕ → Op) (es : List Entry) (b : Book ops (operations es)) (t : Tagged ops) where
  -- the operations of the record
  abbrev all : List Operation
  all = operations es

  -- ---- what the record shows of an operation

  module _ (x : Operation) (m : In x all) where
    cell_is : (ops x.number).call.cell ≡ x.cell
    cell_is = sym (ap (λ (y : Operation). y.cell) (b.known x m))

    write_is : (ops x.number).call.write ≡ x.write
    write_is = sym (ap (λ (y : Operation). y.write) (b.known x m))

    start_is : (ops x.number).call.start ≡ x.start
    start_is = sym (ap (λ (y : Operation). y.start) (b.known x m))

    stop_is : (ops x.number).stop ≡ x.stop
    stop_is = sym (ap (λ (y : Operation). y.stop) (b.known x m))

    over_is : leb 3 (ops x.number).phase ≡ x.over
    over_is = sym (ap (λ (y : Operation). y.over) (b.known x m))

    ended : T x.over → 3 ≤ (ops x.number).phase
    ended o = leb-true 3 (ops x.number).phase (over_is ∙ is_true x.over o)

    over : 3 ≤ (ops x.number).phase → T x.over
    over h = rw (sym over_is ∙ le-leb 3 (ops x.number).phase h) tt

    read_value : x.write ≡ false → 3 ≤ (ops x.number).phase → x.value ≡ (ops x.number).held.value
    read_value w h = ap (λ (y : Operation). y.value) (b.known x m) ∙ rw (write_is ∙ w, le-leb 3 (ops x.number).phase h)

  -- ---- the tags of a cell's operations

  module _ (c : ℕ) where
    of : {x : Operation} → In x (of_cell c all) → In x all
    of m = (of_cell_of c all m).0

    same_cell : (x y : Operation) → In x (of_cell c all) → In y (of_cell c all) → (ops x.number).call.cell ≡ (ops y.number).call.cell
    same_cell x y m n = cell_is x (of m) ∙ ((of_cell_of c all m).1 ∙ (sym (of_cell_of c all n).1 ∙ sym (cell_is y (of n))))

    -- a chosen write of the cell stands in the record
    stands : (i : ℕ) → T (chosen (ops i)) → (ops i).call.write ≡ true → (ops i).call.cell ≡ c → In (shown i (ops i)) (of_cell c all)
    stands i k w e =
        let p : 2 ≤ (ops i).phase = leb-true 2 (ops i).phase (is_true _ (rw w at k)) in
        of_cell_in c all (b.every i (omega arith)) e

    gives : (x : Operation) → In x (of_cell c all) → x.value ≡ (ops x.number).held.value → Gives ops (ops x.number)
        → LawGives (of_cell c all) (λ n. chosen (ops n)) (λ n. tag (ops n)) x
    gives x m e (inl (z, y)) = inl (z, e ∙ y)
    gives x m e (inr (i, (k, (w, (d, (g, y)))))) =
        inr (shown i (ops i), (stands i k w (d ∙ (cell_is x (of m) ∙ (of_cell_of c all m).1)), k), w, g, rw w (y ∙ sym e))

    tagged : LawTagged (of_cell c all)
    tagged =
        record {
          chosen = λ n. chosen (ops n);
          tag = λ n. tag (ops n);
          all = λ {x} m o. t.all x.number (ended x (of m) o);
          ended = λ {x} m w. over x (of m.0) (t.ended x.number m.1 (write_is x (of m.0) ∙ w));
          above = λ {x} m w. t.above x.number m.1 (write_is x (of m.0) ∙ w);
          apart = λ {x} {y} m n w u e.
              number_apart es x y (of m.0) (of n.0)
              (t.apart x.number y.number m.1 n.1 (write_is x (of m.0) ∙ w) (write_is y (of n.0) ∙ u) (same_cell x y m.0 n.0) e);
          rises = λ {x} {y} m n h. t.rises x.number y.number m.1 n.1 (same_cell x y m.0 n.0) (before x y (of m.0) (of n.0) h);
          climbs = λ {x} {y} m n h w.
              t.climbs x.number y.number m.1 n.1 (same_cell x y m.0 n.0) (before x y (of m.0) (of n.0) h) (write_is y (of n.0) ∙ w);
          reads = λ {x} m w.
              let u = write_is x (of m.0) ∙ w in
              gives x m.0 (read_value x (of m.0) w (t.ended x.number m.1 u)) (t.reads x.number m.1 u);
        }
      where
        before : (x y : Operation) → In x all → In y all → T x.over × (x.stop < y.start)
            → (3 ≤ (ops x.number).phase) × ((ops x.number).stop < (ops y.number).call.start)
        before x y m n (o, l) = (ended x m o, omega (arith, stop_is x m, start_is y n))

  -- ---- all cells

  once : (c : ℕ) → Pairs (λ x y. x.number ≢ y.number) (of_cell c all)
  once c = of_cell_pairs _ c all (pairs_imp (λ x y. x.number < y.number) (λ x y. x.number ≢ y.number) all (λ x y m n l e. omega arith) (numbered es).rises)

  pub shown_lawful : Lawful (operations es)
  shown_lawful =
      let w = bound all in
      (locality all w.0 w.1 (stops_after es) (number_apart es)
      ).1 (λ c. tags_lawful (of_cell c all) c (λ x m. (of_cell_of c all m).1) (λ x m. stops_after es x (of c m)) (once c) (tagged c))
