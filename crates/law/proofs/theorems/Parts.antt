-- A cell's part of a record without a fault is itself a record without a fault, and its operations are the record's operations of that
-- cell, but for the numbers of the entries.
use Rattle.std.specs.Prelude.{◌≡◌, refl, ◌≢◌, Bool, true, false, cond, List, [], ◌∷◌, ◌++◌, map, ℕ, zero, suc, ◌+◌, ◌≤◌, ◌<◌, length, get_or}
use Rattle.std.proofs.Common.{sym, ap, ◌∙◌, ⊎_elim, append-nil, arith, not-suc-le-zero, le_of_suc-le-suc, length-set, eqb-true, eq-eqb, ne_eqb}
use mathlib.Core.List.Memᴰ.{not-nil as no_mem}
use Rattle.std.proofs.lemmas.Simd.{map-map}
use Rattle.std.proofs.lemmas.List.{map-append}
use Rattle.std.proofs.Math.Decide.{ℕ_discrete}
use Rattle.std.proofs.lemmas.Bool.{eqb-false}
use Rattle.record.specs.Entry.{client_limit, last_client}
use Rattle.record.specs.declared.Entry.{Entry}
use Rattle.record.specs.declared.Entry.TheVariants.{ReadAsked, WriteAsked, Told, Done}
use Rattle.record.specs.declared.Standing.{Standing}
use Rattle.record.specs.Record.{fresh, fault_after, standing_after}
use Rattle.record.specs.Legal.{Follows, Legal}
use Rattle.law.specs.Operation.{Op, asked, finished, open_of, note, notes, operations}
use Rattle.law.specs.Order.{In}
use Rattle.law.specs.Part.{moved, keep_if, part_from, part_of, of_cell}
use Rattle.law.specs.laws.Lists.{in_next, map_same, of_cell_of, of_cell_append, of_cell_map}
use Rattle.law.specs.laws.Steps.{Step, step_of, client_of, note_step, note_step_lem, ending, ending_keeps, ending_other, ending_over, kind_of, put, standing_step, standing_step_lem}
use Rattle.law.specs.laws.Steps.{MayStep, may_step, step_on, moved_step, part_step}
use Rattle.law.specs.Standing.{has}
use Rattle.law.specs.laws.Steps.Step.{asks, ends}
use Rattle.law.specs.laws.Operations.{Matches}
use Rattle.law.proofs.theorems.Operations.{none_open, still_open, has_same, has_other, tied_next, tied_fresh, fresh_none}
use Rattle.law.specs.CellPart.{renumbered, Rises, CellPart}

-- ---- places

-- n first, if the test says so, and then p
abbrev pub first_if : Bool → ℕ → (ℕ → ℕ) → ℕ → ℕ
first_if true n p zero = n
first_if true n p (suc i) = p i
first_if false n p i = p i

-- where the part's entry i stands in the record, of which es is what remains from entry n on; past the part's end, past the record's
unfoldable pub place_from : ℕ → (ℕ → ℕ) → ℕ → List Entry → ℕ → ℕ
place_from c at n [] i = n + i
place_from c at n (e ∷ es) i = first_if (step_on c at (step_of e)) n (place_from c (moved_step at (step_of e)) (suc n) es) i

place_low : (c : ℕ) (at : ℕ → ℕ) (n : ℕ) (es : List Entry) (i : ℕ) → n ≤ place_from c at n es i
unfolding place_from
place_low c at n [] i = omega arith
place_low c at n (e ∷ es) i = go (step_on c at (step_of e)) i (λ j. place_low c (moved_step at (step_of e)) (suc n) es j)
  where
    p : ℕ → ℕ
    p = place_from c (moved_step at (step_of e)) (suc n) es

    go : (t : Bool) (i : ℕ) → ((j : ℕ) → suc n ≤ p j) → n ≤ first_if t n p i
    go true zero h = omega arith
    go true (suc i) h = omega (arith, h i)
    go false i h = omega (arith, h i)

place_rises : (c : ℕ) (at : ℕ → ℕ) (n : ℕ) (es : List Entry) → Rises (place_from c at n es)
unfolding place_from
place_rises c at n [] i j l = omega arith
place_rises c at n (e ∷ es) i j l =
    go (step_on c at (step_of e)) i j l (place_rises c (moved_step at (step_of e)) (suc n) es) (place_low c (moved_step at (step_of e)) (suc n) es)
  where
    p : ℕ → ℕ
    p = place_from c (moved_step at (step_of e)) (suc n) es

    go : (t : Bool) (i j : ℕ) → i < j → Rises p → ((j : ℕ) → suc n ≤ p j) → first_if t n p i < first_if t n p j
    go true i zero l up low = absurd (not-suc-le-zero l)
    go true zero (suc j) l up low = low j
    go true (suc i) (suc j) l up low = up i j (le_of_suc-le-suc l)
    go false i j l up low = up i j l

-- ---- the part has no fault

pub part_length : (c : ℕ) (at : ℕ → ℕ) (es : List Entry) → length (part_from c at es) ≤ length es
unfolding part_from
part_length c at [] = omega arith
part_length c at (e ∷ es) = rw (part_step c at e es) (go (step_on c at (step_of e)) (part_length c (moved_step at (step_of e)) es))
  where
    go : (t : Bool) → length (part_from c (moved_step at (step_of e)) es) ≤ length es
        → length (keep_if t e (part_from c (moved_step at (step_of e)) es)) ≤ suc (length es)
    go true h = omega arith
    go false h = omega arith

-- what the part has open, where the record has st open and each client's last operation is of cell `at`: what is of cell c
record Shadow (c : ℕ) (at : ℕ → ℕ) (st part : Standing) : Type 0 where
  eight : length st.has ≡ client_limit
  same : length part.has ≡ client_limit
  own : (k : ℕ) → at k ≡ c → has part k ≡ has st k
  other : (k : ℕ) → at k ≢ c → has part k ≡ 0

moved_same : (at : ℕ → ℕ) (k cell : ℕ) → moved at k cell k ≡ cell
moved_same at k cell = rw (eq-eqb k k refl)

moved_other : (at : ℕ → ℕ) (k cell j : ℕ) → j ≢ k → moved at k cell j ≡ at j
moved_other at k cell j d = rw (ne_eqb j k d)

module _ (c : ℕ) (at : ℕ → ℕ) (st part : Standing) (h : Shadow c at st part) where
  shadow_none : (k : ℕ) → has st k ≡ 0 → has part k ≡ 0
  shadow_none k z = go (ℕ_discrete (at k) c)
    where
      go : Dec (at k ≡ c) → has part k ≡ 0
      go (yes e) = h.own k e ∙ z
      go (no d) = h.other k d

  -- both change at k
  shadow_both : (k what : ℕ) (to : ℕ → ℕ) → k ≤ last_client → to k ≡ c → ((j : ℕ) → j ≢ k → to j ≡ at j) → Shadow c to (put st k what) (put part k what)
  shadow_both k what to b e rest =
      record {
        eight = length-set st.has k what ∙ h.eight;
        same = length-set part.has k what ∙ h.same;
        own = λ j q. mine j q (ℕ_discrete j k);
        other = λ j q.
            let d : j ≢ k = λ z. q (ap to z ∙ e) in
            has_other part k what j d ∙ h.other j (λ z. q (rest j d ∙ z));
      }
    where
      mine : (j : ℕ) → to j ≡ c → Dec (j ≡ k) → has (put part k what) j ≡ has (put st k what) j
      mine j q (yes z) =
          rw z (has_same part k what (omega (arith, b, h.same)) ∙ sym (has_same st k what (omega (arith, b, h.eight))))
      mine j q (no d) = has_other part k what j d ∙ (h.own j (sym (rest j d) ∙ q) ∙ sym (has_other st k what j d))

  -- the record changes at k, and the part has nothing open there
  shadow_one : (k what : ℕ) (to : ℕ → ℕ) → to k ≢ c → has part k ≡ 0 → ((j : ℕ) → j ≢ k → to j ≡ at j) → Shadow c to (put st k what) part
  shadow_one k what to n z rest =
      record {
        eight = length-set st.has k what ∙ h.eight;
        same = h.same;
        own = λ j q. let d : j ≢ k = λ e. n (sym (ap to e) ∙ q) in h.own j (sym (rest j d) ∙ q) ∙ sym (has_other st k what j d);
        other = λ j q. theirs j q (ℕ_discrete j k);
      }
    where
      theirs : (j : ℕ) → to j ≢ c → Dec (j ≡ k) → has part j ≡ 0
      theirs j q (yes e) = rw e z
      theirs j q (no d) = h.other j (λ e. q (rest j d ∙ e))

  shadow_on : (s : Step) → MayStep st s → step_on c at s ≡ true → Shadow c (moved_step at s) (standing_step st s) (standing_step part s)
  shadow_on (asks k cell w v) may t =
      shadow_both k (kind_of w) (moved at k cell) may.0 (moved_same at k cell ∙ eqb-true cell c t) (moved_other at k cell)
  shadow_on (ends k v) may t = shadow_both k 0 at may.0 (eqb-true (at k) c t) (λ j d. refl)

  shadow_off : (s : Step) → MayStep st s → step_on c at s ≡ false → Shadow c (moved_step at s) (standing_step st s) part
  shadow_off (asks k cell w v) may t =
      shadow_one k (kind_of w) (moved at k cell) (λ e. eqb-false cell c t (sym (moved_same at k cell) ∙ e)) (shadow_none k may.2) (moved_other at k cell)
  shadow_off (ends k v) may t = shadow_one k 0 at (eqb-false (at k) c t) (h.other k (eqb-false (at k) c t)) (λ j d. refl)

  -- an entry of the cell is no fault of the part
  shadow_has : (s : Step) → MayStep st s → step_on c at s ≡ true → has part (client_of s) ≡ has st (client_of s)
  shadow_has (asks k cell w v) may t = shadow_none k may.2 ∙ sym may.2
  shadow_has (ends k v) may t = h.own k (eqb-true (at k) c t)

fault_same : (st part : Standing) (e : Entry) → has part (client_of (step_of e)) ≡ has st (client_of (step_of e)) → fault_after part e ≡ fault_after st e
unfolding fault_after
fault_same st part (ReadAsked client cell) q = rw q
fault_same st part (WriteAsked client cell value) q = rw q
fault_same st part (Told client value) q = rw q
fault_same st part (Done client) q = rw q

part_follows : (c : ℕ) (at : ℕ → ℕ) (st part : Standing) (es : List Entry) → Shadow c at st part → Follows st es → Follows part (part_from c at es)
unfolding part_from
part_follows c at st part [] h f = tt
part_follows c at st part (e ∷ es) h f =
    rw (part_step c at e es) (go (step_on c at (step_of e)) refl (λ next g. part_follows c (moved_step at (step_of e)) (standing_after st e) next es g f.2))
  where
    may : MayStep st (step_of e)
    may = may_step st e f.0 f.1

    go : (t : Bool) → step_on c at (step_of e) ≡ t
        → ((next : Standing) → Shadow c (moved_step at (step_of e)) (standing_after st e) next → Follows next (part_from c (moved_step at (step_of e)) es))
        → Follows part (keep_if t e (part_from c (moved_step at (step_of e)) es))
    go true q r = (
      f.0,
      fault_same st part e (shadow_has c at st part h (step_of e) may q) ∙ f.1,
      r (standing_after part e) (rw (standing_step_lem st e, standing_step_lem part e) (shadow_on c at st part h (step_of e) may q)),
    )
    go false q r = r part (rw (standing_step_lem st e) (shadow_off c at st part h (step_of e) may q))

-- ---- the part's operations

-- each unfinished operation is of the cell where its client is
abbrev AtCell : (ℕ → ℕ) → List Op → Type 0
AtCell at ops = (x : Op) → In x ops → x.over ≡ false → at x.client ≡ x.cell

at_step : (at : ℕ → ℕ) (st : Standing) (n : ℕ) (s : Step) (ops : List Op) → MayStep st s → Matches st ops → AtCell at ops → AtCell (moved_step at s) (note_step n s ops)
at_step at st n (asks k cell w v) ops may h a x m o = ⊎_elim old new (in_next ops m)
  where
    old : In x ops → moved at k cell x.client ≡ x.cell
    old r = moved_other at k cell x.client (none_open h k may.2 x r o) ∙ a x r o

    new : x ≡ asked n k cell w v n → moved at k cell x.client ≡ x.cell
    new e = rw e (moved_same at k cell)
at_step at st n (ends k v) ops may h a x m o = a x (still_open n k v ops x m o).0 o

-- an entry of another cell changes no operation of c
off_step : (c : ℕ) (at : ℕ → ℕ) (n : ℕ) (s : Step) (ops : List Op) → AtCell at ops → step_on c at s ≡ false → of_cell c (note_step n s ops) ≡ of_cell c ops
off_step c at n (asks k cell w v) ops a q = of_cell_append c ops (asked n k cell w v n) ∙ rw q (append-nil (of_cell c ops))
off_step c at n (ends k v) ops a q =
    of_cell_map c (ending n k v) (ending_keeps (λ (o : Op). o.cell) (λ t u y. refl) n k v) ops
    ∙ map_same (ending n k v) (of_cell c ops) (λ x m. let w = of_cell_of c ops m in same x w.0 w.1 x.over refl)
  where
    same : (x : Op) → In x ops → x.cell ≡ c → (t : Bool) → x.over ≡ t → ending n k v x ≡ x
    same x m e true o = ending_over n k v x o
    same x m e false o = ending_other n k v x (λ z. eqb-false (at k) c q (sym (ap at z) ∙ (a x m o ∙ e)))

-- an entry of the cell does to the part's operations what it does to the record's
on_step : (c : ℕ) (at : ℕ → ℕ) (p : ℕ → ℕ) (n m : ℕ) (s : Step) (ops part : List Op) → p m ≡ n → step_on c at s ≡ true
    → map (renumbered p) part ≡ of_cell c ops → map (renumbered p) (note_step m s part) ≡ of_cell c (note_step n s ops)
on_step c at p n m (asks k cell w v) ops part e q h =
    let a : of_cell c (ops ++ (asked n k cell w v n ∷ [])) ≡ of_cell c ops ++ (asked n k cell w v n ∷ []) = of_cell_append c ops (asked n k cell w v n) ∙ rw q in
    let b : map (renumbered p) part ++ (asked (p m) k cell w v (p m) ∷ []) ≡ of_cell c ops ++ (asked n k cell w v n ∷ []) = rw (e, h) in
    map-append (renumbered p) part (asked m k cell w v m ∷ []) ∙ (b ∙ sym a)
on_step c at p n m (ends k v) ops part e q h =
    let a : map (ending (p m) k v) (map (renumbered p) part) ≡ map (ending n k v) (of_cell c ops) = rw (e, h) in
    map-map (renumbered p) (ending m k v) part
    ∙ (through part ∙ (a ∙ sym (of_cell_map c (ending n k v) (ending_keeps (λ (o : Op). o.cell) (λ t u y. refl) n k v) ops)))
  where
    one : (x : Op) → renumbered p (ending m k v x) ≡ ending (p m) k v (renumbered p x)
    one x = go (open_of k x)
      where
        go : (t : Bool) → renumbered p (cond t (finished m (v x.value) x) x) ≡ cond t (finished (p m) (v x.value) (renumbered p x)) (renumbered p x)
        go true = refl
        go false = refl

    through : (l : List Op) → map (λ x. renumbered p (ending m k v x)) l ≡ map (ending (p m) k v) (map (renumbered p) l)
    through [] = refl
    through (x ∷ xs) = let a = one x in let b = through xs in cc

part_same : (c : ℕ) (p at : ℕ → ℕ) (st : Standing) (n m : ℕ) (es : List Entry) (ops part : List Op)
    → Follows st es → Matches st ops → AtCell at ops → ((i : ℕ) → p (m + i) ≡ place_from c at n es i) → map (renumbered p) part ≡ of_cell c ops
    → map (renumbered p) (notes m (part_from c at es) part) ≡ of_cell c (notes n es ops)
unfolding notes part_from place_from
part_same c p at st n m [] ops part f h a places e = e
part_same c p at st n m (e ∷ es) ops part f h a places q =
    rw (part_step c at e es)
    (go (step_on c at (step_of e)) refl places (λ k l g r.
    part_same c p (moved_step at (step_of e)) (standing_after st e) (suc n) k es (note n e ops) l f.2 (tied_next st n e es ops f h) next g r))
  where
    next : AtCell (moved_step at (step_of e)) (note n e ops)
    next = rw (note_step_lem n e ops) (at_step at st n (step_of e) ops (may_step st e f.0 f.1) h a)

    go : (t : Bool) → step_on c at (step_of e) ≡ t → ((i : ℕ) → p (m + i) ≡ first_if t n (place_from c (moved_step at (step_of e)) (suc n) es) i)
        → ((k : ℕ) (l : List Op) → ((i : ℕ) → p (k + i) ≡ place_from c (moved_step at (step_of e)) (suc n) es i) → map (renumbered p) l ≡ of_cell c (note n e ops)
        → map (renumbered p) (notes k (part_from c (moved_step at (step_of e)) es) l) ≡ of_cell c (notes (suc n) es (note n e ops)))
        → map (renumbered p) (notes m (keep_if t e (part_from c (moved_step at (step_of e)) es)) part) ≡ of_cell c (notes (suc n) es (note n e ops))
    go true t g r =
        r (suc m) (note m e part) (λ i. let z : suc m + i ≡ m + suc i = omega arith in ap p z ∙ g (suc i))
        (rw (note_step_lem n e ops, note_step_lem m e part) (on_step c at p n m (step_of e) ops part (let z : m ≡ m + 0 = omega arith in ap p z ∙ g 0) t q))
    go false t g r = r m part g (q ∙ sym (rw (note_step_lem n e ops) (off_step c at n (step_of e) ops a t)))

-- ---- the part's entries

part_stands : (c : ℕ) (at : ℕ → ℕ) (d : Entry) (look : ℕ → Entry) (n : ℕ) (es : List Entry) → ((j : ℕ) → look (n + j) ≡ get_or es j d)
    → (i : ℕ) → i < length (part_from c at es) → (place_from c at n es i < n + length es) × (look (place_from c at n es i) ≡ get_or (part_from c at es) i d)
unfolding part_from place_from
part_stands c at d look n [] h i l = absurd (not-suc-le-zero l)
part_stands c at d look n (e ∷ es) h i l =
    rw (part_step c at e es)
    (go (step_on c at (step_of e)) i (rw (part_step c at e es) at l)
    (part_stands c (moved_step at (step_of e)) d look (suc n) es (λ j. let z : suc n + j ≡ n + suc j = omega arith in ap look z ∙ h (suc j))))
  where
    p : ℕ → ℕ
    p = place_from c (moved_step at (step_of e)) (suc n) es

    fs : List Entry
    fs = part_from c (moved_step at (step_of e)) es

    go : (t : Bool) (i : ℕ) → i < length (keep_if t e fs) → ((i : ℕ) → i < length fs → (p i < suc n + length es) × (look (p i) ≡ get_or fs i d))
        → (first_if t n p i < n + suc (length es)) × (look (first_if t n p i) ≡ get_or (keep_if t e fs) i d)
    go true zero b r = (omega arith, let z : n ≡ n + 0 = omega arith in ap look z ∙ h 0)
    go true (suc i) b r = let w = r i (le_of_suc-le-suc b) in (omega (arith, w.0), w.1)
    go false i b r = let w = r i b in (omega (arith, w.0), w.1)

-- ---- the theorem

pub cell_part : (c : ℕ) (es : List Entry) → Legal es → CellPart c es
unfolding part_of operations of_cell
cell_part c es h =
    record {
      place = place_from c (λ k. 0) 0 es;
      rises = place_rises c (λ k. 0) 0 es;
      stands = λ d i l.
          let z : 0 + length es ≡ length es = omega arith in
          rw z at (part_stands c (λ k. 0) d (λ j. get_or es j d) 0 es (λ j. let z : 0 + j ≡ j = omega arith in ap (λ (q : ℕ). get_or es q d) z) i l);
      legal = record {
        follows = part_follows c (λ k. 0) fresh fresh es begin h.follows;
        few = let a = h.few in let b = part_length c (λ k. 0) es in omega arith;
      };
      same = part_same c (place_from c (λ k. 0) 0 es) (λ k. 0) fresh 0 0 es [] [] h.follows tied_fresh (λ x m. absurd (no_mem m))
          (λ i. let z : 0 + i ≡ i = omega arith in ap (place_from c (λ k. 0) 0 es) z) refl;
    }
  where
    begin : Shadow c (λ k. 0) fresh fresh
    begin = record { eight = refl; same = refl; own = λ k e. refl; other = λ k d. fresh_none k }
