-- Facts of a record's operations: of any entries, and of those without a fault.
use Rattle.std.specs.Prelude.{◌≡◌, refl, ◌≢◌, ◌⊎◌, Bool, true, false, cond, List, [], ◌∷◌, ◌++◌, map, ℕ, zero, suc, ◌+◌, ◌≤◌, ◌<◌, T, ℤ, length}
use Rattle.std.proofs.Common.{sym, ap, ◌∙◌, inl, inr, ⊎_elim, arith, length-set, get_or-set_same, get_or-set_other}
use mathlib.Core.List.Memᴰ.{cases_cons as mem_cons}
use mathlib.Core.List.Memᴰ.{cast as mem_cast}
use mathlib.Core.List.Memᴰ.{head as here}
use mathlib.Core.List.Memᴰ.{not-nil as no_mem}
use mathlib.Core.List.Memᴰ.{append_left as mem_left}
use mathlib.Core.List.Memᴰ.{append_right as mem_right}
use mathlib.Core.List.Memᴰ.{map as mem_map}
use mathlib.Core.List.Memᴰ.{of_map as mem_of_map}
use Rattle.std.proofs.Math.Decide.{ℕ_discrete}
use Rattle.record.specs.Entry.{cell_limit}
use Rattle.record.specs.declared.Entry.{Entry}
use Rattle.record.specs.declared.Standing.{Standing}
use Rattle.record.specs.Record.{fresh, standing_after}
use Rattle.record.specs.Legal.{Follows, Legal}
use Rattle.law.specs.Operation.{Op, asked, finished, open_of, note, notes, operations}
use Rattle.law.specs.Order.{In}
use Rattle.law.specs.laws.Lists.{in_next, pairs_imp, pairs_append, pairs_map, single}
use Rattle.law.specs.laws.Steps.{Step, step_of, note_step, note_step_lem, ending, ending_keeps, ending_other, ending_open, kind_of, kind_some, put, standing_step, standing_step_lem}
use Rattle.law.specs.laws.Steps.{MayStep, may_step}
use Rattle.law.specs.Standing.{has, standing_from, standing}
use Rattle.law.specs.laws.Steps.Step.{asks, ends}
use Rattle.law.specs.laws.Operations.{Timed, Numbered, Matches}

-- ---- one entry more

pub notes_append : (n : ℕ) (es fs : List Entry) (ops : List Op) → notes n (es ++ fs) ops ≡ notes (n + length es) fs (notes n es ops)
unfolding notes
notes_append n [] fs ops = let k : n + 0 ≡ n = omega arith in rw k
notes_append n (e ∷ es) fs ops =
    let k : suc n + length es ≡ n + suc (length es) = omega arith in
    notes_append (suc n) es fs (note n e ops) ∙ ap (λ (m : ℕ). notes m fs (notes (suc n) es (note n e ops))) k

-- what entry e makes of the operations of the entries before it
pub operations_next : (es : List Entry) (e : Entry) → operations (es ++ (e ∷ [])) ≡ note (length es) e (operations es)
unfolding operations notes
operations_next es e = notes_append 0 es (e ∷ []) [] ∙ ap (λ (m : ℕ). note m e (notes 0 es [])) (let k : 0 + length es ≡ length es = omega arith in k)

-- ---- of any entries

timed_more : {n : ℕ} {x : Op} → Timed n x → Timed (suc n) x
timed_more {n} {x} t =
    record {
      below = let h = t.below in omega arith;
      starts = t.starts;
      stops = λ o. let h = t.stops o in (h.0, omega (arith, h.1));
      unstopped = t.unstopped;
    }

timed_asked : (n k c : ℕ) (w : Bool) (v : ℤ) → Timed (suc n) (asked n k c w v n)
timed_asked n k c w v = record { below = omega arith; starts = refl; stops = λ o. absurd o; unstopped = λ e. refl }

timed_ended : (n k : ℕ) (v : ℤ → ℤ) (x : Op) → Timed n x → Timed (suc n) (ending n k v x)
timed_ended n k v x t = go (open_of k x)
  where
    go : (b : Bool) → Timed (suc n) (cond b (finished n (v x.value) x) x)
    go true =
        record {
          below = let h = t.below in omega arith;
          starts = t.starts;
          stops = λ o. (let h = t.below in let k = t.starts in omega arith, omega arith);
          unstopped = λ e. absurd (let z : ◌≡◌ {A = ℕ} 0 1 = cc in omega arith);
        }
    go false = timed_more t

numbered_step : (n : ℕ) (s : Step) (ops : List Op) → Numbered n ops → Numbered (suc n) (note_step n s ops)
numbered_step n (asks k c w v) ops h =
    record {
      rises = pairs_append (λ x y. x.number < y.number) ops (asked n k c w v n ∷ []) h.rises (λ y m. absurd (no_mem m), tt)
          (λ x y m r. ⊎_elim (λ e. rw e (h.timed x m).below) (λ z. absurd (no_mem z)) (mem_cons r));
      timed = λ x m. ⊎_elim (λ r. timed_more (h.timed x r)) (λ e. rw e (timed_asked n k c w v)) (in_next ops m);
    }
numbered_step n (ends k v) ops h =
    record {
      rises = pairs_map (ending n k v) (λ x y. x.number < y.number) ops
          (pairs_imp (λ x y. x.number < y.number) (λ x y. (ending n k v x).number < (ending n k v y).number) ops
          (λ x y m r l. rw (same x, same y) l) h.rises);
      timed = λ x m. let w = mem_of_map (ending n k v) ops m in rw w.2 at (timed_ended n k v w.0 (h.timed w.0 w.1));
    }
  where
    same : (x : Op) → (ending n k v x).number ≡ x.number
    same x = ending_keeps (λ (o : Op). o.number) (λ t u y. refl) n k v x

numbered_from : (n : ℕ) (es : List Entry) (ops : List Op) → Numbered n ops → Numbered (n + length es) (notes n es ops)
unfolding notes
numbered_from n [] ops h = let k : n + 0 ≡ n = omega arith in rw k h
numbered_from n (e ∷ es) ops h =
    let k : suc n + length es ≡ n + suc (length es) = omega arith in
    rw (← k) (numbered_from (suc n) es (note n e ops) (rw (note_step_lem n e ops) (numbered_step n (step_of e) ops h)))

-- numbers rise along the operations and are below the number of entries, and times are in order
pub numbered : (es : List Entry) → Numbered (length es) (operations es)
unfolding operations
numbered es = let k : 0 + length es ≡ length es = omega arith in rw k at (numbered_from 0 es [] (record { rises = tt; timed = λ x m. absurd (no_mem m) }))

-- the number tells which operation it is
pub number_apart : (es : List Entry) (x y : Op) → In x (operations es) → In y (operations es) → x.number ≡ y.number → x ≡ y
number_apart es = single (λ (o : Op). o.number) (operations es) (numbered es).rises

-- an operation doesn't end before it starts
pub stops_after : (es : List Entry) (x : Op) → In x (operations es) → T x.over → x.start ≤ x.stop
stops_after es x m t = let h = ((numbered es).timed x m).stops t in omega (arith, h.0)

-- ---- of a record without a fault

-- a client that has nothing open has no unfinished operation
pub none_open : {st : Standing} {ops : List Op} → Matches st ops → (k : ℕ) → has st k ≡ 0 → (x : Op) → In x ops → x.over ≡ false → x.client ≢ k
none_open {st} h k z x m o e = kind_some x.write (sym (h.kind x m o) ∙ (ap (λ (j : ℕ). has st j) e ∙ z))

-- what is unfinished after client k's operation ended was so before, and is another client's
pub still_open : (n k : ℕ) (v : ℤ → ℤ) (ops : List Op) (x : Op) → In x (map (ending n k v) ops) → x.over ≡ false → (In x ops) × (x.client ≢ k)
still_open n k v ops x m o =
    let b = mem_of_map (ending n k v) ops m in
    let s = ending_open n k v b.0 (ap (λ (z : Op). z.over) b.2 ∙ o) in
    let e : x ≡ b.0 = sym b.2 ∙ s.0 in
    (mem_cast e b.1, λ q. s.1 (sym (ap (λ (z : Op). z.client) e) ∙ q))

-- what stands after a change: at its place, and at the others
module _ (st : Standing) (k what : ℕ) where
  pub has_same : k < length st.has → has (put st k what) k ≡ what
  has_same b = get_or-set_same st.has k what 0 b

  pub has_other : (j : ℕ) → j ≢ k → has (put st k what) j ≡ has st j
  has_other j d = get_or-set_other st.has k j what 0 d

module _ (st : Standing) (n : ℕ) (ops : List Op) (h : Matches st ops) where
  tied_asks : (k c : ℕ) (w : Bool) (v : ℤ) → MayStep st (asks k c w v) → Matches (put st k (kind_of w)) (ops ++ (asked n k c w v n ∷ []))
  tied_asks k c w v may =
      record {
        eight = length-set st.has k (kind_of w) ∙ h.eight;
        client = λ x m. ⊎_elim (λ r. h.client x r) (λ e. rw e (omega (arith, may.0))) (in_next ops m);
        cell = λ x m. ⊎_elim (λ r. h.cell x r) (λ e. rw e (omega (arith, may.1))) (in_next ops m);
        kind = λ x m o. ⊎_elim (λ r. has_other st k (kind_of w) x.client (free x r o) ∙ h.kind x r o) (λ e. rw e here_kind) (in_next ops m);
        found = λ j s. at j s (ℕ_discrete j k);
        one = λ x y m r e o p. two x y e o p (in_next ops m) (in_next ops r);
      }
    where
      free : (x : Op) → In x ops → x.over ≡ false → x.client ≢ k
      free = none_open h k may.2

      here_kind : has (put st k (kind_of w)) k ≡ kind_of w
      here_kind = has_same st k (kind_of w) (omega (arith, may.0, h.eight))

      at : (j : ℕ) → has (put st k (kind_of w)) j ≢ 0 → Dec (j ≡ k)
          → (x : Op) × ((In x (ops ++ (asked n k c w v n ∷ []))) × ((x.client ≡ j) × (x.over ≡ false)))
      at j s (yes e) = (asked n k c w v n, (mem_right ops (here refl), (sym e, refl)))
      at j s (no d) =
          let f = h.found j (λ z. s (has_other st k (kind_of w) j d ∙ z)) in
          (f.0, (mem_left (asked n k c w v n ∷ []) f.1.0, f.1.1))

      two : (x y : Op) → x.client ≡ y.client → x.over ≡ false → y.over ≡ false → In x ops ⊎ (x ≡ asked n k c w v n) → In y ops ⊎ (y ≡ asked n k c w v n) → x ≡ y
      two x y e o p (inl m) (inl r) = h.one x y m r e o p
      two x y e o p (inl m) (inr q) = absurd (free x m o (e ∙ ap (λ (z : Op). z.client) q))
      two x y e o p (inr q) (inl r) = absurd (free y r p (sym e ∙ ap (λ (z : Op). z.client) q))
      two x y e o p (inr q) (inr r) = q ∙ sym r

  tied_ends : (k : ℕ) (v : ℤ → ℤ) → MayStep st (ends k v) → Matches (put st k 0) (map (ending n k v) ops)
  tied_ends k v may =
      record {
        eight = length-set st.has k 0 ∙ h.eight;
        client = λ x m. let b = back x m in rw (← b.2) (rw (ending_keeps (λ (o : Op). o.client) (λ t u y. refl) n k v b.0) (h.client b.0 b.1));
        cell = λ x m. let b = back x m in rw (← b.2) (rw (ending_keeps (λ (o : Op). o.cell) (λ t u y. refl) n k v b.0) (h.cell b.0 b.1));
        kind = λ x m o. let b = still_open n k v ops x m o in has_other st k 0 x.client b.1 ∙ h.kind x b.0 o;
        found = λ j s. at j s (ℕ_discrete j k);
        one = λ x y m r e o p. h.one x y (still_open n k v ops x m o).0 (still_open n k v ops y r p).0 e o p;
      }
    where
      back : (x : Op) → In x (map (ending n k v) ops) → (y : Op) × (In y ops) × (ending n k v y ≡ x)
      back x m = mem_of_map (ending n k v) ops m

      at : (j : ℕ) → has (put st k 0) j ≢ 0 → Dec (j ≡ k) → (x : Op) × ((In x (map (ending n k v) ops)) × ((x.client ≡ j) × (x.over ≡ false)))
      at j s (yes e) = absurd (s (ap (λ (i : ℕ). has (put st k 0) i) e ∙ has_same st k 0 (omega (arith, may.0, h.eight))))
      at j s (no d) =
          let f = h.found j (λ z. s (has_other st k 0 j d ∙ z)) in
          (f.0, (mem_cast (sym (ending_other n k v f.0 (λ q. d (sym f.1.1.0 ∙ q)))) (mem_map (ending n k v) f.1.0), f.1.1))

pub tied_step : (st : Standing) (n : ℕ) (s : Step) (ops : List Op) → MayStep st s → Matches st ops → Matches (standing_step st s) (note_step n s ops)
tied_step st n (asks k c w v) ops may h = tied_asks st n ops h k c w v may
tied_step st n (ends k v) ops may h = tied_ends st n ops h k v may

-- one entry that may follow keeps the tie
pub tied_next : (st : Standing) (n : ℕ) (e : Entry) (es : List Entry) (ops : List Op) → Follows st (e ∷ es) → Matches st ops → Matches (standing_after st e) (note n e ops)
tied_next st n e es ops f h = rw (standing_step_lem st e, note_step_lem n e ops) (tied_step st n (step_of e) ops (may_step st e f.0 f.1) h)

pub tied_from : (st : Standing) (n : ℕ) (es : List Entry) (ops : List Op) → Follows st es → Matches st ops → Matches (standing_from st es) (notes n es ops)
unfolding notes
tied_from st n [] ops f h = h
tied_from st n (e ∷ es) ops f h = tied_from (standing_after st e) (suc n) es (note n e ops) f.2 (tied_next st n e es ops f h)

-- at first nothing is open
pub fresh_none : (k : ℕ) → has fresh k ≡ 0
fresh_none zero = refl
fresh_none (suc zero) = refl
fresh_none (suc (suc zero)) = refl
fresh_none (suc (suc (suc zero))) = refl
fresh_none (suc (suc (suc (suc zero)))) = refl
fresh_none (suc (suc (suc (suc (suc zero))))) = refl
fresh_none (suc (suc (suc (suc (suc (suc zero)))))) = refl
fresh_none (suc (suc (suc (suc (suc (suc (suc zero))))))) = refl
fresh_none (suc (suc (suc (suc (suc (suc (suc (suc k)))))))) = refl

pub tied_fresh : Matches fresh []
tied_fresh =
    record {
      eight = refl;
      client = λ x m. absurd (no_mem m);
      cell = λ x m. absurd (no_mem m);
      kind = λ x m. absurd (no_mem m);
      found = λ k s. absurd (s (fresh_none k));
      one = λ x y m. absurd (no_mem m);
    }

-- the standing after a record and the record's operations
pub tied : (es : List Entry) → Follows fresh es → Matches (standing es) (operations es)
unfolding operations
tied es f = tied_from fresh 0 es [] f tied_fresh

-- ---- the same, as a record's reader or judge meets it: entry by entry

pub standing_append : (st : Standing) (es fs : List Entry) → standing_from st (es ++ fs) ≡ standing_from (standing_from st es) fs
standing_append st [] fs = refl
standing_append st (e ∷ es) fs = standing_append (standing_after st e) es fs

-- the first entries of a record without a fault have none, and the others may follow them
pub follows_front : (st : Standing) (es fs : List Entry) → Follows st (es ++ fs) → Follows st es
follows_front st [] fs f = tt
follows_front st (e ∷ es) fs f = (f.0, f.1, follows_front (standing_after st e) es fs f.2)

pub follows_back : (st : Standing) (es fs : List Entry) → Follows st (es ++ fs) → Follows (standing_from st es) fs
follows_back st [] fs f = f
follows_back st (e ∷ es) fs f = follows_back (standing_after st e) es fs f.2

-- the operations of a legal record are of cells below 16
pub legal_cell : (es : List Entry) → Legal es → (x : Op) → In x (operations es) → x.cell < cell_limit
legal_cell es h = (tied es h.follows).cell
