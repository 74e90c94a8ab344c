-- How what is held goes on, entry by entry: the loops of the reader and of the writer lean on these laws alone.
use Prim.Native.Nat.{ℕ, zero, suc, ◌+◌}
use Rattle.std.specs.Prelude.{◌≡◌, List, [], ◌∷◌, Bool, length, Option, None, Some, Result, Ok, Err}
use Rattle.std.proofs.Math.Path.{refl, ap}
use Rattle.std.proofs.Common.{sym, ◌∙◌, arith}
use Rattle.std.proofs.Math.Bool.{true, false, cond}
use Rattle.record.specs.declared.Entry.{Entry}
use Rattle.record.specs.Entry.{Found}
use Rattle.record.specs.declared.Standing.{Standing}
use Rattle.record.specs.Record.{Answer, entry_limit, fault_after, standing_after, Held, entries, fault, before, unless_refused, enter, held_from, survey_of}
use Rattle.refusal.specs.declared.Refusal.{Refusal}
use Rattle.refusal.specs.declared.Refusal.TheVariants.{TooMany}

-- what two equal refusals of a record say of each
pub same_fault : {A B C : Type 0} {a a' : A} {b b' : B} → ◌≡◌ {A = Result C (A × B)} (Err (a, b)) (Err (a', b')) → (a ≡ a') × (b ≡ b')
same_fault {A} {B} {C} {a} {a'} {b} {b'} p =
    let q : ◌≡◌ {A = A × B} (a, b) (a', b') = cc in
    (ap (λ (x : A × B). x.0) q, ap (λ (x : A × B). x.1) q)

-- ---- one step

module _ (more : ℕ → Bool) (found : ℕ → Found) where
  -- nothing stands here any more
  pub ends : (left at n : ℕ) (st : Standing) → more at ≡ false → held_from more found left at n st ≡ entries []
  unfolding held_from
  ends zero at n st h = simp h
  ends (suc left) at n st h = simp h

  -- something stands here, and no entry may follow
  pub full : (at n : ℕ) (st : Standing) → more at ≡ true → held_from more found zero at n st ≡ fault TooMany n
  unfolding held_from
  full at n st h = simp h

  -- what stands here is no entry
  pub unread : (left at n : ℕ) (k : Refusal) (st : Standing) → more at ≡ true → found at ≡ Err k → held_from more found (suc left) at n st ≡ fault k n
  unfolding held_from enter
  unread left at n k st h g = simp (h, g)

  -- the entry here may not follow
  pub misplaced : (left at n : ℕ) (k : Refusal) (st : Standing) (e : Entry) (next : ℕ) → more at ≡ true → found at ≡ Ok (e, next) → fault_after st e ≡ Some k
      → held_from more found (suc left) at n st ≡ fault k n
  unfolding held_from enter unless_refused
  misplaced left at n k st e next h g f = simp (h, g, f)

  -- the entry here is the next one
  pub onward : (left at n : ℕ) (st : Standing) (e : Entry) (next : ℕ) → more at ≡ true → found at ≡ Ok (e, next) → fault_after st e ≡ None
      → held_from more found (suc left) at n st ≡ before e (held_from more found left next (n + 1) (standing_after st e))
  unfolding held_from enter unless_refused
  onward left at n st e next h g f = simp (h, g, f)

-- ---- the first entry of what is held

-- an entry is held first: it was found here, it may follow, and the others are held after it
pub record First (more : ℕ → Bool) (found : ℕ → Found) (left at n : ℕ) (st : Standing) (e : Entry) (es : List Entry) : Type 0 where
  pub fewer : ℕ
  pub less : left ≡ suc fewer
  pub stands : more at ≡ true
  pub next : ℕ
  pub is : found at ≡ Ok (e, next)
  pub may : fault_after st e ≡ None
  pub others : held_from more found fewer next (n + 1) (standing_after st e) ≡ entries es

no_fault : {A : Type 0} {k : Refusal} {n : ℕ} {es : List Entry} → fault k n ≡ entries es → A
no_fault p = let z : ◌≡◌ {A = ℕ} 0 1 = cc in absurd (omega arith)

no_empty : {A : Type 0} {e : Entry} {es : List Entry} → entries [] ≡ entries (e ∷ es) → A
no_empty p = let z : ◌≡◌ {A = ℕ} 0 1 = cc in absurd (omega arith)

-- what stands after an entry
before_inv : (e e' : Entry) (h : Held) (es : List Entry) → before e h ≡ entries (e' ∷ es) → (e ≡ e') × (h ≡ entries es)
unfolding before
before_inv e e' (entries fs) es p = (cc, cc)
before_inv e e' (fault k n) es p = no_fault p

module _ (more : ℕ → Bool) (found : ℕ → Found) where
  pub first : (left at n : ℕ) (st : Standing) (e : Entry) (es : List Entry) → held_from more found left at n st ≡ entries (e ∷ es) → First more found left at n st e es
  unfolding held_from enter unless_refused
  first zero at n st e es p = go (more at) refl p
    where
      go : (t : Bool) → more at ≡ t → cond t (fault TooMany n) (entries []) ≡ entries (e ∷ es) → First more found zero at n st e es
      go true h q = no_fault q
      go false h q = no_empty q
  first (suc left) at n st e es p = go (more at) refl (found at) refl p
    where
      checked : (f : Option Refusal) (e' : Entry) (next : ℕ) → more at ≡ true → found at ≡ Ok (e', next) → fault_after st e' ≡ f
          → unless_refused f n (before e' (held_from more found left next (n + 1) (standing_after st e'))) ≡ entries (e ∷ es)
          → First more found (suc left) at n st e es
      checked (Some k) e' next h g f q = no_fault q
      checked None e' next h g f q =
          let b = before_inv e' e (held_from more found left next (n + 1) (standing_after st e')) es q in
          let same : e' ≡ e = b.0 in
          record {
            fewer = left;
            less = refl;
            stands = h;
            next = next;
            is = g ∙ ap (λ (x : Entry). Ok (x, next)) same;
            may = ap (fault_after st) (sym same) ∙ f;
            others = ap (λ (x : Entry). held_from more found left next (n + 1) (standing_after st x)) (sym same) ∙ b.1;
          }

      go : (t : Bool) → more at ≡ t → (r : Found) → found at ≡ r
          → cond t (enter n st r (λ next st'. held_from more found left next (n + 1) st')) (entries []) ≡ entries (e ∷ es) → First more found (suc left) at n st e es
      go false h r g q = no_empty q
      go true h (Err k) g q = no_fault q
      go true h (Ok (e', next)) g q = checked (fault_after st e') e' next h g refl q

-- where nothing is held, nothing stands
before_some : (e : Entry) (h : Held) → before e h ≡ entries [] → ⊥
unfolding before
before_some e (entries es) p = let z : ◌≡◌ {A = ℕ} 0 1 = cc in omega arith
before_some e (fault k n) p = no_fault p

module _ (more : ℕ → Bool) (found : ℕ → Found) where
  pub empty : (left at n : ℕ) (st : Standing) → held_from more found left at n st ≡ entries [] → more at ≡ true → ⊥
  unfolding held_from enter
  empty zero at n st p h = no_fault (sym (full more found at n st h) ∙ p)
  empty (suc left) at n st p h = go (found at) refl
    where
      checked : (e : Entry) (next : ℕ) (f : Option Refusal) → found at ≡ Ok (e, next) → fault_after st e ≡ f → ⊥
      checked e next None g q = before_some e _ (sym (onward more found left at n st e next h g q) ∙ p)
      checked e next (Some k) g q = no_fault (sym (misplaced more found left at n k st e next h g q) ∙ p)

      go : (r : Found) → found at ≡ r → ⊥
      go (Err k) g = no_fault (sym (unread more found left at n k st h g) ∙ p)
      go (Ok (e, next)) g = checked e next (fault_after st e) g refl

-- ---- a count of what is held

-- the sum of a weight over entries
unfoldable pub total : (Entry → ℕ) → List Entry → ℕ
total w [] = 0
total w (e ∷ es) = w e + total w es

-- what is held, as its weight with what was counted before, or the fault
unfoldable pub tally : (Entry → ℕ) → ℕ → Held → Answer
tally w sum (entries es) = Ok (sum + total w es)
tally w sum (fault k n) = Err (k, n)

pub tally_none : (w : Entry → ℕ) (sum : ℕ) → tally w sum (entries []) ≡ Ok sum
unfolding tally total
tally_none w sum = ap Ok (omega arith)

pub tally_fault : (w : Entry → ℕ) (sum : ℕ) (k : Refusal) (n : ℕ) → tally w sum (fault k n) ≡ Err (k, n)
unfolding tally
tally_fault w sum k n = refl

pub tally_before : (w : Entry → ℕ) (sum : ℕ) (e : Entry) (h : Held) → tally w sum (before e h) ≡ tally w (sum + w e) h
unfolding tally total before
tally_before w sum e (entries es) = ap Ok (omega arith)
tally_before w sum e (fault k n) = refl

total_one : (es : List Entry) → total (λ e. 1) es ≡ length es
unfolding total
total_one [] = refl
total_one (e ∷ es) = omega (arith, total_one es)

pub survey_tally : (h : Held) → survey_of h ≡ tally (λ e. 1) 0 h
unfolding survey_of tally
survey_tally (entries es) = ap Ok (omega (arith, total_one es))
survey_tally (fault k n) = refl

-- ---- counting, entry by entry

-- where counting has come to: what is held from here on, with the sum so far, is what is held in all
pub record Counting (more : ℕ → Bool) (found : ℕ → Found) (w : Entry → ℕ) (whole : Held) (at n sum : ℕ) (st : Standing) : Type 0 where
  pub left : ℕ
  pub limit : n + left ≡ entry_limit
  pub same : tally w 0 whole ≡ tally w sum (held_from more found left at n st)

module _ (more : ℕ → Bool) (found : ℕ → Found) (w : Entry → ℕ) (whole : Held) (at n sum : ℕ) (st : Standing) (c : Counting more found w whole at n sum st) where
  pub counts_end : more at ≡ false → Ok sum ≡ tally w 0 whole
  counts_end h = sym (c.same ∙ ap (tally w sum) (ends more found c.left at n st h) ∙ tally_none w sum)

  pub counts_full : more at ≡ true → n ≡ entry_limit → ◌≡◌ {A = Answer} (Err (TooMany, n)) (tally w 0 whole)
  counts_full h e =
      let none : c.left ≡ 0 = omega (arith, c.limit) in
      sym (c.same ∙ ap (λ (f : ℕ). tally w sum (held_from more found f at n st)) none ∙ ap (tally w sum) (full more found at n st h) ∙ tally_fault w sum TooMany n)

  -- below the limit an entry may be taken
  one_more : (n ≡ entry_limit → ⊥) → (f : ℕ) × ((c.left ≡ suc f) × (n + 1 + f ≡ entry_limit))
  one_more h = go c.left refl
    where
      go : (l : ℕ) → c.left ≡ l → (f : ℕ) × ((c.left ≡ suc f) × (n + 1 + f ≡ entry_limit))
      go zero e = absurd (h (omega (arith, c.limit)))
      go (suc f) e = (f, (e, omega (arith, c.limit)))

  at_left : (f : ℕ) → c.left ≡ suc f → tally w 0 whole ≡ tally w sum (held_from more found (suc f) at n st)
  at_left f e = c.same ∙ ap (λ (l : ℕ). tally w sum (held_from more found l at n st)) e

  pub counts_unread : (k : Refusal) → more at ≡ true → (n ≡ entry_limit → ⊥) → found at ≡ Err k → ◌≡◌ {A = Answer} (Err (k, n)) (tally w 0 whole)
  counts_unread k h l g =
      let o = one_more l in
      sym (at_left o.0 o.1.0 ∙ ap (tally w sum) (unread more found o.0 at n k st h g) ∙ tally_fault w sum k n)

  pub counts_misplaced : (k : Refusal) (e : Entry) (next : ℕ) → more at ≡ true → (n ≡ entry_limit → ⊥) → found at ≡ Ok (e, next) → fault_after st e ≡ Some k
      → ◌≡◌ {A = Answer} (Err (k, n)) (tally w 0 whole)
  counts_misplaced k e next h l g q =
      let o = one_more l in
      sym (at_left o.0 o.1.0 ∙ ap (tally w sum) (misplaced more found o.0 at n k st e next h g q) ∙ tally_fault w sum k n)

  pub counts_on : (e : Entry) (next : ℕ) → more at ≡ true → (n ≡ entry_limit → ⊥) → found at ≡ Ok (e, next) → fault_after st e ≡ None
      → Counting more found w whole next (n + 1) (sum + w e) (standing_after st e)
  counts_on e next h l g z =
      let o = one_more l in
      record {
        left = o.0;
        limit = o.1.1;
        same = at_left o.0 o.1.0 ∙ ap (tally w sum) (onward more found o.0 at n st e next h g z)
            ∙ tally_before w sum e (held_from more found o.0 next (n + 1) (standing_after st e));
      }
