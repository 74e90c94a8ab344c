-- Which refusals there are, and which entry each names.
use Rattle.std.specs.Prelude.{ℕ, zero, suc, ◌+◌, ◌≤◌, List, ◌≡◌, refl, Bool, true, false, cond, length, ltb, eqb, Option, None, Some, Ok, Err}
use Rattle.std.proofs.Common.{◌∙◌, sym, ap, subst, arith}
use Rattle.number.specs.Number.{Number, number_at, and_then}
use Rattle.number.specs.laws.NumberLaws.{refusal_bounds}
use Rattle.record.specs.declared.Entry.{Entry}
use Rattle.record.specs.declared.Entry.TheVariants.{ReadAsked, WriteAsked, Told, Done}
use Rattle.record.specs.declared.Standing.{Standing}
use Rattle.record.specs.Entry.{Found, last_client, last_cell, up_to, fields_at, entry_at}
use Rattle.record.specs.Record.{entry_limit, fresh, fault_after, standing_after, open_by, Held, entries, fault, before, held_from, bytes_held}
use Rattle.record.specs.laws.Steps.{ends, full, unread, misplaced, onward}
use Rattle.record.specs.Named.{Named}
use Rattle.refusal.specs.declared.Refusal.{Refusal}
use Rattle.refusal.specs.Number.{paper_number}
use Rattle.refusal.specs.declared.Refusal.TheVariants.{KindAbove, FieldAbove, AskedWhileOpen, EndedUnasked, TooMany}

-- ---- one entry

-- a fault within one entry: from low to 25
abbrev Within : ℕ → Refusal → Type 0
Within low k = (low ≤ paper_number k) × (paper_number k ≤ 25)

pub no_at : {A : Type 0} {e : Entry} {next : ℕ} {k : Refusal} → ◌≡◌ {A = Found} (Ok (e, next)) (Err k) → A
no_at p = let z : ◌≡◌ {A = ℕ} 0 1 = cc in absurd (omega arith)

-- a fault of either way of a test
fault_either_way : (k : Refusal) (t : Bool) (a b : Found) → (a ≡ Err k → Within 21 k) → (b ≡ Err k → Within 21 k) → cond t a b ≡ Err k → Within 21 k
fault_either_way k true a b f g p = f p
fault_either_way k false a b f g p = g p

-- the number is refused, or what follows it
then_fault : (k : Refusal) (r : Number) (go : ℕ → ℕ → Found) → ((j : Refusal) → r ≡ Err j → Within 21 j) → ((n next : ℕ) → go n next ≡ Err k → Within 21 k)
    → and_then Err r go ≡ Err k → Within 21 k
unfolding and_then
then_fault k (Err j) go f g p = let e : j ≡ k = cc in subst (Within 21) e (f j refl)
then_fault k (Ok (n, next)) go f g p = g n next p

number_fault : (s : List ℕ) (at : ℕ) (k : Refusal) → number_at s at ≡ Err k → Within 21 k
number_fault s at k p = let b = refusal_bounds s at k p in (b.0, omega (arith, b.1))

limit_fault : (s : List ℕ) (at limit : ℕ) (refusal k : Refusal) → Within 21 refusal → up_to limit refusal (number_at s at) ≡ Err k → Within 21 k
unfolding up_to
limit_fault s at limit refusal k h p = go (number_at s at) refl p
  where
    above : (t : Bool) (n next : ℕ) → cond {A = Number} t (Err refusal) (Ok (n, next)) ≡ Err k → Within 21 k
    above true n next q = let e : refusal ≡ k = cc in subst (Within 21) e h
    above false n next q = let z : ◌≡◌ {A = ℕ} 0 1 = cc in absurd (omega arith)

    go : (r : Number) → number_at s at ≡ r → up_to limit refusal r ≡ Err k → Within 21 k
    go (Err j) e q = let i : j ≡ k = cc in subst (Within 21) i (number_fault s at j e)
    go (Ok (n, next)) e q = above (ltb limit n) n next q

fields_fault : (s : List ℕ) (at kind client : ℕ) (k : Refusal) → fields_at s at kind client ≡ Err k → Within 21 k
unfolding fields_at paper_number
fields_fault s at kind client k p =
    fault_either_way k (eqb kind 3) _ _ (λ q. no_at q)
    (λ q. fault_either_way k (eqb kind 2) _ _ (λ r. then_fault k (number_at s at) _ (number_fault s at) (λ v next x. no_at x) r)
    (λ r. then_fault k (up_to last_cell FieldAbove (number_at s at)) _ (λ j. limit_fault s at last_cell FieldAbove j (omega arith, omega arith))
    (λ cell next x. fault_either_way k (eqb kind 0) _ _ (λ y. no_at y) (λ y. then_fault k (number_at s next) _ (number_fault s next) (λ v last z. no_at z) y) x) r) q) p

-- reading an entry refuses with 21 to 25
pub entry_faults : (s : List ℕ) (at : ℕ) (k : Refusal) → entry_at s at ≡ Err k → (21 ≤ paper_number k) × (paper_number k ≤ 25)
unfolding entry_at paper_number
entry_faults s at k p =
    then_fault k (up_to 3 KindAbove (number_at s at)) _ (λ j. limit_fault s at 3 KindAbove j (omega arith, omega arith))
    (λ kind next q. then_fault k (up_to last_client FieldAbove (number_at s next)) _ (λ j. limit_fault s next last_client FieldAbove j (omega arith, omega arith))
    (λ client more r. fields_fault s more kind client k r) q) p

-- what is refused unless a test holds
unless : (t : Bool) (j k : Refusal) → cond t None (Some j) ≡ Some k → (26 ≤ paper_number j) × (paper_number j ≤ 27) → (26 ≤ paper_number k) × (paper_number k ≤ 27)
unless true j k p h = let z : ◌≡◌ {A = ℕ} 0 1 = cc in absurd (omega arith)
unless false j k p h = let e : j ≡ k = cc in subst (λ (x : Refusal). (26 ≤ paper_number x) × (paper_number x ≤ 27)) e h

-- an entry that may not come now is refused with 26 or 27
pub standing_faults : (st : Standing) (e : Entry) (k : Refusal) → fault_after st e ≡ Some k → (26 ≤ paper_number k) × (paper_number k ≤ 27)
unfolding fault_after paper_number
standing_faults st (ReadAsked client cell) k p = unless (eqb (open_by st client) 0) AskedWhileOpen k p (omega arith, omega arith)
standing_faults st (WriteAsked client cell v) k p = unless (eqb (open_by st client) 0) AskedWhileOpen k p (omega arith, omega arith)
standing_faults st (Told client v) k p = unless (eqb (open_by st client) 1) EndedUnasked k p (omega arith, omega arith)
standing_faults st (Done client) k p = unless (eqb (open_by st client) 2) EndedUnasked k p (omega arith, omega arith)

-- ---- a record

pub no_entries : {A : Type 0} {k : Refusal} {n : ℕ} {es : List Entry} → entries es ≡ fault k n → A
no_entries p = let z : ◌≡◌ {A = ℕ} 0 1 = cc in absurd (omega arith)

before_fault : (e : Entry) (h : Held) (k : Refusal) (n : ℕ) → before e h ≡ fault k n → h ≡ fault k n
unfolding before
before_fault e (entries es) k n p = no_entries p
before_fault e (fault j m) k n p = p

module _ (more : ℕ → Bool) (found : ℕ → Found) (low : ℕ) (early : low ≤ 26) (faults : (at : ℕ) (k : Refusal) → found at ≡ Err k → (low ≤ paper_number k) × (paper_number k ≤ 25)) where
  -- a fault of the entry n itself
  at_entry : (left n : ℕ) (k j : Refusal) (m : ℕ) → low ≤ paper_number k → paper_number k ≤ 27 → fault k n ≡ fault j m → Named low (paper_number j) m (n + suc left)
  at_entry left n k j m h g p =
      let i : k ≡ j = cc in
      let a : paper_number k ≡ paper_number j = ap paper_number i in
      let b : n ≡ m = cc in
      record { least = omega arith; most = omega arith; last = λ x. absurd (omega arith); early = λ x. omega arith }

  pub named : (left at n : ℕ) (st : Standing) (k : Refusal) (m : ℕ) → held_from more found left at n st ≡ fault k m → Named low (paper_number k) m (n + left)
  unfolding paper_number
  named zero at n st k m p = go (more at) refl
    where
      go : (t : Bool) → more at ≡ t → Named low (paper_number k) m (n + zero)
      go true h =
          let q : fault TooMany n ≡ fault k m = sym (full more found at n st h) ∙ p in
          let i : TooMany ≡ k = cc in
          let a : 28 ≡ paper_number k = ap paper_number i in
          let b : n ≡ m = cc in
          record { least = omega arith; most = omega arith; last = λ x. omega arith; early = λ x. absurd (omega arith) }
      go false h = no_entries (sym (ends more found zero at n st h) ∙ p)
  named (suc left) at n st k m p = go (more at) refl (found at) refl (λ next st'. named left next (n + 1) st' k m)
    where
      checked : (f : Option Refusal) (e : Entry) (next : ℕ) → more at ≡ true → found at ≡ Ok (e, next) → fault_after st e ≡ f
          → ((next : ℕ) (st' : Standing) → held_from more found left next (n + 1) st' ≡ fault k m → Named low (paper_number k) m (n + 1 + left)) → Named low (paper_number k) m (n + suc left)
      checked None e next h g f ih =
          let w = ih next (standing_after st e) (before_fault e _ k m (sym (onward more found left at n st e next h g f) ∙ p)) in
          record { least = w.least; most = w.most; last = λ x. omega (arith, w.last x); early = λ x. omega (arith, w.early x) }
      checked (Some j) e next h g f ih =
          let b = standing_faults st e j f in
          at_entry left n j k m (omega (arith, b.0)) b.1 (sym (misplaced more found left at n j st e next h g f) ∙ p)

      go : (t : Bool) → more at ≡ t → (r : Found) → found at ≡ r
          → ((next : ℕ) (st' : Standing) → held_from more found left next (n + 1) st' ≡ fault k m → Named low (paper_number k) m (n + 1 + left)) → Named low (paper_number k) m (n + suc left)
      go false h r g ih = no_entries (sym (ends more found (suc left) at n st h) ∙ p)
      go true h (Err j) g ih =
          let b = faults at j g in
          at_entry left n j k m b.0 (omega (arith, b.1)) (sym (unread more found left at n j st h g) ∙ p)
      go true h (Ok (e, next)) g ih = checked (fault_after st e) e next h g refl ih

-- bytes hold a fault from 21 to 28
pub record_faults : (s : List ℕ) (k : Refusal) (n : ℕ) → bytes_held s ≡ fault k n → Named 21 (paper_number k) n entry_limit
unfolding bytes_held
record_faults s k n p = named (λ at. ltb at (length s)) (entry_at s) 21 (omega arith) (entry_faults s) entry_limit 0 0 fresh k n p
