-- Only one verdict is right, and each says exactly what it means.
use Rattle.std.specs.Prelude.{◌≡◌, refl, List, [], ◌∷◌, ℕ, ◌+◌, ◌<◌, ◌↔◌, Bool, true, false, cond}
use Rattle.std.proofs.Common.{ap, subst, arith}
use Rattle.record.specs.Entry.{cell_limit}
use Rattle.record.specs.declared.Entry.{Entry}
use Rattle.record.specs.Record.{Held, entries, fault, bytes_held}
use Rattle.record.specs.Legal.{Legal}
use Rattle.refusal.specs.declared.Refusal.{Refusal}
use Rattle.refusal.specs.declared.Refusal.TheVariants.{AskedAgain}
use Rattle.std.proofs.Math.Decide.{dec_lt}
use Rattle.record.specs.declared.Cell.{Cell}
use Rattle.number.specs.Below.{Bytes}
use Rattle.law.specs.Operation.{operations}
use Rattle.law.specs.Order.{Lawful}
use Rattle.law.proofs.theorems.Whole.{record_locality, record_locality_16}
use Rattle.verdict.specs.declared.Verdict.{Verdict}
use Rattle.verdict.specs.declared.Verdict.TheVariants.{Lawful as says_lawful, Unlawful as says_unlawful, Refused as says_refused}
use Rattle.verdict.specs.Verdict.{repeats, distinct_from, distinct, taken_for, LowestCell, RefusedBy, Judges}
use Rattle.verdict.specs.Answers.{case_of, refusal_in, entry_in, cell_in}
use Rattle.record.proofs.theorems.Trip.{reading_legal}
use Rattle.verdict.specs.Same.{SameVerdict}

-- the entries that are held have no fault
abbrev pub LegalHeld : Held → Type 0
LegalHeld h = (es : List Entry) → h ≡ entries es → Legal es

-- ---- a record is one list of entries, and no refusal

no_both : {A : Type 0} {h : Held} {es : List Entry} {k : Refusal} {n : ℕ} → h ≡ entries es → h ≡ fault k n → A
no_both p q = let z : ◌≡◌ {A = ℕ} 0 1 = cc in absurd (omega arith)

one_list : {h : Held} {es fs : List Entry} → h ≡ entries es → h ≡ entries fs → es ≡ fs
one_list p q = cc

-- ---- the lowest cell

-- there is one lowest cell
pub one_lowest : (es : List Entry) (c d : ℕ) → LowestCell es c → LowestCell es d → c ≡ d
one_lowest es c d l m = elim (dec_lt c d) [
  | yes b ↦ absurd (l.unlawful (m.below c b))
  | no b ↦ elim (dec_lt d c) [ yes g ↦ absurd (m.unlawful (l.below d g)) | no g ↦ omega (arith, b, g) ]
]

-- a lawful record has none
pub lawful_no_lowest : (es : List Entry) → Legal es → (c : ℕ) → Lawful (operations es) → LowestCell es c → ⊥
lawful_no_lowest es h c l m = m.unlawful ((record_locality es h).0 l c)

-- it is one of the sixteen
pub lowest_below : (es : List Entry) → Legal es → (c : ℕ) → LowestCell es c → c < cell_limit
lowest_below es h c m = elim (dec_lt c cell_limit) [
  | yes b ↦ b
  | no b ↦ absurd (lawful_no_lowest es h c ((record_locality_16 es h).1 (λ d l. m.below d (omega (arith, b, l)))) m)
]

-- ---- one verdict

pub only_one : (h : Held) → LegalHeld h → (v v' : Verdict) → Judges h v → Judges h v' → v ≡ v'
only_one h l says_lawful says_lawful p q = refl
only_one h l says_lawful (says_unlawful d) (es, (e, o)) (fs, (f, m)) =
    absurd (lawful_no_lowest fs (l fs f) d.0 (subst (λ (xs : List Entry). Lawful (operations xs)) (one_list e f) o) m)
only_one h l says_lawful (says_refused k n) (es, (e, o)) (r, (q, i)) = no_both e q
only_one h l (says_unlawful c) says_lawful (es, (e, m)) (fs, (f, o)) =
    absurd (lawful_no_lowest es (l es e) c.0 (subst (λ (xs : List Entry). Lawful (operations xs)) (one_list f e) o) m)
only_one h l (says_unlawful c) (says_unlawful d) (es, (e, m)) (fs, (f, o)) =
    let b : c.0 ≡ d.0 = one_lowest fs c.0 d.0 (subst (λ (xs : List Entry). LowestCell xs c.0) (one_list e f) m) o in
    ap (λ (n : ℕ). says_unlawful (record { 0 = n })) b
only_one h l (says_unlawful c) (says_refused k n) (es, (e, m)) (r, (q, i)) = no_both e q
only_one h l (says_refused k n) says_lawful (r, (p, i)) (fs, (f, o)) = no_both f p
only_one h l (says_refused k n) (says_unlawful d) (r, (p, i)) (fs, (f, o)) = no_both f p
only_one h l (says_refused k n) (says_refused i j) (r, (p, a)) (s, (q, b)) =
    let same : r ≡ s = cc in
    let entry : n ≡ j = cc in
    let number : k ≡ i = cc in
    cc

-- ---- each says exactly what it means

module _ (h : Held) (v : Verdict) (j : Judges h v) where
  pub lawful_exactly : (es : List Entry) → h ≡ entries es → Legal es → (v ≡ says_lawful) ↔ Lawful (operations es)
  lawful_exactly es e l = (
    λ q. let (fs, (f, o)) = subst (Judges h) q j in subst (λ (xs : List Entry). Lawful (operations xs)) (one_list f e) o,
    λ o. only_one h (λ fs f. subst Legal (one_list e f) l) v says_lawful j (es, (e, o)),
  )

  pub refused_exactly : (k n : ℕ) → (v ≡ says_refused k n) ↔ RefusedBy h k n
  refused_exactly k n = (
    λ q. subst (Judges h) q j,
    λ r. only_one h (λ fs f. no_both f r.1.0) v (says_refused k n) j r,
  )

-- ---- on bytes

-- 29 changes no entry
distinct_same : (earlier es : List Entry) (n : ℕ) (whole : Held) (fs : List Entry) → distinct_from earlier n es whole ≡ entries fs → whole ≡ entries fs
unfolding distinct_from
distinct_same earlier [] n whole fs p = p
distinct_same earlier (e ∷ es) n whole fs p = go (repeats earlier e) p (distinct_same (e ∷ earlier) es (n + 1) whole fs)
  where
    go : (t : Bool) → cond t (fault AskedAgain n) (distinct_from (e ∷ earlier) (n + 1) es whole) ≡ entries fs
        → (distinct_from (e ∷ earlier) (n + 1) es whole ≡ entries fs → whole ≡ entries fs) → whole ≡ entries fs
    go true q f = no_both {h = fault AskedAgain n} q refl
    go false q f = f q

-- what bytes are taken for is what they hold, and has no fault
pub taken_same : (s : List ℕ) (es : List Entry) → taken_for s ≡ entries es → bytes_held s ≡ entries es
unfolding taken_for distinct
taken_same s es p = go (bytes_held s) p
  where
    go : (h : Held) → distinct h ≡ entries es → h ≡ entries es
    go (entries fs) q = distinct_same [] fs 0 (entries fs) es q
    go (fault k n) q = q

module _ (s : List ℕ) (bytes : Bytes s) where
  pub taken_legal : LegalHeld (taken_for s)
  taken_legal es e = reading_legal s es bytes (taken_same s es e)

  -- two verdicts on the same bytes that are both right are the same, in every word
  pub one_verdict : (v v' : Verdict) → Judges (taken_for s) v → Judges (taken_for s) v' → v ≡ v'
  one_verdict v v' p q = only_one (taken_for s) taken_legal v v' p q

  -- lawful exactly when the bytes hold entries, read without fault and without 29, whose operations are lawful
  pub bytes_lawful_exactly : (v : Verdict) → Judges (taken_for s) v → (v ≡ says_lawful) ↔ ((es : List Entry) × ((taken_for s ≡ entries es) × Lawful (operations es)))
  bytes_lawful_exactly v j = (λ q. subst (Judges (taken_for s)) q j, λ o. one_verdict v says_lawful j o)

  -- unlawful cell c exactly when they hold entries and c is the lowest cell whose part isn't lawful
  pub bytes_unlawful_exactly : (v : Verdict) → Judges (taken_for s) v → (c : Cell)
      → (v ≡ says_unlawful c) ↔ ((es : List Entry) × ((taken_for s ≡ entries es) × LowestCell es c.0))
  bytes_unlawful_exactly v j c = (λ q. subst (Judges (taken_for s)) q j, λ o. one_verdict v (says_unlawful c) j o)

pub same_verdict : (s : List ℕ) → Bytes s → (v v' : Verdict) → Judges (taken_for s) v → Judges (taken_for s) v' → SameVerdict v v'
same_verdict s bytes v v' p q =
    let e = one_verdict s bytes v v' p q in
    record { says = ap case_of e; refusal = ap refusal_in e; entry = ap entry_in e; cell = ap cell_in e }
