-- Which refusals the judge can give: those of reading, 21 to 28, and 29. Never 20: nothing is lent.
use Rattle.std.specs.Prelude.{ℕ, ◌+◌, ◌≤◌, ◌≡◌, refl, Bool, true, false, cond, List, [], ◌∷◌}
use Rattle.std.proofs.Common.{◌∙◌, subst, arith}
use Rattle.record.specs.declared.Entry.{Entry}
use Rattle.record.specs.Record.{Held, entries, fault, bytes_held}
use Rattle.refusal.specs.declared.Refusal.{Refusal}
use Rattle.refusal.specs.declared.Refusal.TheVariants.{AskedAgain}
use Rattle.refusal.specs.Number.{paper_number}
use Rattle.record.proofs.theorems.Refusals.{record_faults, no_entries}
use Rattle.verdict.specs.declared.Verdict.TheVariants.{Refused as says_refused}
use Rattle.verdict.specs.Verdict.{repeats, distinct_from, distinct, taken_for, Judges}

-- one of 21 to 29
abbrev Judging : Refusal → Type 0
Judging k = (21 ≤ paper_number k) × (paper_number k ≤ 29)

-- 29 after reading
distinct_refusals : (earlier es : List Entry) (n : ℕ) (whole : Held) (k : Refusal) (m : ℕ) → (whole ≡ fault k m → Judging k) → distinct_from earlier n es whole ≡ fault k m → Judging k
unfolding distinct_from paper_number
distinct_refusals earlier [] n whole k m h p = h p
distinct_refusals earlier (e ∷ es) n whole k m h p = go (repeats earlier e) p (distinct_refusals (e ∷ earlier) es (n + 1) whole k m h)
  where
    go : (t : Bool) → cond t (fault AskedAgain n) (distinct_from (e ∷ earlier) (n + 1) es whole) ≡ fault k m
        → (distinct_from (e ∷ earlier) (n + 1) es whole ≡ fault k m → Judging k) → Judging k
    go true q f = let i : AskedAgain ≡ k = cc in subst Judging i (omega arith, omega arith)
    go false q f = f q

pub taken_refusals : (s : List ℕ) (k : Refusal) (n : ℕ) → taken_for s ≡ fault k n → (21 ≤ paper_number k) × (paper_number k ≤ 29)
unfolding taken_for distinct
taken_refusals s k n p = go (bytes_held s) refl p
  where
    go : (h : Held) → bytes_held s ≡ h → distinct h ≡ fault k n → Judging k
    go (entries es) e q = distinct_refusals [] es 0 (entries es) k n (λ r. no_entries r) q
    go (fault i j) e q = let b = record_faults s k n (e ∙ q) in (b.least, omega (arith, b.most))

-- a refusal by the judge is one of 21 to 29
pub judges_refusals : (s : List ℕ) (k n : ℕ) → Judges (taken_for s) (says_refused k n) → (21 ≤ k) × (k ≤ 29)
judges_refusals s k n (r, (q, i)) = let b = taken_refusals s r n q in (omega (arith, b.0, i), omega (arith, b.1, i))
