-- What the judge's parts say of the operations that the arrays hold, and that this is the verdict.
use Rattle.std.specs.Prelude.{ℕ, ◌≤◌, ◌<◌, length, get_or, Ok, Err}
use Rattle.std.proofs.Math.Path.{◌≡◌, refl, subst}
use Rattle.std.proofs.Common.{sym, ap, ◌∙◌, arith}
use mathlib.Core.List.{List}
use Rattle.number.specs.Below.{byte_limit}
use Rattle.record.specs.Entry.{cell_limit}
use Rattle.record.specs.declared.Entry.{Entry}
use Rattle.refusal.specs.declared.Refusal.{Refusal}
use Rattle.refusal.specs.declared.Refusal.TheVariants.{AskedAgain}
use Rattle.refusal.specs.Number.{paper_number}
use Rattle.record.specs.Record.{Answer, Held, entries, fault, bytes_held, survey_of}
use Rattle.record.specs.Legal.{Legal}
use Rattle.law.specs.Operation.{Op, operations}
use Rattle.law.specs.Order.{Lawful}
use Rattle.law.specs.Part.{of_cell}
use Rattle.law.proofs.theorems.Operations.{numbered, legal_cell}
use Rattle.law.proofs.theorems.Whole.{part_lawful, record_locality_16}
use Rattle.pairs.specs.Pairs.{PairsUp}
use Rattle.chains.specs.Chains.{Again}
use Rattle.clusters.specs.laws.Arrays.{Arrays, arrays, Fit, Fresh, Tally, Swept, LowestIn}
use Rattle.clusters.specs.laws.Bridge.{Holds, fits}
use Rattle.clusters.specs.laws.CellLaw.{unmarked_lawful, marked_unlawful}
use Rattle.clusters.specs.laws.Shown.{all_shown}
use Rattle.verdict.specs.declared.Verdict.{Verdict}
use Rattle.verdict.specs.declared.Verdict.TheVariants.{Lawful as says_lawful, Unlawful as says_unlawful, Refused as says_refused}
use Rattle.verdict.specs.Verdict.{distinct, taken_for, Judges}
use Rattle.verdict.specs.laws.Repeats.{distinct_none, distinct_named}
use Rattle.record.proofs.theorems.Trip.{reading_legal}

-- r is the lowest cell whose operations have no lawful order, 16 if there is none
pub record LowestOf (ops : List Op) (r : ℕ) : Type 0 where
  pub within : r ≤ cell_limit
  pub below : (c : ℕ) → c < r → Lawful (of_cell c ops)
  pub unlawful : r < cell_limit → ¬ Lawful (of_cell r ops)

-- whatever operations the arrays hold
abbrev pub Settles : Arrays → ℕ → ℕ → Type 0
Settles a n r = (ops : List Op) → Holds a n ops → LowestOf ops r

-- whatever record without a fault the arrays hold, r is the verdict on it
abbrev pub JudgesIn : Arrays → ℕ → Verdict → Type 0
JudgesIn a n r = (es : List Entry) → Legal es → length es ≡ n → Holds a n (operations es) → Judges (distinct (entries es)) r

-- the passes settle it
pub settles : (a : Arrays) (n r : ℕ) (least most zero was bad : List ℕ) → Fresh a n → Tally a n n least most zero was → Swept a n least most zero was bad → LowestIn bad r
    → Settles a n r
settles a n r least most zero was bad fresh t s l ops h =
    record {
      within = l.within;
      below = λ c b. unmarked_lawful a n ops h fresh least most zero was t c (omega (arith, b, l.within)) bad s (l.below c b);
      unlawful = λ b. marked_unlawful a n ops h fresh least most zero was t r b bad s (l.marked b);
    }

module _ (a : Arrays) (n : ℕ) (es : List Entry) (legal : Legal es) (count : length es ≡ n) (h : Holds a n (operations es)) where
  held : Holds a (length es) (operations es)
  held = subst (λ (m : ℕ). Holds a m (operations es)) (sym count) h

  -- an entry asks again: 29, and the first such entry
  pub judges_again : (p : ℕ) → p < n → Again a.kinds a.cells a.values p → Fresh a p → Judges (distinct (entries es)) (says_refused 29 p)
  unfolding paper_number
  judges_again p l k f = (AskedAgain, (distinct_named a es p (all_shown a es legal held) (omega arith) k f, refl))

  module _ (fresh : Fresh a n) (r : ℕ) (low : LowestOf (operations es) r) where
    taken : distinct (entries es) ≡ entries es
    taken = distinct_none a es (all_shown a es legal held) (λ p l. fresh p (omega (arith, l, count)))

    -- no cell has a fault
    pub judges_lawful : cell_limit ≤ r → Judges (distinct (entries es)) says_lawful
    judges_lawful b = (es, (taken, (record_locality_16 es legal).1 (λ c l. (part_lawful c es legal).0 (low.below c (omega arith)))))

    -- the lowest cell that has one
    pub judges_unlawful : r < cell_limit → Judges (distinct (entries es)) (says_unlawful (record { 0 = r }))
    judges_unlawful b = (
      es,
      (
        taken,
        record {
          unlawful = λ l. low.unlawful b ((part_lawful r es legal).1 l);
          below = λ c l. (part_lawful c es legal).0 (low.below c l);
        },
      ),
    )

-- ---- from bytes

module _ (s : List ℕ) (kinds cells values starts : List ℕ) (r : Answer) (p : PairsUp s r kinds cells values starts) where
  -- a fault of the bytes is the verdict
  pub judges_fault : (k : Refusal) (n : ℕ) → r ≡ Err (k, n) → Judges (taken_for s) (says_refused (paper_number k) n)
  unfolding taken_for distinct survey_of
  judges_fault k n e = (k, (go (bytes_held s) (sym p.answer ∙ e), refl))
    where
      go : (h : Held) → survey_of h ≡ Err (k, n) → distinct h ≡ fault k n
      go (entries es) q = let z : ◌≡◌ {A = ℕ} 0 1 = cc in absurd (omega arith)
      go (fault i j) q = let both : ◌≡◌ {A = Refusal × ℕ} (i, j) (k, n) = cc in ap (λ (x : Refusal × ℕ). fault x.0 x.1) both

  module _ (bytes : (i : ℕ) → get_or s i 0 < byte_limit) (n : ℕ) (all : r ≡ Ok n) where
    -- the entries that the bytes hold
    record_of : (es : List Entry) × ((bytes_held s ≡ entries es) × (length es ≡ n))
    unfolding survey_of
    record_of = go (bytes_held s) refl (sym p.answer ∙ all)
      where
        go : (h : Held) → bytes_held s ≡ h → survey_of h ≡ Ok n → (es : List Entry) × ((bytes_held s ≡ entries es) × (length es ≡ n))
        go (entries es) e q = (es, (e, cc))
        go (fault i j) e q = let z : ◌≡◌ {A = ℕ} 0 1 = cc in absurd (omega arith)

    -- and the arrays hold them
    holds_all : (es : List Entry) → bytes_held s ≡ entries es → length es ≡ n → Holds (arrays kinds cells values starts) n (operations es)
    holds_all es e l =
        let legal = reading_legal s es bytes e in
        record {
          few = omega (arith, legal.few, l);
          cells = legal_cell es legal;
          numbered = rw l at (numbered es);
          paired = rw l at (p.paired es e);
        }

    pub fit_all : Fit (arrays kinds cells values starts) n
    fit_all = let w = record_of in fits (arrays kinds cells values starts) n (operations w.0) (holds_all w.0 w.1.0 w.1.1)

    -- the verdict on the arrays is the verdict on the bytes
    pub judges_all : (v : Verdict) → JudgesIn (arrays kinds cells values starts) n v → Judges (taken_for s) v
    unfolding taken_for
    judges_all v j =
        let w = record_of in
        let k = j w.0 (reading_legal s w.0 bytes w.1.0) w.1.1 (holds_all w.0 w.1.0 w.1.1) in
        subst (λ (h : Held). Judges (distinct h) v) (sym w.1.0) k
