-- The bench sheet's record and the same with last byte 00, as verdicts on bytes: any verdict that meets the judge's contract is this one. And the
-- first 16,385 bytes decide.
use Rattle.std.specs.Prelude.{ℕ, zero, suc, ◌<◌, ◌≡◌, refl, Bool, true, false, ◌&&◌, List, [], ◌∷◌, ◌++◌, ltb, take}
use Rattle.std.proofs.Common.{ap, arith, ltb-true}
use Rattle.number.specs.Number.{taken, last_of, value_of, number_of, number_at, and_then}
use Rattle.number.specs.Value.{alternating_of, signed_of}
use Rattle.record.specs.declared.Cell.{Cell}
use Rattle.record.specs.declared.Entry.{Entry}
use Rattle.number.specs.Below.{byte_limit, Bytes}
use Rattle.record.specs.Entry.{up_to, fields_at, entry_at}
use Rattle.record.specs.Record.{entries, fault_after, standing_after, before, unless_refused, enter, held_from, bytes_held}
use Rattle.record.specs.Examples.{sheet_bytes}
use Rattle.record.specs.laws.Sheet.{sheet_reads}
use Rattle.law.specs.Operation.{operations}
use Rattle.law.specs.Order.{Lawful}
use Rattle.law.specs.Part.{part_from, part_of}
use Rattle.law.specs.laws.Sheet.{good, bad}
use Rattle.law.proofs.theorems.Sheet.{empty_lawful, good_lawful, bad_cell}
use Rattle.pairs.specs.Pairs.{deciding_bytes}
use Rattle.pairs.specs.laws.Enough.{enough}
use Rattle.verdict.specs.declared.Verdict.{Verdict}
use Rattle.verdict.specs.declared.Verdict.TheVariants.{Lawful as says_lawful, Unlawful as says_unlawful, Refused as says_refused}
use Rattle.verdict.specs.Verdict.{asks_for, asked_among, repeats, distinct_from, distinct, taken_for, LowestCell, Judges}
use Rattle.verdict.specs.Answers.{case_of, refusal_in, entry_in, cell_in}
use Rattle.refusal.specs.declared.Refusal.TheVariants.{AskedAgain}
use Rattle.refusal.specs.Number.{paper_number}
use Rattle.verdict.specs.laws.OnlyOne.{one_verdict, refused_exactly}
use Rattle.verdict.specs.laws.Sheet.{twice}
use Rattle.verdict.specs.Examples.{stale}

-- the first 16,385 bytes of any input decide the verdict on it
pub decides : (s : List ℕ) → taken_for (take deciding_bytes s) ≡ taken_for s
unfolding taken_for
decides s = ap distinct (enough s)

-- ---- how a line of the sheet is shown

-- numbers that are bytes
unfoldable pub all_bytes : List ℕ → Bool
all_bytes [] = true
all_bytes (b ∷ s) = ltb b byte_limit && all_bytes s

both : (t u : Bool) → (t && u) ≡ true → (t ≡ true) × (u ≡ true)
both true u e = (refl, e)
both false u e = let z : ◌≡◌ {A = ℕ} 0 1 = cc in absurd (omega arith)

all_bytes_lem : (s : List ℕ) → all_bytes s ≡ true → Bytes s
unfolding all_bytes
all_bytes_lem [] e i = omega arith
all_bytes_lem (b ∷ s) e zero = ltb-true b byte_limit (both (ltb b byte_limit) (all_bytes s) e).0
all_bytes_lem (b ∷ s) e (suc i) = all_bytes_lem s (both (ltb b byte_limit) (all_bytes s) e).1 i

-- the right verdict is the only one
pub no_other : (s : List ℕ) → all_bytes s ≡ true → (v : Verdict) → Judges (taken_for s) v → (w : Verdict) → Judges (taken_for s) w → w ≡ v
no_other s e v p w q = one_verdict s (all_bytes_lem s e) w v q p

-- where all is about cell 2, it is the lowest that isn't lawful
pub lowest_2 : (es : List Entry) → part_of 0 es ≡ [] → part_of 1 es ≡ [] → ¬ Lawful (operations (part_of 2 es)) → LowestCell es 2
lowest_2 es p q n = record { unlawful = n; below = below }
  where
    below : (d : ℕ) → d < 2 → Lawful (operations (part_of d es))
    below zero l = rw p empty_lawful
    below (suc zero) l = rw q empty_lawful
    below (suc (suc d)) l = absurd (omega arith)

-- ---- the sheet's record: lawful

taken_twelve : taken_for sheet_bytes ≡ entries good
unfolding taken_for distinct distinct_from repeats asked_among asks_for alternating_of
taken_twelve = ap distinct sheet_reads

pub twelve_judged : Judges (taken_for sheet_bytes) says_lawful
twelve_judged = (good, (taken_twelve, good_lawful))

pub twelve_verdict : (v : Verdict) → Judges (taken_for sheet_bytes) v → v ≡ says_lawful
unfolding all_bytes
twelve_verdict = no_other sheet_bytes refl says_lawful twelve_judged

-- ---- with last byte 00: unlawful cell 2

taken_stale : taken_for stale ≡ entries bad
unfolding taken_for distinct distinct_from repeats asked_among asks_for bytes_held held_from enter unless_refused before fault_after standing_after entry_at fields_at and_then up_to number_at number_of value_of
    last_of taken alternating_of signed_of
taken_stale = refl

pub stale_judged : Judges (taken_for stale) (says_unlawful (record { 0 = 2 }))
unfolding part_of part_from
stale_judged = (bad, (taken_stale, lowest_2 bad refl refl bad_cell))

pub stale_verdict : (v : Verdict) → Judges (taken_for stale) v → v ≡ says_unlawful (record { 0 = 2 })
unfolding all_bytes
stale_verdict = no_other stale refl (says_unlawful (record { 0 = 2 })) stale_judged

-- ---- wrong answers that the contract rules out

pub not_always_lawful : Judges (taken_for stale) says_lawful → ⊥
not_always_lawful j = let e = stale_verdict says_lawful j in let z : ◌≡◌ {A = ℕ} 0 1 = cc in omega arith

pub not_always_unlawful : (c : Cell) → Judges (taken_for sheet_bytes) (says_unlawful c) → ⊥
not_always_unlawful c j = let e = twelve_verdict (says_unlawful c) j in let z : ◌≡◌ {A = ℕ} 0 1 = cc in omega arith

pub not_always_refused : (k n : ℕ) → Judges (taken_for sheet_bytes) (says_refused k n) → ⊥
not_always_refused k n j = let e = twelve_verdict (says_refused k n) j in let z : ◌≡◌ {A = ℕ} 0 1 = cc in omega arith

pub not_another_cell : (c : Cell) → (c.0 ≡ 2 → ⊥) → Judges (taken_for stale) (says_unlawful c) → ⊥
unfolding cell_in
not_another_cell c n j = n (ap cell_in (stale_verdict (says_unlawful c) j))

-- ---- what answers say

-- the sheet's record: 0, lawful; with last byte 00: 1, not lawful, and cell 2; with its first entry again: 2, refused, 29 at entry 4
pub says_lawful_lem : (v : Verdict) → Judges (taken_for sheet_bytes) v → (case_of v ≡ 0) × (refusal_in v ≡ 0) × (entry_in v ≡ 0) × (cell_in v ≡ 0)
unfolding case_of refusal_in entry_in cell_in
says_lawful_lem v j = let e = twelve_verdict v j in (ap case_of e, ap refusal_in e, ap entry_in e, ap cell_in e)

pub says_cell_2 : (v : Verdict) → Judges (taken_for stale) v → (case_of v ≡ 1) × (refusal_in v ≡ 0) × (entry_in v ≡ 0) × (cell_in v ≡ 2)
unfolding case_of refusal_in entry_in cell_in
says_cell_2 v j = let e = stale_verdict v j in (ap case_of e, ap refusal_in e, ap entry_in e, ap cell_in e)

pub says_29 : (v : Verdict) → Judges (taken_for (sheet_bytes ++ (0x01 ∷ 0x00 ∷ 0x02 ∷ 0x0A ∷ []))) v → (case_of v ≡ 2) × (refusal_in v ≡ 29) × (entry_in v ≡ 4) × (cell_in v ≡ 0)
unfolding case_of refusal_in entry_in cell_in paper_number
says_29 v j =
    let e : v ≡ says_refused 29 4 = (refused_exactly (taken_for (sheet_bytes ++ (0x01 ∷ 0x00 ∷ 0x02 ∷ 0x0A ∷ []))) v j 29 4).1 (AskedAgain, (twice, refl)) in
    (ap case_of e, ap refusal_in e, ap entry_in e, ap cell_in e)
