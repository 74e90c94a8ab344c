-- No other outcome fits a call, and wrong ones do not meet its contract.
use Rattle.std.specs.Prelude.{ℕ, ◌≡◌, refl, List, [], ◌∷◌, Err}
use Rattle.std.proofs.Common.{sym, ap, ◌∙◌, arith}
use Rattle.refusal.specs.declared.Refusal.TheVariants.{EndsFirst}
use Rattle.refusal.specs.Number.{paper_number}
use Rattle.number.specs.Number.{number_at, number_of, taken, last_of, and_then}
use Rattle.text.specs.Text.{digits_of, Printed}
use Rattle.text.specs.laws.OnlyOne.{only_one}
use Rattle.script.specs.Script.{head_of, script_of}
use Rattle.rack.specs.declared.Ran.{Ran}
use Rattle.rack.specs.Sound.{settings_fit}
use Rattle.rack.specs.Run.{made_of}
use Rattle.lines.specs.Lines.{fault_line}
use Rattle.play.specs.Play.{Recorded, played_of, drill_text, record_bytes_of, recorded_of, Records}
use Rattle.play.specs.Answers.{refusal_in, fault_in, count_in}
use Rattle.play.specs.Same.{SameRan, SameRecorded}

-- ---- play

pub one_played : (s : List ℕ) (replicas clients cells allowance first : ℕ) (q q' : Ran)
    → q ≡ played_of s replicas clients cells allowance first → q' ≡ played_of s replicas clients cells allowance first → SameRan q q'
one_played s replicas clients cells allowance first q q' a b =
    let e : q ≡ q' = a ∙ sym b in
    record { done = ap (λ (x : Ran). x.done) e; refusal = ap (λ (x : Ran). x.refusal) e; rack = ap (λ (x : Ran). x.rack) e }

-- a maker of 16 replicas is refused 1
pub refused_made : (played_of (0x07 ∷ 0x00 ∷ []) 16 1 1 9 0).refusal ≡ 1
unfolding played_of made_of settings_fit
refused_made = refl

pub none_done : (played_of (0x07 ∷ 0x00 ∷ []) 16 1 1 9 0).done ≡ 0
unfolding played_of made_of settings_fit
none_done = refl

-- it is not passed over, and nothing is run on its rack
pub not_passed_over : (q : Ran) → q ≡ played_of (0x07 ∷ 0x00 ∷ []) 16 1 1 9 0 → q.refusal ≡ 0 → ⊥
not_passed_over q p h = omega (arith, ap (λ (x : Ran). x.refusal) p, refused_made)

pub not_run : (q : Ran) → q ≡ played_of (0x07 ∷ 0x00 ∷ []) 16 1 1 9 0 → q.done ≡ 1 → ⊥
not_run q p h = omega (arith, ap (λ (x : Ran). x.done) p, none_done)

-- ---- drill

pub one_drilled : (before s : List ℕ) {r t : ℕ} {after other : List ℕ} → Printed before 0 (drill_text s) r after → Printed before 0 (drill_text s) t other → (r ≡ t) × (after ≡ other)
one_drilled before s a b = only_one before 0 (drill_text s) a b

-- of no bytes it is said that they are refused 21 at byte 0
pub nothing_drilled : drill_text [] ≡ 114 ∷ 101 ∷ 102 ∷ 117 ∷ 115 ∷ 101 ∷ 100 ∷ 32 ∷ 50 ∷ 49 ∷ 32 ∷ 97 ∷ 116 ∷ 32 ∷ 98 ∷ 121 ∷ 116 ∷ 101 ∷ 32 ∷ 48 ∷ 10 ∷ []
unfolding drill_text script_of head_of and_then number_at number_of taken last_of paper_number fault_line digits_of
nothing_drilled = refl

-- that is not left unsaid
pub not_silent : (after : List ℕ) → Printed (7 ∷ []) 0 (drill_text []) 0 after → ⊥
unfolding drill_text script_of head_of and_then number_at number_of taken last_of paper_number fault_line digits_of
not_silent after p = omega (arith, p.place)

pub not_unwritten : (r : ℕ) → Printed (7 ∷ []) 0 (drill_text []) r (7 ∷ []) → ⊥
unfolding drill_text script_of head_of and_then number_at number_of taken last_of paper_number fault_line digits_of
not_unwritten r p = let e : ◌≡◌ {A = List ℕ} (7 ∷ []) (114 ∷ []) = p.list in
    let z : ◌≡◌ {A = ℕ} 7 114 = cc in omega arith

-- ---- record_run

pub one_recorded : (s before : List ℕ) (r r' : Recorded) (after other : List ℕ) → Records s before r after → Records s before r' other → SameRecorded r r' after other
one_recorded s before r r' after other a b =
    let e : r ≡ r' = a.answer ∙ sym b.answer in
    record { refusal = ap refusal_in e; fault = ap fault_in e; count = ap count_in e; same = e; lent = a.lent ∙ sym b.lent }

-- no bytes are no script: refused 21 at byte 0, and nothing is written
pub nothing_recorded : recorded_of [] 1 ≡ Err (EndsFirst, 0)
unfolding recorded_of script_of head_of and_then number_at number_of taken last_of
nothing_recorded = refl

-- that is not passed over as a run, and the lent bytes are not cleared
pub not_run_of_nothing : (r : Recorded) (after : List ℕ) → Records [] (7 ∷ []) r after → refusal_in r ≡ 0 → ⊥
unfolding refusal_in paper_number
not_run_of_nothing r after p h = let e = ap refusal_in (p.answer ∙ nothing_recorded) in omega (arith, e)

pub not_cleared : (r : Recorded) → Records [] (7 ∷ []) r (0 ∷ []) → ⊥
unfolding record_bytes_of script_of head_of and_then number_at number_of taken last_of
not_cleared r p = let e : ◌≡◌ {A = List ℕ} (0 ∷ []) (7 ∷ []) = p.lent in
    let z : ◌≡◌ {A = ℕ} 0 7 = cc in omega arith

-- what they say: a fault is 21 at byte 0 with no bytes written
pub says_fault : (refusal_in (recorded_of [] 1) ≡ 21) × ((fault_in (recorded_of [] 1) ≡ 0 ∷ []) × (count_in (recorded_of [] 1) ≡ 0))
unfolding refusal_in paper_number fault_in count_in
says_fault = (ap refusal_in nothing_recorded, (ap fault_in nothing_recorded, ap count_in nothing_recorded))
