-- No other outcome fits a call: two that both meet its contract answer the same and leave the same bytes, and wrong ones do not meet it.
use Rattle.std.specs.Prelude.{ℕ, ◌≤◌, ◌≡◌, List, get_or}
use Rattle.std.proofs.Common.{ap, sym, ◌∙◌, arith}
use Rattle.number.specs.Wrote.{Wrote}
use Rattle.text.specs.Text.{digits_of}
use Rattle.verdict.specs.declared.Verdict.{Verdict}
use Rattle.verdict.specs.declared.Verdict.TheVariants.{Lawful, Refused}
use Rattle.report.specs.Line.{line_room, line_of}
use Rattle.report.specs.Examples.{room}

-- what is answered and what stands in the lent bytes afterwards
pub only_one : (before : List ℕ) (v : Verdict) {r s : ℕ} {after other : List ℕ} → Wrote before 0 (line_of v) r after × (r ≤ line_room)
    → Wrote before 0 (line_of v) s other × (s ≤ line_room) → (r ≡ s) × (after ≡ other)
only_one before v a b = (a.0.place ∙ sym b.0.place, a.0.list ∙ sym b.0.list)

-- `lawful` has its line feed: it isn't six bytes
pub not_six_bytes : (after : List ℕ) → Wrote room 0 (line_of Lawful) 6 after → ⊥
unfolding line_of
not_six_bytes after w = let e : ◌≡◌ {A = ℕ} 6 7 = w.place in omega arith

-- what lies beyond the line stays
pub not_cleared_beyond : (r : ℕ) (after : List ℕ) → Wrote room 0 (line_of Lawful) r after → get_or after 7 0 ≡ 0 → ⊥
unfolding line_of
not_cleared_beyond r after w q = let e : get_or after 7 0 ≡ 9 = ap (λ (l : List ℕ). get_or l 7 0) w.list in omega arith

-- `refused 26 at entry 4`: where 4 stands there is no 2
pub not_number_for_entry : (r : ℕ) (after : List ℕ) → Wrote room 0 (line_of (Refused 26 4)) r after → get_or after 20 0 ≡ 50 → ⊥
unfolding line_of digits_of
not_number_for_entry r after w q = let e : get_or after 20 0 ≡ 52 = ap (λ (l : List ℕ). get_or l 20 0) w.list in omega arith
