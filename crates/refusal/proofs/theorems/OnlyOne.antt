-- No other outcome fits `Refusal::number`: two that both meet its contract are the same, and wrong ones do not meet it.
use Rattle.std.specs.Prelude.{ℕ, ◌≡◌}
use Rattle.std.proofs.Common.{◌∙◌, sym, arith}
use Rattle.refusal.specs.declared.Refusal.{Refusal}
use Rattle.refusal.specs.declared.Refusal.TheVariants.{ClientStopped, TooShort}
use Rattle.refusal.specs.Number.{paper_number}

pub one_number : (k : Refusal) (r r' : ℕ) → r ≡ paper_number k → r' ≡ paper_number k → r ≡ r'
one_number k r r' p q = p ∙ sym q

-- 6 is not a stopped client's, but that of a start while an operation is open; nor is 15 that of what is lent too short, but an unknown code's
pub not_6_of_stopped : (r : ℕ) → r ≡ paper_number ClientStopped → r ≡ 6 → ⊥
unfolding paper_number
not_6_of_stopped r p q = omega arith

pub not_15_of_short : (r : ℕ) → r ≡ paper_number TooShort → r ≡ 15 → ⊥
unfolding paper_number
not_15_of_short r p q = omega arith
