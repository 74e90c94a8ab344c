-- What taking a slot and giving one back did, from the contracts of take and give.
use Rattle.std.specs.Prelude.{ℕ, ◌<◌, Bool, true, false, List, ◌≡◌}
use Rattle.std.proofs.Common.{ap, ◌∙◌, arith}
use Rattle.slots.specs.Free.{slot_count, first_free, taken_at}
use Rattle.slots.specs.Words.{Took}
use Rattle.slots.specs.laws.FreeLaws.{lowest_free, lowest_least, taken_else, taken_here}

-- what taking did, slot by slot: it was free, none below it was, it is no longer, and no other changed
pub record TookSlot (f g : ℕ → Bool) (r : ℕ) : Type 0 where
  pub was : f r ≡ true
  pub least : (k : ℕ) → k < r → f k ≡ false
  pub is : g r ≡ false
  pub else : (k : ℕ) → (k ≡ r → ⊥) → g k ≡ f k

pub took_slot : (f : ℕ → Bool) (r : ℕ) (ws : List ℕ) → Took f ws r → r < slot_count → TookSlot f (taken_at f r) r
took_slot f r ws p h =
    let e : r ≡ first_free f = p.slot in
    let l : first_free f < slot_count = omega arith in
    record {
      was = ap f e ∙ lowest_free f l;
      least = λ k u. lowest_least f k (omega arith);
      is = taken_here f r;
      else = taken_else f r;
    }
