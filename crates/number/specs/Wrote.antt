-- What a run of writes leaves.
use Rattle.std.specs.Prelude.{ℕ, ◌+◌, List, ◌≡◌, length}
use Rattle.std.proofs.lemmas.List.Edits.{sets}

-- from place at on the numbers stand in the list, next is the place after them, and all else is as it was before
pub record Wrote (before : List ℕ) (at : ℕ) (numbers : List ℕ) (next : ℕ) (after : List ℕ) : Type 0 where
  pub place : next ≡ at + length numbers
  pub list : after ≡ sets before at numbers
