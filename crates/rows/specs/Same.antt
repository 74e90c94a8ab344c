-- When two outcomes of a call are one.
use Rattle.std.specs.Prelude.{ℕ, List, ◌≡◌, Bool}
use Rattle.record.specs.Record.{Answer}
use Rattle.record.specs.Same.{SameAnswer}

-- an entry stored: whether it has room, and the lent rows
pub record OneStored (r r' : Bool) (d d' : List ℕ) : Type 0 where
  pub answer : r ≡ r'
  pub lent : d ≡ d'

-- two outcomes whose answers are one, and which leave the same in the lent memory
pub record SameOutcome (r r' : Answer) (d d' : List ℕ) : Type 0 where
  pub answer : SameAnswer r r'
  pub lent : d ≡ d'
