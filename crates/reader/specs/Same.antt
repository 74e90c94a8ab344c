-- When two outcomes of a call are one.
use Rattle.std.specs.Prelude.{◌≡◌}
use Rattle.record.specs.Entry.{Found}
use Rattle.record.specs.Same.{SameFound}
use Rattle.reader.specs.declared.ReadingHead.{ReadingHead}

-- two outcomes whose answers are one, and which leave the same head
pub record SameTake (r r' : Found) (k k' : ReadingHead) : Type 0 where
  pub answer : SameFound r r'
  pub head : k ≡ k'
