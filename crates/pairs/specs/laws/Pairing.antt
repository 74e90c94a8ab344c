-- The first pass on its way: n entries are read and kept, the next one stands at place at of the bytes.
use Rattle.std.specs.Prelude.{◌≡◌, List, [], ◌∷◌, ℕ, ltb, length}
use Rattle.record.specs.declared.Entry.{Entry}
use Rattle.record.specs.declared.Standing.{Standing}
use Rattle.record.specs.Entry.{client_limit, entry_at}
use Rattle.record.specs.Record.{fresh, Held, before, held_from, bytes_held}
use Rattle.record.specs.Legal.{Follows}
use Rattle.record.specs.laws.Steps.{Counting}
use Rattle.law.specs.Operation.{operations}
use Rattle.law.specs.Standing.{standing}
use Rattle.pairs.specs.Pairs.{Paired}
use Rattle.pairs.specs.laws.Noting.{Long, Low}
use Rattle.pairs.specs.laws.Next.{OpenAt}

-- ---- entries before what is held after them

-- a list of entries before what is held after them; a fault stays as it is
unfoldable pub prepend : List Entry → Held → Held
prepend [] h = h
prepend (e ∷ es) h = before e (prepend es h)

-- ---- the arrays

-- n entries are read without a fault, and the arrays hold their operations; by client, opened has where an open one starts
pub record Pairing (s kinds cells values starts opened : List ℕ) (st : Standing) (at n : ℕ) : Type 0 where
  pub counting : Counting (λ i. ltb i (length s)) (entry_at s) (λ e. 1) (bytes_held s) at n n st
  pub read : List Entry
  pub count : length read ≡ n
  pub follows : Follows fresh read
  pub stands : standing read ≡ st
  pub held : bytes_held s ≡ prepend read (held_from (λ i. ltb i (length s)) (entry_at s) counting.left at n st)
  pub long : Long kinds cells values starts
  pub paired : Paired (operations read) n kinds cells values starts
  pub eight : length opened ≡ client_limit
  pub low : Low opened
  pub open_at : OpenAt (operations read) opened
