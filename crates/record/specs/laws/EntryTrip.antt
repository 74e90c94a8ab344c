-- One entry: what was written is read, what is read was written; how long an entry's bytes are.
use Rattle.std.specs.Prelude.{ℕ, ◌+◌, ◌≤◌, List, ◌++◌, ◌≡◌, drop, length, Ok}
use Rattle.number.specs.Number.{Number}
use Rattle.record.specs.declared.Entry.{Entry}
use Rattle.record.specs.Entry.{Found}
use Rattle.record.specs.Entry.{entry_bytes}
use Rattle.record.specs.Legal.{InRange}

-- ---- what is read was written

-- the number that went on
pub record Went (r : Number) (go : ℕ → ℕ → Found) (e : Entry) (next : ℕ) : Type 0 where
  pub n : ℕ
  pub m : ℕ
  pub is : r ≡ Ok (n, m)
  pub on : go n m ≡ Ok (e, next)

-- at place at of s stand the bytes of an entry in range, up to place next
pub record WasWritten (s : List ℕ) (at : ℕ) (e : Entry) (next : ℕ) : Type 0 where
  pub bytes : drop at s ≡ entry_bytes e ++ drop next s
  pub place : next ≡ at + length (entry_bytes e)
  pub range : InRange e
  pub within : next ≤ length s
