-- Whole records in rows and in lent memory: what was written is read, what is read is written back byte for byte, and a refusal leaves all as it was.
use Rattle.std.specs.Prelude.{ℕ, List, ◌≡◌, take, drop, length}
use Rattle.record.specs.declared.Entry.{Entry}
use Rattle.record.specs.Record.{Held, entries}

-- ---- lent memory

-- what a reader's or a writer's answer of all says: the entries that are held, and what stands in the lent memory
pub record Took (h : Held) (f : List Entry → List ℕ) (d lent : List ℕ) (n : ℕ) : Type 0 where
  pub all : List Entry
  pub held : h ≡ entries all
  pub long : length (f all) ≡ n
  pub front : take n lent ≡ f all
  pub beyond : drop n lent ≡ drop n d
