-- What the judge keeps of a record's operations, by entry number: kinds, cells, values (as the numbers they are written as) and starts.
use Rattle.std.specs.Prelude.{ℕ, ◌+◌, ◌<◌, ◌≡◌, ◌⊎◌, List, true, false, cond, length, get_or, T}
use Rattle.number.specs.Value.{alternating_of}
use Rattle.record.specs.declared.Entry.{Entry}
use Rattle.record.specs.Record.{Answer, longest_record, entries, bytes_held, survey_of}
use Rattle.law.specs.Operation.{Op, operations}
use Rattle.law.specs.Order.{In}

-- so many bytes decide: those of the longest record, and one more
abbrev pub deciding_bytes : ℕ
deciding_bytes = longest_record + 1

-- entry p starts x: 0 a read, 1 a write with its value
pub record StartsAt (kinds cells values starts : List ℕ) (x : Op) (p : ℕ) : Type 0 where
  pub kind : get_or kinds p 0 ≡ cond x.write 1 0
  pub cell : get_or cells p 0 ≡ x.cell
  pub value : x.write ≡ true → get_or values p 0 ≡ alternating_of x.value
  pub start : get_or starts p 0 ≡ p

-- entry p ends x: 2 a read with its value, 3 a write
pub record EndsAt (kinds cells values starts : List ℕ) (x : Op) (p : ℕ) : Type 0 where
  pub kind : get_or kinds p 0 ≡ cond x.write 3 2
  pub cell : get_or cells p 0 ≡ x.cell
  pub value : x.write ≡ false → get_or values p 0 ≡ alternating_of x.value
  pub start : get_or starts p 0 ≡ x.number

-- the first n places hold the operations ops
pub record Paired (ops : List Op) (n : ℕ) (kinds cells values starts : List ℕ) : Type 0 where
  -- every operation is started, and ended if it is finished
  pub started : (x : Op) → In x ops → (x.number < n) × StartsAt kinds cells values starts x x.number
  pub ended : (x : Op) → In x ops → T x.over → (x.stop < n) × EndsAt kinds cells values starts x x.stop
  -- every entry starts or ends one
  pub each : (p : ℕ) → p < n
      → ((x : Op) × (In x ops × (x.number ≡ p))) ⊎ ((x : Op) × (In x ops × (T x.over × (x.stop ≡ p))))

-- what the first pass has to do: it answers as the reader's survey does, and the arrays hold the operations of a record without a fault
pub record PairsUp (s : List ℕ) (r : Answer) (kinds cells values starts : List ℕ) : Type 0 where
  pub answer : r ≡ survey_of (bytes_held s)
  pub paired : (es : List Entry) → bytes_held s ≡ entries es → Paired (operations es) (length es) kinds cells values starts
