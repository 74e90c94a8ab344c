-- Facts of a record's operations: of any entries, and of those without a fault.
use Rattle.std.specs.Prelude.{◌≡◌, ◌≢◌, false, List, ℕ, ◌<◌, T, length}
use Rattle.record.specs.Entry.{client_limit, cell_limit}
use Rattle.record.specs.declared.Standing.{Standing}
use Rattle.law.specs.Operation.{Op}
use Rattle.law.specs.Order.{In, Pairs}
use Rattle.law.specs.laws.Steps.{kind_of}
use Rattle.law.specs.Standing.{has}

-- ---- of any entries

-- x's times: it starts with its entry, ends after that, and before entry n; if it is unfinished no stop is told
pub record Timed (n : ℕ) (x : Op) : Type 0 where
  pub below : x.number < n
  pub starts : x.start ≡ x.number
  pub stops : T x.over → (x.start < x.stop) × (x.stop < n)
  pub unstopped : x.over ≡ false → x.stop ≡ 0

-- the operations of n entries: numbers rise
pub record Numbered (n : ℕ) (ops : List Op) : Type 0 where
  pub rises : Pairs (λ x y. x.number < y.number) ops
  pub timed : (x : Op) → In x ops → Timed n x

-- ---- of a record without a fault

-- What the standing says of the operations: a client's unfinished operation is of the kind that it has open, there is one where it has
-- something open, and never two.
pub record Matches (st : Standing) (ops : List Op) : Type 0 where
  pub eight : length st.has ≡ client_limit
  pub client : (x : Op) → In x ops → x.client < client_limit
  pub cell : (x : Op) → In x ops → x.cell < cell_limit
  pub kind : (x : Op) → In x ops → x.over ≡ false → has st x.client ≡ kind_of x.write
  pub found : (k : ℕ) → has st k ≢ 0 → (x : Op) × ((In x ops) × ((x.client ≡ k) × (x.over ≡ false)))
  pub one : (x y : Op) → In x ops → In y ops → x.client ≡ y.client → x.over ≡ false → y.over ≡ false → x ≡ y
