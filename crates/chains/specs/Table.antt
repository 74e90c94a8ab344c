-- The table of writes: chains by hash, and what linking the writes and searching the table give. A link is one more than an entry's number,
-- and 0 where there is none.
use Rattle.std.specs.Prelude.{ℕ, ◌+◌, ◌*◌, ◌-◌, ◌/◌, ◌%◌, ◌≤◌, ◌<◌, ◌≡◌, Option, Some, None, List, length, get_or}
use Rattle.record.specs.Record.{entry_limit}
use Rattle.chains.specs.Chains.{Asks, Again, NoneAgain}

-- how many chains there are: twice as many as a record has entries
abbrev pub chain_count : ℕ
chain_count = 2 * entry_limit

-- the chain of a cell and a value
unfoldable pub home_of : ℕ → ℕ → ℕ
home_of cell value = (((value + cell * 65537) * 1327217885) / 1048576) % chain_count

-- an entry's chain
abbrev pub home_at : List ℕ → List ℕ → ℕ → ℕ
home_at cells values p = home_of (get_or cells p 0) (get_or values p 0)

-- entry p is below n, asks to write, and its chain is h
pub record Homed (kinds cells values : List ℕ) (n h p : ℕ) : Type 0 where
  pub below : p < n
  pub write : get_or kinds p 0 ≡ 1
  pub home : home_at cells values p ≡ h

-- the link leads to the greatest write below n whose chain is h
pub record Latest (kinds cells values : List ℕ) (n h link : ℕ) : Type 0 where
  pub one : 0 < link → Homed kinds cells values n h (link - 1)
  pub last : (p : ℕ) → Homed kinds cells values n h p → p < link

-- the table holds every write below n: a chain's head leads to its greatest, and a write's next to the greatest of its chain before it
pub record Chained (kinds cells values : List ℕ) (n : ℕ) (head next : List ℕ) : Type 0 where
  pub few : n ≤ entry_limit
  pub head_long : length head ≡ chain_count
  pub next_long : length next ≡ entry_limit
  pub heads : (h : ℕ) → h < chain_count → Latest kinds cells values n h (get_or head h 0)
  pub nexts : (p : ℕ) → p < n → get_or kinds p 0 ≡ 1 → Latest kinds cells values p (home_at cells values p) (get_or next p 0)

-- the table before the first write
pub record Empty (head next : List ℕ) : Type 0 where
  pub head_long : length head ≡ chain_count
  pub next_long : length next ≡ entry_limit
  pub no_heads : (h : ℕ) → get_or head h 0 ≡ 0

-- what searching the table gives: the last write that asks this, or none does
pub record Found (kinds cells values : List ℕ) (n cell value : ℕ) (r : Option ℕ) : Type 0 where
  pub at : (w : ℕ) → r ≡ Some w → (w < n) × Asks kinds cells values w cell value
  pub latest : (w : ℕ) → r ≡ Some w → (p : ℕ) → w < p → p < n → Asks kinds cells values p cell value → ⊥
  pub none : r ≡ None → (p : ℕ) → p < n → Asks kinds cells values p cell value → ⊥

-- next stays as it was where no write below n stands
pub record Stays (kinds : List ℕ) (n : ℕ) (was next : List ℕ) : Type 0 where
  pub same : (p : ℕ) → (p < n → get_or kinds p 0 ≡ 1 → ⊥) → get_or next p 0 ≡ get_or was p 0

-- what linking the writes gives: the whole table and none asks again; or the first that does, and the table of the writes before it
pub record Linking (kinds cells values : List ℕ) (n : ℕ) (was head next : List ℕ) (r : Option ℕ) : Type 0 where
  pub all : r ≡ None → NoneAgain kinds cells values n × Chained kinds cells values n head next
  pub all_stays : r ≡ None → Stays kinds n was next
  pub again : (p : ℕ) → r ≡ Some p → (p < n) × (Again kinds cells values p × NoneAgain kinds cells values p)
  pub begun : (p : ℕ) → r ≡ Some p → Chained kinds cells values p head next
  pub begun_stays : (p : ℕ) → r ≡ Some p → Stays kinds p was next

-- two answers that are one, and leave the same table in every number
pub record SameLink (r r' : Option ℕ) (head head' next next' : List ℕ) : Type 0 where
  pub answer : r ≡ r'
  pub heads : head ≡ head'
  pub nexts : next ≡ next'
