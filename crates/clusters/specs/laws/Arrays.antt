-- What the judge's arrays hold: the record's entries by number, the zones of clusters by their writes' numbers, the last read of zero and
-- the faults by cell.
use Rattle.std.specs.Prelude.{ℕ, ◌+◌, ◌*◌, ◌≤◌, ◌<◌, min, ◌≡◌, ◌≢◌, ◌⊎◌, Option, Some, None, cond, List, eqb, ltb, length, get_or}
use Rattle.record.specs.Record.{entry_limit}
use Rattle.record.specs.Entry.{cell_limit}
use Rattle.record.specs.declared.Cell.{Cell}
use Rattle.chains.specs.declared.Entries.{Entries}
use Rattle.chains.specs.Chains.{Asks, NoneAgain}
use Rattle.chains.specs.Table.{Chained}

-- ---- the entries

-- the arrays of a record's entries: kind, cell, value and start of each (Paired of crate pairs)
abbrev pub Arrays : Type 0
Arrays = Entries

-- the four arrays as one
abbrev pub arrays : List ℕ → List ℕ → List ℕ → List ℕ → Arrays
arrays kinds cells values starts = record { kinds = kinds; cells = cells; values = values; starts = starts }

-- the kind of entry p: 0 read asked, 1 write asked, 2 told, 3 done
abbrev pub kind_at : Arrays → ℕ → ℕ
kind_at a p = get_or a.kinds p 0

-- the cell of the operation that entry p starts or ends
abbrev pub cell_at : Arrays → ℕ → ℕ
cell_at a p = get_or a.cells p 0

-- the value of entry p, as the number that it is written as; 0 where it has none
abbrev pub value_at : Arrays → ℕ → ℕ
value_at a p = get_or a.values p 0

-- the start entry of the operation that entry p starts or ends
abbrev pub start_at : Arrays → ℕ → ℕ
start_at a p = get_or a.starts p 0

-- what the judge leans on: n entries at most 2,048, cells below 16, no start after its end, and each end of a read has a start of its own
pub record Fit (a : Arrays) (n : ℕ) : Type 0 where
  pub few : n ≤ entry_limit
  pub cell : (p : ℕ) → p < n → cell_at a p < cell_limit
  pub back : (p : ℕ) → p < n → start_at a p ≤ p
  pub read : (p : ℕ) → p < n → kind_at a p ≡ 2 → kind_at a (start_at a p) ≡ 0
  pub one : (p q : ℕ) → p < n → q < n → kind_at a p ≡ 2 → kind_at a q ≡ 2 → start_at a p ≡ start_at a q → p ≡ q

-- no entry asks again what an earlier one asked
abbrev pub Fresh : Arrays → ℕ → Type 0
Fresh a n = NoneAgain a.kinds a.cells a.values n

-- entry w asks for a write
abbrev pub IsWrite : Arrays → ℕ → ℕ → Type 0
IsWrite a n w = (w < n) × (kind_at a w ≡ 1)

-- entry w asks to write what entry p tells
abbrev pub Asked : Arrays → ℕ → ℕ → Type 0
Asked a w p = Asks a.kinds a.cells a.values w (cell_at a p) (value_at a p)

-- entry p ends a read of what w asks to write
abbrev pub ReadOf : Arrays → ℕ → ℕ → Type 0
ReadOf a w p = (kind_at a p ≡ 2) × Asked a w p

-- entry p ends an operation of the cluster of w: w itself, or a read of it
abbrev pub Joins : Arrays → ℕ → ℕ → Type 0
Joins a w p = ((kind_at a p ≡ 3) × (start_at a p ≡ w)) ⊎ ReadOf a w p

-- entry p ends a read of zero of the cell c
abbrev pub ZeroOf : Arrays → ℕ → ℕ → Type 0
ZeroOf a c p = (kind_at a p ≡ 2) × (value_at a p ≡ 0) × (cell_at a p ≡ c)

-- entry p ends a read of something else
abbrev pub TellsAt : Arrays → ℕ → Type 0
TellsAt a p = (kind_at a p ≡ 2) × (value_at a p ≢ 0)

-- ---- what a pass has seen

-- xs holds at each key the greatest f of the places below p that stand in R to it, or its base
pub record Greatest (Key : ℕ → Type 0) (R : ℕ → ℕ → Type 0) (f base : ℕ → ℕ) (p : ℕ) (xs : List ℕ) : Type 0 where
  pub above : (k : ℕ) → Key k → base k ≤ get_or xs k 0
  pub high : (k q : ℕ) → Key k → q < p → R k q → f q ≤ get_or xs k 0
  pub at : (k : ℕ) → Key k → (get_or xs k 0 ≡ base k) ⊎ ((q : ℕ) × (q < p) × R k q × (get_or xs k 0 ≡ f q))

-- xs holds at each key the least of the places below p that stand in R to it, or far
pub record Least (Key : ℕ → Type 0) (R : ℕ → ℕ → Type 0) (far p : ℕ) (xs : List ℕ) : Type 0 where
  pub low : (k q : ℕ) → Key k → q < p → R k q → get_or xs k 0 ≤ q
  pub at : (k : ℕ) → Key k → (get_or xs k 0 ≡ far) ⊎ ((q : ℕ) × (q < p) × R k q × (get_or xs k 0 ≡ q))

-- w asks to write what the read that ends at p tells, and doesn't start after that
abbrev pub Source : Arrays → ℕ → ℕ → ℕ → Type 0
Source a n p w = IsWrite a n w × Asked a w p × (w ≤ p)

-- what the read that ends at p tells is no zero, and no write that starts before p asks it
abbrev pub Unsourced : Arrays → ℕ → ℕ → Type 0
Unsourced a n p = TellsAt a p × ((w : ℕ) → IsWrite a n w → Asked a w p → p < w)

-- bad marks the cells in which a read that ends below p has no source
pub record Sources (a : Arrays) (n p : ℕ) (bad : List ℕ) : Type 0 where
  pub sourced : (q : ℕ) → q < p → TellsAt a q → get_or bad (cell_at a q) 0 ≡ 0 → (w : ℕ) × Source a n q w
  pub unsourced : (c : ℕ) → c < cell_limit → get_or bad c 0 ≢ 0 → (q : ℕ) × (q < p) × (cell_at a q ≡ c) × Unsourced a n q

-- how many places clusters have, among them one beyond those of all entries
abbrev pub place_count : ℕ
place_count = 2 * entry_limit

-- a least stop that isn't there: above every place
abbrev pub far : ℕ
far = 65535

-- the stop of a write that ends at p; far where the entry ends no write
unfoldable pub stop_of : ℕ → ℕ → ℕ
stop_of kind p = cond (eqb kind 3) p far

-- the pass over the ends, up to place p
pub record Tally (a : Arrays) (n p : ℕ) (least most zero bad : List ℕ) : Type 0 where
  pub least_long : length least ≡ entry_limit
  pub most_long : length most ≡ entry_limit
  pub zero_long : length zero ≡ cell_limit
  pub bad_long : length bad ≡ cell_limit
  -- least stops and greatest starts of the clusters
  pub lows : Least (IsWrite a n) (Joins a) far p least
  pub highs : Greatest (IsWrite a n) (ReadOf a) (start_at a) (λ w. w) p most
  -- greatest starts of the reads of zero
  pub zeros : Greatest (λ c. c < cell_limit) (ZeroOf a) (start_at a) (λ c. 0) p zero
  pub marks : Sources a n p bad

-- what the judge knows of the arrays and of the table of writes
pub record Ready (a : Arrays) (n : ℕ) (head next : List ℕ) : Type 0 where
  pub fit : Fit a n
  pub fresh : Fresh a n
  pub table : Chained a.kinds a.cells a.values n head next

-- where the pass over the ends has come to
pub record Taking (a : Arrays) (n p : ℕ) (head next least most zero bad : List ℕ) : Type 0 where
  pub ready : Ready a n head next
  pub below : p < n
  pub tally : Tally a n p least most zero bad

-- each of the first n is its own number
pub record OwnNumbers (n : ℕ) (most : List ℕ) : Type 0 where
  pub long : length most ≡ entry_limit
  pub own : (i : ℕ) → i < n → get_or most i 0 ≡ i

-- ---- the sweep

-- the place of a cluster in the sweep
abbrev pub place_of : List ℕ → List ℕ → ℕ → ℕ
place_of least most w = min (get_or least w 0) (get_or most w 0)

-- clusters have places of their own, below n
pub record Placed (a : Arrays) (n : ℕ) (least most : List ℕ) : Type 0 where
  pub inside : (w : ℕ) → IsWrite a n w → place_of least most w < n
  pub apart : (w x : ℕ) → IsWrite a n w → IsWrite a n x → place_of least most w ≡ place_of least most x → w ≡ x

-- at has the writes below p at their places, and nothing else; beyond them is a place for what is no write
pub record Scattered (a : Arrays) (n : ℕ) (least most : List ℕ) (p : ℕ) (at : List ℕ) : Type 0 where
  pub long : length at ≡ place_count
  pub here : (w : ℕ) → IsWrite a n w → w < p → get_or at (place_of least most w) 0 ≡ w
  pub only : (q : ℕ) → q < entry_limit → (get_or at q 0 ≡ far) ⊎ (IsWrite a n (get_or at q 0) × (get_or at q 0 < p) × (place_of least most (get_or at q 0) ≡ q))

-- what scattering needs
pub record Scattering (a : Arrays) (n : ℕ) (least most : List ℕ) : Type 0 where
  pub fit : Fit a n
  pub own : Placed a n least most

-- w is a write of the cell c
abbrev pub WriteOf : Arrays → ℕ → ℕ → ℕ → Type 0
WriteOf a n c w = IsWrite a n w × (cell_at a w ≡ c)

-- a cluster of the cell c ends before the last read of zero begins, or two cross
abbrev pub Crossed : Arrays → ℕ → List ℕ → List ℕ → List ℕ → ℕ → Type 0
Crossed a n least most zero c =
    ((w : ℕ) × WriteOf a n c w × (get_or least w 0 < get_or zero c 0))
    ⊎ ((w x : ℕ) × WriteOf a n c w × WriteOf a n c x × (w ≢ x) × (get_or least w 0 < get_or most x 0) × (get_or least x 0 < get_or most w 0))

-- a cell's mark: 1 once a cluster's least stop comes before the cell's reach
unfoldable pub mark_of : ℕ → ℕ → ℕ → ℕ
mark_of least reach mark = cond (ltb least reach) 1 mark

-- the sweep up to place p: how far each cell reaches, and which are bad beside those that were (was)
pub record Sweeping (a : Arrays) (n : ℕ) (least most zero was : List ℕ) (p : ℕ) (reach bad : List ℕ) : Type 0 where
  pub reach_long : length reach ≡ cell_limit
  pub bad_long : length bad ≡ cell_limit
  pub upper : (w : ℕ) → IsWrite a n w → place_of least most w < p → get_or most w 0 ≤ get_or reach (cell_at a w) 0
  pub first : (c : ℕ) → get_or zero c 0 ≤ get_or reach c 0
  pub attained : (c : ℕ) → (get_or reach c 0 ≡ get_or zero c 0) ⊎ ((w : ℕ) × WriteOf a n c w × (place_of least most w < p) × (get_or reach c 0 ≡ get_or most w 0))
  pub kept : (c : ℕ) → get_or bad c 0 ≡ 0 → get_or was c 0 ≡ 0
  pub early : (w : ℕ) → IsWrite a n w → place_of least most w < p → get_or bad (cell_at a w) 0 ≡ 0 → get_or zero (cell_at a w) 0 ≤ get_or least w 0
  pub done : (w x : ℕ) → IsWrite a n w → IsWrite a n x → place_of least most w < p → place_of least most x < place_of least most w
      → cell_at a w ≡ cell_at a x → get_or bad (cell_at a w) 0 ≡ 0 → get_or most x 0 ≤ get_or least w 0
  pub why : (c : ℕ) → get_or bad c 0 ≢ 0 → (get_or was c 0 ≢ 0) ⊎ Crossed a n least most zero c

-- what place p does to the sweep, whatever the last reads of zero are and whichever cells were bad before
abbrev pub Visited : Arrays → ℕ → List ℕ → List ℕ → ℕ → List ℕ → List ℕ → List ℕ → List ℕ → Type 0
Visited a n least most p reach bad reach' bad' =
    (zero was : List ℕ) → Sweeping a n least most zero was p reach bad → Sweeping a n least most zero was (p + 1) reach' bad'

-- the whole sweep: bad marks the cells that were bad and those with a fault, and no others
pub record Swept (a : Arrays) (n : ℕ) (least most zero was bad : List ℕ) : Type 0 where
  pub kept : (c : ℕ) → get_or bad c 0 ≡ 0 → get_or was c 0 ≡ 0
  pub clear : (c : ℕ) → get_or bad c 0 ≡ 0 → ¬ Crossed a n least most zero c
  pub why : (c : ℕ) → get_or bad c 0 ≢ 0 → (get_or was c 0 ≢ 0) ⊎ Crossed a n least most zero c

-- what the sweep needs
pub record Sweepable (a : Arrays) (n : ℕ) (least most at : List ℕ) : Type 0 where
  pub fit : Fit a n
  pub own : Placed a n least most
  pub scattered : Scattered a n least most n at

-- the lowest marked cell, 16 if none is
pub record LowestIn (bad : List ℕ) (r : ℕ) : Type 0 where
  pub within : r ≤ cell_limit
  pub below : (c : ℕ) → c < r → get_or bad c 0 ≡ 0
  pub marked : r < cell_limit → get_or bad r 0 ≢ 0

-- a cell's number, 16 where there is none
abbrev pub cell_or_limit : Option Cell → ℕ
cell_or_limit (Some c) = c.0
cell_or_limit None = cell_limit
