-- What a verdict means in the paper's words, case by case: lawful or not, the refusal, and the entry or the cell that is named.
use Rattle.std.specs.Prelude.{ℕ}
use Rattle.verdict.specs.declared.Verdict.{Verdict}
use Rattle.verdict.specs.declared.Verdict.TheVariants.{Lawful as says_lawful, Unlawful as says_unlawful, Refused as says_refused}

-- which of the three it is: 0 lawful, 1 not lawful, 2 refused
unfoldable pub case_of : Verdict → ℕ
case_of says_lawful = 0
case_of (says_unlawful c) = 1
case_of (says_refused k n) = 2

-- the refusal by the paper's number; 0 where nothing is refused
unfoldable pub refusal_in : Verdict → ℕ
refusal_in says_lawful = 0
refusal_in (says_unlawful c) = 0
refusal_in (says_refused k n) = k

-- the number of the entry that is refused; 0 where nothing is
unfoldable pub entry_in : Verdict → ℕ
entry_in says_lawful = 0
entry_in (says_unlawful c) = 0
entry_in (says_refused k n) = n

-- the lowest cell whose part has no lawful order; 0 where no cell is named
unfoldable pub cell_in : Verdict → ℕ
cell_in says_lawful = 0
cell_in (says_unlawful c) = c.0
cell_in (says_refused k n) = 0
