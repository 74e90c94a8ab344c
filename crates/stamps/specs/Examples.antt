-- What the wrong answers that are ruled out are said of: examples.
use Rattle.std.specs.Prelude.{ℕ, pos}
use Rattle.stamps.specs.declared.Stamp.{Stamp}
use Rattle.stamps.specs.declared.Pair.{Pair}

-- a number and a client's rank
abbrev pub stamp : ℕ → ℕ → Stamp
stamp number rank = record { number = number; rank = rank }

-- stamp (number, rank) with a value that is not below zero
abbrev pub pair_of : ℕ → ℕ → ℕ → Pair
pair_of number rank value = record { stamp = stamp number rank; value = pos value }
