-- Stamps as numbers, in whose order they stand.
use Rattle.std.specs.Prelude.{ℕ, ◌+◌, ◌*◌, ◌<◌}
use Rattle.stamps.specs.declared.Stamp.{Stamp}

-- ranks are digits; so many there are
abbrev pub rank_limit : ℕ
rank_limit = 256

-- a stamp as one number: the rank is its last digit
abbrev pub stamp_of : Stamp → ℕ
stamp_of s = s.number * rank_limit + s.rank

-- a client's number that can be a rank
abbrev pub Rank : ℕ → Type 0
Rank c = c < rank_limit

-- a stamp whose rank is one
abbrev pub Ranked : Stamp → Type 0
Ranked s = Rank s.rank
