-- Membership of a replica in a set, as a fact.
use Rattle.std.specs.Prelude.{ℕ, ◌≡◌, true}
use Rattle.quorum.specs.Sets.{has_replica}

-- the set has the replica
abbrev pub Has : ℕ → ℕ → Type 0
Has set k = has_replica set k ≡ true
