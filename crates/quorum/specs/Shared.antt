-- What laws of sets are made of: a replica that two sets share, a list that rises, how many are enough.
use Rattle.std.specs.Prelude.{ℕ, ◌<◌, ◌≤◌, ◌≡◌, true, false}
use Rattle.quorum.specs.declared.Quorums.{Quorums}
use Rattle.quorum.specs.Sets.{has_replica, count_of, majority}
use mathlib.Core.List.{List, [], ◌∷◌, Memᴰ}

-- a replica of n that both sets have
pub record Shared (n a b : ℕ) : Type 0 where
  pub replica : ℕ
  pub there : replica < n
  pub first : has_replica a replica ≡ true
  pub second : has_replica b replica ≡ true

-- each is below all that follow it
abbrev pub Rising : List ℕ → Type 0
Rising [] = Unit {0}
Rising (k ∷ ks) = ((j : ℕ) → Memᴰ j ks → k < j) × Rising ks

-- a count of k is enough for a majority of n, and less is not
pub record Least (n k : ℕ) : Type 0 where
  pub enough : (s : ℕ) → k ≤ count_of s → majority n s ≡ true
  pub fewer : (s : ℕ) → count_of s < k → majority n s ≡ false

-- four replicas
abbrev pub four : Quorums
four = record { replicas = 4 }
