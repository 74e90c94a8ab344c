-- A set's members in replica order: as many as are counted, each once, and just those that the set has.
use Rattle.std.specs.Prelude.{ℕ, zero, suc, ◌+◌, ◌≤◌, ◌<◌, ◌≡◌, true}
use mathlib.Core.List.{List, [], ◌∷◌}
use Rattle.quorum.specs.Sets.{has_replica}

-- ---- membership

-- a member of the list: a replica of n from k on that the set has
pub record Member (n k s j : ℕ) : Type 0 where
  pub from : k ≤ j
  pub below : j < n + k
  pub has : has_replica s j ≡ true

-- ---- every replica

-- n numbers from k on
unfoldable pub up_from : ℕ → ℕ → List ℕ
up_from zero k = []
up_from (suc n) k = k ∷ up_from n (k + 1)
