-- The replicas that have answered: a set, one bit each, and the ones are counted. The paper: "The rack".
use Rattle.std.specs.Prelude.{ℕ, zero, suc, ◌+◌, ◌-◌, ◌*◌, ◌/◌, ◌%◌, ◌^◌, min, Bool, true, false, cond, List, [], ◌∷◌, ltb, eqb}
use Rattle.std.specs.Int.Bits.{bit_and, bit_or}
use Rattle.std.specs.Int.Count.{ones, count_trailing_zeros}
use Rattle.quorum.specs.declared.Quorums.{Quorums}

-- how many replicas a set has bits for
unfoldable pub set_bits : ℕ
set_bits = 16

-- bit k of the set says whether replica k is in it
unfoldable pub has_replica : ℕ → ℕ → Bool
has_replica set k = eqb (set / 2 ^ k % 2) 1

-- the set with replica k; the set as it is where it has no bit for k
unfoldable pub with_replica : ℕ → ℕ → ℕ
with_replica set k = cond (ltb k set_bits) (bit_or set (2 ^ k)) set

-- how many have answered: the ones are counted
abbrev pub count_of : ℕ → ℕ
count_of set = ones set

-- a majority is more than half of all n replicas, on or off
unfoldable pub majority : ℕ → ℕ → Bool
majority n set = ltb n (2 * count_of set)

-- enough told: an ask phase ends
unfoldable pub asks_enough : Quorums → ℕ → Bool
asks_enough q set = majority q.replicas set

-- enough kept: the operation ends
unfoldable pub keeps_enough : Quorums → ℕ → Bool
keeps_enough q set = majority q.replicas set

-- every replica of n, as far as a set has bits
unfoldable pub every_replica : ℕ → ℕ
every_replica n = 2 ^ min n set_bits - 1

-- each replica of n not in the set
unfoldable pub others : ℕ → ℕ → ℕ
others n set = every_replica n - bit_and (every_replica n) set

-- the set has no replica that isn't there
unfoldable pub within : ℕ → ℕ → Bool
within n set = ltb set (2 ^ n)

-- k before the others where it is a member
abbrev pub keep_if : Bool → ℕ → List ℕ → List ℕ
keep_if true k ks = k ∷ ks
keep_if false k ks = ks

-- the members among the n replicas from k on, in order
unfoldable pub members_from : ℕ → ℕ → ℕ → List ℕ
members_from zero k set = []
members_from (suc n) k set = keep_if (has_replica set k) k (members_from n (k + 1) set)

-- the members among n replicas, in replica order
abbrev pub members_of : ℕ → ℕ → List ℕ
members_of n set = members_from n 0 set

-- the set without replica k
unfoldable pub without_replica : ℕ → ℕ → ℕ
without_replica set k = cond (has_replica set k) (set - 2 ^ k) set

-- the lowest replica of the set: as many zeros stand below its lowest one; of no replicas set_bits
unfoldable pub lowest_of : ℕ → ℕ
lowest_of set = count_trailing_zeros set_bits set

-- the set without its lowest replica: without that bit
unfoldable pub rest_of : ℕ → ℕ
rest_of set = set - 2 ^ lowest_of set
