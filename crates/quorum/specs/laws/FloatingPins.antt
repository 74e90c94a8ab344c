-- Errors that look healthy, as far as they are of sets, and what refuses each: proved of the definitions alone. The paper: "Floating pins".
use Rattle.std.specs.Prelude.{ℕ, ◌*◌, ◌^◌, ◌≤◌, ◌≡◌, refl, Bool, true, false, ltb}
use Rattle.std.proofs.Common.{ap, sym, ◌∙◌, arith, le-ltb}
use Rattle.std.specs.Int.Bits.{bit_or}
use Rattle.quorum.specs.declared.Quorums.{Quorums}
use Rattle.quorum.specs.Sets.{set_bits, with_replica, count_of, majority, asks_enough, keeps_enough}
use Rattle.quorum.specs.laws.Bits.{or_bit, same_bits}

-- replicas are counted and not answers: one more answer of the same replica leaves the count
pub replica_counts_once : (set k : ℕ) → count_of (with_replica (with_replica set k) k) ≡ count_of (with_replica set k)
unfolding with_replica
replica_counts_once set k = ap count_of (go (ltb k set_bits) refl)
  where
    joined : (s : ℕ) → ltb k set_bits ≡ true → with_replica s k ≡ bit_or s (2 ^ k)
    joined s e = rw e

    twice : bit_or (bit_or set (2 ^ k)) (2 ^ k) ≡ bit_or set (2 ^ k)
    twice = same_bits (bit_or (bit_or set (2 ^ k)) (2 ^ k)) (bit_or set (2 ^ k)) (λ j. omega (arith, or_bit (bit_or set (2 ^ k)) (2 ^ k) j, or_bit set (2 ^ k) j))

    go : (t : Bool) → ltb k set_bits ≡ t → with_replica (with_replica set k) k ≡ with_replica set k
    go true e = joined (with_replica set k) e ∙ ap (λ (x : ℕ). bit_or x (2 ^ k)) (joined set e) ∙ twice ∙ sym (joined set e)
    go false e = rw e

-- while no more than half of the replicas have answered it is not enough, for an ask or for a keep: those that are silent don't count
pub half_is_not_enough : (q : Quorums) (set : ℕ) → 2 * count_of set ≤ q.replicas → (asks_enough q set ≡ false) × (keeps_enough q set ≡ false)
unfolding asks_enough keeps_enough majority
half_is_not_enough q set few = let e : ltb q.replicas (2 * count_of set) ≡ false = le-ltb q.replicas (2 * count_of set) few in (e, e)
