-- The moves can be made: in a rack of one replica and two clients, client 0 writes 9 and then client 1 reads it. So the theorem speaks of something.
use Rattle.std.specs.Prelude.{◌≡◌, refl, Bool, true, false, ℕ, ◌≤◌, eqb, pos}
use Rattle.std.proofs.Common.{arith}
use Rattle.protocol.specs.Move.{start, hear, choose, take, count, finish, Reached, first, then}
use Rattle.protocol.proofs.theorems.Stays.{tell_true, keep_true, kept_true}
use Rattle.protocol.proofs.theorems.Atomic.{reached_keeps}
use Rattle.protocol.specs.Examples.{one, nine, asked, chose, wrote, asked', chose', read}

-- ---- client 0 writes 9 to cell 0, as operation 0

asked_reached : Reached one asked
asked_reached = then first (start 0 0 0 true (pos 9)) (refl, (omega arith, λ i e p. absurd (omega arith)))

chose_reached : Reached one chose
chose_reached =
    then (then asked_reached (hear 0 0 (asked.pair 0 0)) (refl, tell_true one asked (reached_keeps one asked_reached) 0 0 (omega arith))) (choose 0) (refl, refl)

wrote_reached : Reached one wrote
wrote_reached =
    then (then (then chose_reached (take 0 0 0 nine) (keep_true chose 0 (omega arith))) (count 0 0) (refl, kept_true chose 0 0 0 nine (keep_true chose 0 (omega arith))))
    (finish 0) (refl, refl)

-- ---- client 1 reads cell 0, as operation 1

asked'_reached : Reached one asked'
asked'_reached = then wrote_reached (start 1 1 0 false (pos 0)) (refl, (omega arith, free))
  where
    free : (i : ℕ) → (wrote.ops i).call.client ≡ 1 → 1 ≤ (wrote.ops i).phase → 3 ≤ (wrote.ops i).phase
    free i e p = go (eqb i 0) refl
      where
        -- operation 0 has ended, and no other has begun
        go : (t : Bool) → eqb i 0 ≡ t → 3 ≤ (wrote.ops i).phase
        go true q = rw q (omega arith)
        go false q = absurd (let z : 1 ≤ 0 = rw q at p in omega arith)

chose'_reached : Reached one chose'
chose'_reached =
    then (then asked'_reached (hear 1 0 (asked'.pair 0 0)) (refl, tell_true one asked' (reached_keeps one asked'_reached) 1 0 (omega arith))) (choose 1) (refl, refl)

pub read_reached : Reached one read
read_reached =
    then (then (then chose'_reached (take 1 0 0 nine) (keep_true chose' 1 (omega arith))) (count 1 0) (refl, kept_true chose' 1 0 0 nine (keep_true chose' 1 (omega arith))))
    (finish 1) (refl, refl)

-- the read has ended, and gives 9
pub read_nine : ((read.ops 1).phase ≡ 3) × ((read.ops 1).held.value ≡ pos 9)
read_nine = (refl, refl)
