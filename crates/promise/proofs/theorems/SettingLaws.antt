-- The setting of a rack with some quorums, for the argument of crate protocol: sets of replicas, quorums and stamps with the few laws that it asks for.
-- This file alone knows what sets and quorums are (stamps are numbers by StampOrder.antt of stamps); the rest of the crate goes by these names.
use Rattle.std.specs.Prelude.{ℕ, ◌<◌, ◌≡◌, true}
use Rattle.std.proofs.Common.{⊎_elim, arith, ltb-true}
use mathlib.Core.List.{Memᴰ}
use Rattle.quorum.specs.declared.Quorums.{Quorums}
use Rattle.quorum.specs.Sets.{with_replica, asks_enough, keeps_enough, within, members_of}
use Rattle.quorum.proofs.theorems.SetLaws.{within_below, below_within, with_new, with_below}
use Rattle.quorum.proofs.theorems.Members.{members_has}
use Rattle.stamps.specs.declared.Stamp.{Stamp}
use Rattle.stamps.specs.declared.Pair.{Pair}
use Rattle.rack.specs.declared.Settings.{Settings}
use Rattle.stamps.specs.StampOrder.{stamp_of, Rank, Ranked}
use Rattle.rack.specs.Sound.{pair_fits}
use Rattle.rack.specs.laws.SoundLaws.{Sized}
use Rattle.method.specs.Method.{Follows}
use Rattle.promise.specs.laws.Meeting.{none}
use Rattle.promise.specs.Setting.{setting_of}

-- ---- sets, and ranks

-- in a rack of permitted sizes every client has a rank, and every pair that fits one
pub client_rank : (z : Settings) → Sized z → (c : ℕ) → c < z.clients → Rank c
client_rank z n c h = omega (arith, n.clients)

pub fits_ranked : (z : Settings) → Sized z → (p : Pair) → pair_fits z p ≡ true → Ranked p.stamp
unfolding pair_fits
fits_ranked z n p e = client_rank z n p.stamp.rank (ltb-true p.stamp.rank z.clients e)

-- ---- the laws

-- a set of n replicas with one of them more is one
within_more : (n s k : ℕ) → within n s ≡ true → k < n → within n (with_replica s k) ≡ true
within_more n s k e h = below_within n (with_replica s k) (with_below n s k (within_below n s e) h)

-- ---- the setting

-- a set of replicas with one of them more, when the method finds it enough
pub ask_enough : (q : Quorums) (s k : ℕ) → within q.replicas s ≡ true → k < q.replicas → asks_enough q (with_replica s k) ≡ true → (setting_of q).AskEnough (with_replica s k)
ask_enough q s k e h b = (within_more q.replicas s k e h, b)

pub keep_enough : (q : Quorums) (s k : ℕ) → within q.replicas s ≡ true → k < q.replicas → keeps_enough q (with_replica s k) ≡ true → (setting_of q).KeepEnough (with_replica s k)
keep_enough q s k e h b = (within_more q.replicas s k e h, b)

-- the stamp that the method gives to a write is the next one
pub next_stamp : (q : Quorums) (c : ℕ) (s t : Stamp) → Ranked s → Follows c s t → (setting_of q).next (stamp_of s) c ≡ stamp_of t
next_stamp q c s t h f = omega (arith, f.number, f.rank)

-- ---- who is sent to

-- a set of one replica has no other
pub only : (n s k j : ℕ) → s ≡ with_replica 0 k → Memᴰ j (members_of n s) → j ≡ k
only n s k j e m = ⊎_elim (λ q. q) (λ h. absurd (none j h)) (with_new 0 k j (rw e at (members_has n s j m)))

-- the empty set has none
pub nobody : (n s j : ℕ) → s ≡ 0 → Memᴰ j (members_of n s) → ⊥
nobody n s j e m = none j (rw e at (members_has n s j m))
