-- The paper's majorities: 1 of 1, 2 of 2, 2 of 3, 3 of 4, 8 of 15; and the sets of the bench's sizes.
use Rattle.std.specs.Prelude.{[], ◌∷◌, true, false, ◌≡◌, refl}
use Rattle.std.specs.Int.Count.{ones}
use Rattle.quorum.specs.Sets.{has_replica, with_replica, set_bits, asks_enough, keeps_enough, majority, every_replica, others, within, members_of, members_from}
use Rattle.quorum.specs.Shared.{Least, four}
use Rattle.quorum.proofs.theorems.SetLaws.{least}

pub one_of_1 : Least 1 1
one_of_1 = least 1

pub two_of_2 : Least 2 2
two_of_2 = least 2

pub two_of_3 : Least 3 2
two_of_3 = least 3

pub three_of_4 : Least 4 3
three_of_4 = least 4

pub eight_of_15 : Least 15 8
eight_of_15 = least 15

-- two of four are half, and not enough; three are
pub half_of_4 : asks_enough four 0b0101 ≡ false
unfolding asks_enough majority ones
half_of_4 = refl

pub most_of_4 : keeps_enough four 0b1101 ≡ true
unfolding keeps_enough majority ones
most_of_4 = refl

-- of five, replicas 1 and 3 have answered
pub other_three : others 5 0b01010 ≡ 0b10101
unfolding others every_replica set_bits
other_three = refl

pub in_order : members_of 5 0b10101 ≡ 0 ∷ 2 ∷ 4 ∷ []
unfolding members_from has_replica
in_order = refl

pub one_more : with_replica 0b01010 4 ≡ 0b11010
unfolding with_replica set_bits
one_more = refl

-- a set has no bit for a replica beyond its bits
pub none_more : with_replica 0b01010 set_bits ≡ 0b01010
unfolding with_replica set_bits
none_more = refl

-- of four replicas number 4 isn't there
pub not_of_4 : within 4 0b10000 ≡ false
unfolding within
not_of_4 = refl
