-- Sets of replicas, majorities and stamps, as protocol asks for them.
use Rattle.std.specs.Prelude.{◌+◌, ◌*◌, ◌/◌, ◌%◌, ◌≡◌, true}
use Rattle.std.proofs.Common.{arith}
use Rattle.quorum.specs.declared.Quorums.{Quorums}
use Rattle.quorum.specs.Sets.{with_replica, asks_enough, keeps_enough, within}
use Rattle.quorum.proofs.theorems.SetLaws.{with_new}
use Rattle.stamps.specs.StampOrder.{rank_limit, Rank}
use Rattle.protocol.specs.View.{Setting}
use Rattle.promise.specs.Has.{Has}
use Rattle.promise.specs.laws.Meeting.{none, met}

-- sets of replicas and quorums of them; a stamp is the number `rank_limit` * number + rank
abbrev pub setting_of : Quorums → Setting
setting_of q =
    record {
      Has = Has;
      join = with_replica;
      none = none;
      joined = with_new;
      AskEnough = λ s. (within q.replicas s ≡ true) × (asks_enough q s ≡ true);
      KeepEnough = λ s. (within q.replicas s ≡ true) × (keeps_enough q s ≡ true);
      meet = met q;
      Rank = Rank;
      next = λ s c. (s / rank_limit + 1) * rank_limit + c;
      owner = λ s. s % rank_limit;
      rises = λ s c. omega arith;
      owned = λ s c h. omega arith;
    }
