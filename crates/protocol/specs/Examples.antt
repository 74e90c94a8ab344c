-- A write of 9 and a read of it, move by move, in a rack of one replica.
use Rattle.std.specs.Prelude.{◌≡◌, true, false, suc, ◌+◌, ◌*◌, ◌/◌, ◌%◌, ◌<◌, pos}
use Rattle.std.proofs.Common.{inl, arith}
use Rattle.protocol.specs.View.{Setting, Pair, View}
use Rattle.protocol.specs.Move.{start, hear, choose, take, count, finish, after, fresh}

-- replica 0 alone is enough; a stamp is number * 2 + rank
abbrev pub one : Setting
one =
    record {
      Has = λ s r. s ≡ suc r;
      join = λ s r. suc r;
      none = λ r e. omega arith;
      joined = λ s r q e. inl (omega arith);
      AskEnough = λ s. s ≡ 1;
      KeepEnough = λ s. s ≡ 1;
      meet = λ a b x y. (0, (x, y));
      Rank = λ c. c < 2;
      next = λ s c. (s / 2 + 1) * 2 + c;
      owner = λ s. s % 2;
      rises = λ s c. omega arith;
      owned = λ s c l. omega arith;
    }

-- stamp (1, 0), which is 2, and value 9
abbrev pub nine : Pair
nine = record { stamp = 2; value = pos 9 }

-- the write has started
abbrev pub asked : View
asked = after one fresh (start 0 0 0 true (pos 9))

-- replica 0 has told, and the write has chosen its pair
abbrev pub chose : View
chose = after one (after one asked (hear 0 0 (asked.pair 0 0))) (choose 0)

-- replica 0 has kept that pair, and the write has ended
abbrev pub wrote : View
wrote = after one (after one (after one chose (take 0 0 0 nine)) (count 0 0)) (finish 0)

-- the read has started
abbrev pub asked' : View
asked' = after one wrote (start 1 1 0 false (pos 0))

-- replica 0 has told, and the read has chosen the pair told
abbrev pub chose' : View
chose' = after one (after one asked' (hear 1 0 (asked'.pair 0 0))) (choose 1)

-- replica 0 has kept that pair, and the read has ended
abbrev pub read : View
read = after one (after one (after one chose' (take 1 0 0 nine)) (count 1 0)) (finish 1)
