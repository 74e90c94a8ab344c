-- Stamps and pairs. The paper: "The rack", and *Keep* of "What each event does".
use Rattle.std.specs.Prelude.{ℕ, Bool, cond, ◌||◌, ◌&&◌, ltb, eqb, pos}
use Rattle.stamps.specs.declared.Stamp.{Stamp}
use Rattle.stamps.specs.declared.Pair.{Pair}

-- a stamp's number is at most 4,294,967,295
abbrev pub last_number : ℕ
last_number = 4294967295

-- stamps compare by number, then rank
unfoldable pub stamp_less : Stamp → Stamp → Bool
stamp_less s t = ltb s.number t.number || (eqb s.number t.number && ltb s.rank t.rank)

-- stamp (0, 0) with value 0
abbrev pub fresh_pair : Pair
fresh_pair = record { stamp = record { number = 0; rank = 0 }; value = pos 0 }

-- the pair p after a pair q came: stamp and value are taken if the stamp is greater than its own
unfoldable pub raised : Pair → Pair → Pair
raised p q = cond (stamp_less p.stamp q.stamp) q p
