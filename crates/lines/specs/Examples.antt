-- Two clients and pairs that worked examples are lines of.
use Rattle.std.specs.Prelude.{pos, negsuc}
use Rattle.stamps.specs.declared.Pair.{Pair}

-- stamp (1, 0) with value 9
abbrev pub nine : Pair
nine = record { stamp = record { number = 1; rank = 0 }; value = pos 9 }

-- stamp (2, 1) with value -5
abbrev pub below : Pair
below = record { stamp = record { number = 2; rank = 1 }; value = negsuc 4 }
