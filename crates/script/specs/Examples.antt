-- What the wrong answers that are ruled out are said of: examples.
use Rattle.std.specs.Prelude.{ℕ, List, [], ◌∷◌}

-- 3 replicas, 1 client, 1 cell, allowance 100; client 0 writes 9 to cell 0; deliver slots 0 and 1
abbrev pub bench : List ℕ
bench = 0x03 ∷ 0x01 ∷ 0x01 ∷ 0x64 ∷ 0x01 ∷ 0x00 ∷ 0x00 ∷ 0x12 ∷ 0x02 ∷ 0x00 ∷ 0x02 ∷ 0x01 ∷ []
