-- What the wrong answers that are ruled out are said of: examples.
use Rattle.std.specs.Prelude.{ℕ, List, [], ◌∷◌}

-- client 0 writes 5 to cell 2, client 1 reads 5
abbrev pub sheet_bytes : List ℕ
sheet_bytes = 0x01 ∷ 0x00 ∷ 0x02 ∷ 0x0A ∷ 0x03 ∷ 0x00 ∷ 0x00 ∷ 0x01 ∷ 0x02 ∷ 0x02 ∷ 0x01 ∷ 0x0A ∷ []
