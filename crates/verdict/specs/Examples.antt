-- What the wrong answers that are ruled out are said of: examples.
use Rattle.std.specs.Prelude.{ℕ, List, [], ◌∷◌}

-- the sheet's bytes with last byte 00
abbrev pub stale : List ℕ
stale = 0x01 ∷ 0x00 ∷ 0x02 ∷ 0x0A ∷ 0x03 ∷ 0x00 ∷ 0x00 ∷ 0x01 ∷ 0x02 ∷ 0x02 ∷ 0x01 ∷ 0x00 ∷ []
