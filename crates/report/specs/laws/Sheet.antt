-- The lines that the paper gives.
use Rattle.std.specs.Prelude.{◌≡◌, refl, [], ◌∷◌}
use Rattle.text.specs.Text.{digits_of, decimal}
use Rattle.record.specs.declared.Cell.{Cell}
use Rattle.verdict.specs.declared.Verdict.TheVariants.{Lawful, Unlawful, Refused}
use Rattle.report.specs.Line.{line_of}

-- `lawful`
pub lawful_line_lem : line_of Lawful ≡ 108 ∷ 97 ∷ 119 ∷ 102 ∷ 117 ∷ 108 ∷ 10 ∷ []
unfolding line_of
lawful_line_lem = refl

-- `unlawful cell 2`
pub unlawful_line : (cell : Cell) → cell.0 ≡ 2 → line_of (Unlawful cell) ≡ 117 ∷ 110 ∷ 108 ∷ 97 ∷ 119 ∷ 102 ∷ 117 ∷ 108 ∷ 32 ∷ 99 ∷ 101 ∷ 108 ∷ 108 ∷ 32 ∷ 50 ∷ 10 ∷ []
unfolding line_of digits_of
unlawful_line cell e = rw e refl

-- `refused 26 at entry 4`
pub refused_line_lem : line_of (Refused 26 4) ≡ 114 ∷ 101 ∷ 102 ∷ 117 ∷ 115 ∷ 101 ∷ 100 ∷ 32 ∷ 50 ∷ 54 ∷ 32 ∷ 97 ∷ 116 ∷ 32 ∷ 101 ∷ 110 ∷ 116 ∷ 114 ∷ 121 ∷ 32 ∷ 52 ∷ 10 ∷ []
unfolding line_of digits_of
refused_line_lem = refl

-- `2048`, the greatest number that stands in a line
pub greatest : decimal 2048 ≡ 50 ∷ 48 ∷ 52 ∷ 56 ∷ []
unfolding digits_of
greatest = refl
