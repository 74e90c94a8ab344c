-- The line that the judge program writes for a verdict. The paper: "What lawful means", its last sentence.
use Rattle.std.specs.Prelude.{ℕ, List, [], ◌∷◌, ◌++◌}
use Rattle.text.specs.Text.{field, refused_word, line_feed}
use Rattle.verdict.specs.declared.Verdict.{Verdict}
use Rattle.verdict.specs.declared.Verdict.TheVariants.{Lawful, Unlawful, Refused}

-- so many bytes have room for every line
abbrev pub line_room : ℕ
line_room = 64

-- "lawful" and a line feed
abbrev pub lawful_line : List ℕ
lawful_line = 108 ∷ 97 ∷ 119 ∷ 102 ∷ 117 ∷ 108 ∷ 10 ∷ []

-- "unlawful cell "
abbrev pub unlawful_words : List ℕ
unlawful_words = 117 ∷ 110 ∷ 108 ∷ 97 ∷ 119 ∷ 102 ∷ 117 ∷ 108 ∷ 32 ∷ 99 ∷ 101 ∷ 108 ∷ 108 ∷ 32 ∷ []

-- " at entry "
abbrev pub entry_words : List ℕ
entry_words = 32 ∷ 97 ∷ 116 ∷ 32 ∷ 101 ∷ 110 ∷ 116 ∷ 114 ∷ 121 ∷ 32 ∷ []

-- the line
unfoldable pub line_of : Verdict → List ℕ
line_of Lawful = lawful_line
line_of (Unlawful cell) = field unlawful_words cell.0 ++ line_feed
line_of (Refused number entry) = field refused_word number ++ (field entry_words entry ++ line_feed)
