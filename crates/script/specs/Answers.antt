-- The paper's numbers and values in the answers.
use Rattle.std.specs.Prelude.{ℕ, List, [], ◌∷◌, Ok, Err}
use Rattle.refusal.specs.Number.{paper_number}
use Rattle.script.specs.Script.{Words}

-- the refusal: 15 or 21 to 23; 0 for none
unfoldable pub refusal_of : Words → ℕ
refusal_of (Ok (x, y, z, n, next)) = 0
refusal_of (Err (k, byte)) = paper_number k

-- the place after what was read, or the byte where the number at fault begins
unfoldable pub place_in : Words → ℕ
place_in (Ok (x, y, z, n, next)) = next
place_in (Err (k, byte)) = byte

-- the four numbers
unfoldable pub four_in : Words → List ℕ
four_in (Ok (x, y, z, n, next)) = x ∷ y ∷ z ∷ n ∷ []
four_in (Err (k, byte)) = []
