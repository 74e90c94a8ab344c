-- The paper's numbers and values in the answers.
use Rattle.std.specs.Prelude.{ℕ, List, [], ◌∷◌, Ok, Err}
use Rattle.refusal.specs.Number.{paper_number}
use Rattle.play.specs.Play.{Recorded}

-- the refusal: of the script's fault, of the maker, or of the first event that was refused; 0 for none
unfoldable pub refusal_in : Recorded → ℕ
refusal_in (Err (refusal, byte)) = paper_number refusal
refusal_in (Ok (refusal, count)) = refusal

-- the byte where the number at fault begins; no byte where the script has no fault
unfoldable pub fault_in : Recorded → List ℕ
fault_in (Err (refusal, byte)) = byte ∷ []
fault_in (Ok (refusal, count)) = []

-- how many bytes were written
unfoldable pub count_in : Recorded → ℕ
count_in (Err (refusal, byte)) = 0
count_in (Ok (refusal, count)) = count
