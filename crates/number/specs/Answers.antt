-- What an answer means: the refusal by the paper's number, the number that was read, and the place after it.
use Rattle.std.specs.Prelude.{ℕ, Option, Some, None, Ok, Err}
use Rattle.refusal.specs.Number.{paper_number}
use Rattle.number.specs.Number.{Number}

-- the refusal; 0 where nothing is refused
unfoldable pub refusal_of : Number → ℕ
refusal_of (Ok (n, next)) = 0
refusal_of (Err k) = paper_number k

-- the number that was read; 0 where it is refused
unfoldable pub number_in : Number → ℕ
number_in (Ok (n, next)) = n
number_in (Err k) = 0

-- the place after it; 0 where it is refused
unfoldable pub next_in : Number → ℕ
next_in (Ok (n, next)) = next
next_in (Err k) = 0

-- the refusal of writing: 20, the destination is too short; 0 where nothing is refused
unfoldable pub put_refusal_of : Option ℕ → ℕ
put_refusal_of (Some next) = 0
put_refusal_of None = 20

-- the place after what was written; 0 where it is refused
unfoldable pub put_next_in : Option ℕ → ℕ
put_next_in (Some next) = next
put_next_in None = 0
