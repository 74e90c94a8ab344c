-- What an answer means: the refusal by the paper's number, the entry it names, and what is handed out where nothing is refused.
use Rattle.std.specs.Prelude.{ℕ, List, [], Ok, Err}
use Rattle.refusal.specs.Number.{paper_number}
use Rattle.record.specs.Entry.{Found, entry_bytes}
use Rattle.record.specs.Record.{Answer}

-- the refusal of an entry; 0 where one was found
unfoldable pub found_refusal : Found → ℕ
found_refusal (Ok (e, next)) = 0
found_refusal (Err k) = paper_number k

-- the place after the entry; 0 where it is refused
unfoldable pub found_next : Found → ℕ
found_next (Ok (e, next)) = next
found_next (Err k) = 0

-- the entry's kind and values by the paper's numbers, as they are written; none where it is refused
unfoldable pub found_bytes : Found → List ℕ
found_bytes (Ok (e, next)) = entry_bytes e
found_bytes (Err k) = []

-- the refusal of a record; 0 where nothing is refused
unfoldable pub refusal_in : Answer → ℕ
refusal_in (Ok n) = 0
refusal_in (Err (k, n)) = paper_number k

-- the number of the entry that a refusal names; 0 where nothing is refused
unfoldable pub entry_in : Answer → ℕ
entry_in (Ok n) = 0
entry_in (Err (k, n)) = n

-- how many entries or bytes; 0 where it is refused: a refusal hands out the empty record
unfoldable pub count_in : Answer → ℕ
count_in (Ok n) = n
count_in (Err (k, n)) = 0
