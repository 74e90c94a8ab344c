-- A survey, entry by entry, as one head takes them. The paper: "The record and its bytes".
use Rattle.std.specs.Prelude.{ℕ, ◌+◌, Bool, ◌&&◌, cond, ltb, leb, Option, None, Some, is_none, Ok, Err}
use Rattle.record.specs.declared.Entry.{Entry}
use Rattle.record.specs.Entry.{Found}
use Rattle.record.specs.Record.{Answer, entry_limit, fresh, fault_after, standing_after}
use Rattle.refusal.specs.declared.Refusal.{Refusal}
use Rattle.refusal.specs.declared.Refusal.TheVariants.{TooMany}
use Rattle.reader.specs.declared.Progress.{Progress}

-- before the first entry
abbrev pub begun : Progress
begun = record { standing = fresh; taken = 0; fault = None }

-- whether an entry is due, at a place of so many bytes
unfoldable pub goes_on : Progress → ℕ → ℕ → Bool
goes_on p place length = is_none p.fault && ltb place length

-- stopped where the next entry is due
abbrev pub stopped : Progress → Refusal → Progress
stopped p k = record { standing = p.standing; taken = p.taken; fault = Some k }

-- after an entry, or where it is refused
unfoldable pub unless_stopped : Progress → Entry → Option Refusal → Progress
unless_stopped p e None = record { standing = standing_after p.standing e; taken = p.taken + 1; fault = None }
unless_stopped p e (Some k) = stopped p k

-- after an entry, if it may follow
abbrev pub after_entry : Progress → Entry → Progress
after_entry p e = unless_stopped p e (fault_after p.standing e)

-- after what was found, where an entry may follow
unfoldable pub below_limit : Progress → Found → Progress
below_limit p (Err k) = stopped p k
below_limit p (Ok (e, next)) = after_entry p e

-- after what was found where an entry is due; 28: none may follow
unfoldable pub after_found : Progress → Found → Progress
after_found p found = cond (leb entry_limit p.taken) (stopped p TooMany) (below_limit p found)

-- so many, or a refusal that names the next
unfoldable pub all_or : ℕ → Option Refusal → Answer
all_or n None = Ok n
all_or n (Some k) = Err (k, n)

-- how many entries were taken, or what stopped the survey
abbrev pub answer_of : Progress → Answer
answer_of p = all_or p.taken p.fault
