-- When two outcomes of a call are one.
use Rattle.std.specs.Prelude.{◌≡◌}
use Rattle.record.specs.Entry.{Found}
use Rattle.record.specs.Record.{Answer}
use Rattle.record.specs.Answers.{found_refusal, found_next, found_bytes, refusal_in, entry_in, count_in}

-- two answers that refuse alike, hand out the same entry and the same place, and are one answer
pub record SameFound (r r' : Found) : Type 0 where
  pub refusal : found_refusal r ≡ found_refusal r'
  pub bytes : found_bytes r ≡ found_bytes r'
  pub next : found_next r ≡ found_next r'
  pub same : r ≡ r'

-- two answers that refuse alike, name the same entry, count the same, and are one answer
pub record SameAnswer (r r' : Answer) : Type 0 where
  pub refusal : refusal_in r ≡ refusal_in r'
  pub entry : entry_in r ≡ entry_in r'
  pub count : count_in r ≡ count_in r'
  pub same : r ≡ r'
