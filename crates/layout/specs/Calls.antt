-- What the calls answer and leave.
use Rattle.std.specs.Prelude.{ℕ, List, cond, eqb, length, replicate}
use Rattle.rack.specs.declared.Made.{Made}
use Rattle.rack.specs.declared.Ran.{Ran}
use Rattle.rack.specs.Run.{made_of, run_of}
use Rattle.layout.specs.declared.WordsAnswer.{WordsAnswer}
use Rattle.layout.specs.Layout.{word_count}
use Rattle.layout.specs.Reading.{rack_of}
use Rattle.layout.specs.Writing.{written_of}
use Rattle.rack.specs.Places.{of_sizes}

-- what a call answers, and what then stands in the lent words
pub record WordsOutcome : Type 0 where
  pub answer : WordsAnswer
  pub lent : List ℕ

-- how many events were done, and the refusal, 0 for none
abbrev pub answer_of : ℕ → ℕ → WordsAnswer
answer_of done refusal = record { done = done; refusal = refusal }

-- 20: the lent words are not 11,301; nothing is written
abbrev pub unfit : List ℕ → WordsOutcome
unfit ws = record { answer = answer_of 0 20; lent = ws }

-- the maker's rack is written, also beside its refusal, and every other word is 0
unfoldable pub makes : Made → WordsOutcome
makes m = record { answer = answer_of 0 m.refusal; lent = written_of m.rack (replicate word_count 0) }

-- a rack of these sizes is made in the words ws
unfoldable pub made_outcome : ℕ → ℕ → ℕ → List ℕ → WordsOutcome
made_outcome replicas clients cells ws = cond (eqb (length ws) word_count) (makes (made_of (of_sizes replicas clients cells))) (unfit ws)

-- the rack that is left is written where an event was done; else every word stays
unfoldable pub leaves : Ran → List ℕ → WordsOutcome
leaves q ws = record { answer = answer_of q.done q.refusal; lent = cond (eqb q.done 0) ws (written_of q.rack ws) }

-- the events es are run on the rack in the words ws, with an allowance
unfoldable pub run_outcome : List ℕ → ℕ → List ℕ → WordsOutcome
run_outcome ws allowance es = cond (eqb (length ws) word_count) (leaves (run_of (rack_of ws) allowance es) ws) (unfit ws)
