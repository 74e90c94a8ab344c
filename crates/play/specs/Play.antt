-- What running a script gives, the text that the program `drill` writes for it, and the bytes that the program `recorder` writes.
use Rattle.std.specs.Prelude.{ℕ, min, ◌≡◌, List, [], cond, eqb, length, Result, Ok, Err}
use Rattle.std.proofs.lemmas.List.Edits.{sets}
use Rattle.record.specs.Record.{bytes_of}
use Rattle.refusal.specs.declared.Refusal.{Refusal}
use Rattle.refusal.specs.Number.{paper_number}
use Rattle.script.specs.Script.{Words, events_from, words_of, script_of}
use Rattle.rack.specs.declared.Made.{Made}
use Rattle.rack.specs.declared.Ran.{Ran}
use Rattle.rack.specs.Places.{of_sizes, record_of}
use Rattle.rack.specs.Run.{made_of, ran_of, run_of}
use Rattle.lines.specs.Lines.{ran_text, fault_line}

-- what is answered of a script's record: the refusal of its run, 0 for none, and how many bytes were written; or the refusal of its fault and the byte where
-- that begins
abbrev pub Recorded : Type 0
Recorded = Result (ℕ × ℕ) (Refusal × ℕ)

-- a refused maker: nothing is run, and its rack and refusal are given
abbrev pub started_of : Made → ℕ → List ℕ → Ran
started_of made allowance words = cond (eqb made.refusal 0) (run_of made.rack allowance words) (ran_of 0 made.refusal made.rack)

-- running a script means running the flat list of events that it stands for, under the same allowance
unfoldable pub played_of : List ℕ → ℕ → ℕ → ℕ → ℕ → ℕ → Ran
played_of s replicas clients cells allowance first = started_of (made_of (of_sizes replicas clients cells)) allowance (words_of (events_from s first))

-- the line of the first fault, or the lines of the run of a script that has none
abbrev pub text_after : List ℕ → Words → List ℕ
text_after s (Err (refusal, byte)) = fault_line (paper_number refusal) byte
text_after s (Ok (replicas, clients, cells, allowance, first)) = ran_text (played_of s replicas clients cells allowance first)

-- a fault anywhere is one line, and nothing is run; else the lines of the run
unfoldable pub drill_text : List ℕ → List ℕ
drill_text s = text_after s (script_of s)

-- no bytes for a script that has a fault; else those of the record that its run leaves, refused or not
abbrev pub bytes_after : List ℕ → Words → List ℕ
bytes_after s (Err (refusal, byte)) = []
bytes_after s (Ok (replicas, clients, cells, allowance, first)) = bytes_of (record_of (played_of s replicas clients cells allowance first).rack)

-- the bytes that are written for a script
unfoldable pub record_bytes_of : List ℕ → List ℕ
record_bytes_of s = bytes_after s (script_of s)

-- the fault and its byte; or the run's refusal, 0 for none, and how many bytes were written
abbrev pub answer_after : List ℕ → ℕ → Words → Recorded
answer_after s count (Err (refusal, byte)) = Err (refusal, byte)
answer_after s count (Ok (replicas, clients, cells, allowance, first)) = Ok ((played_of s replicas clients cells allowance first).refusal, count)

-- what is answered where so many bytes are lent
unfoldable pub recorded_of : List ℕ → ℕ → Recorded
recorded_of s room = answer_after s (min (length (record_bytes_of s)) room) (script_of s)

-- The answer, and the lent bytes afterwards: the record's bytes stand in front, as far as the bytes `before` go, and all else is as it was.
pub record Records (s before : List ℕ) (r : Recorded) (after : List ℕ) : Type 0 where
  pub answer : r ≡ recorded_of s (length before)
  pub lent : after ≡ sets before 0 (record_bytes_of s)
