-- Answers packed into one number, for C: bits 0 to 31 a number, bits 32 to 39 the refusal, 0 for none, bits 40 to 47 a count of bytes.
use Rattle.std.specs.Prelude.{ℕ, ◌+◌, ◌-◌, ◌*◌, ◌^◌, ◌≡◌, List, Ok, Err, Some, None, Option}
use Rattle.refusal.specs.Number.{paper_number}
use Rattle.number.specs.Number.{Number}
use Rattle.verdict.specs.Verdict.{taken_for, Judges}
use Rattle.verdict.specs.declared.Verdict.{Verdict}
use Rattle.verdict.specs.declared.Verdict.TheVariants.{Lawful as says_lawful, Unlawful as says_unlawful, Refused as says_refused}
use Rattle.record.specs.Record.{Answer}
use Rattle.layout.specs.declared.WordsAnswer.{WordsAnswer}

-- a number that was read at place at: itself and how many bytes it takes
unfoldable pub packed_number : ℕ → Number → ℕ
packed_number at (Ok (n, next)) = n + 2 ^ 40 * (next - at)
packed_number at (Err k) = 2 ^ 32 * paper_number k

-- a number that was written at place at: how many bytes it took
unfoldable pub packed_put : ℕ → Option ℕ → ℕ
packed_put at (Some next) = 2 ^ 40 * (next - at)
packed_put at None = 2 ^ 32 * 20

-- a record that was read or written: how many entries or bytes, or the refusal and its entry's number
unfoldable pub packed_answer : Answer → ℕ
packed_answer (Ok n) = n
packed_answer (Err (k, n)) = 2 ^ 32 * paper_number k + n

-- a verdict: 0 is lawful; one more than the lowest unlawful cell; the refusal and its entry's number
unfoldable pub packed_verdict : Verdict → ℕ
packed_verdict says_lawful = 0
packed_verdict (says_unlawful cell) = 2 ^ 40 * (cell.0 + 1)
packed_verdict (says_refused k n) = 2 ^ 32 * k + n

-- r is the packed verdict on the bytes s
abbrev pub Judged : List ℕ → ℕ → Type 0
Judged s r = (v : Verdict) × (Judges (taken_for s) v × (r ≡ packed_verdict v))

-- a rack that was made or run: how many events were done, and the refusal
unfoldable pub packed_run : WordsAnswer → ℕ
packed_run a = 2 ^ 32 * a.refusal + a.done
