-- What a caller takes a packed answer apart into: bits 0 to 31 a number, bits 32 to 39 the refusal, 0 for none, bits 40 to 47 a count of bytes or, of a
-- verdict, one more than its cell.
use Rattle.std.specs.Prelude.{ℕ, ◌+◌, ◌-◌, ◌/◌, ◌%◌, ◌^◌, ◌≤◌, ◌<◌, ◌≡◌, cond, eqb, List, [], ◌∷◌, get_or, Ok, Err, Some, None, Option}
use Rattle.refusal.specs.declared.Refusal.{Refusal}
use Rattle.refusal.specs.declared.Refusal.TheVariants.{SizeOutOfRange, Unsound, Unknown, SlotEmpty, ClientStopped, AlreadyOpen, NoneOpen, ReplicaOff, SwitchedSo, OpSpent, RecordFull, NumberSpent, WireFull}
use Rattle.refusal.specs.declared.Refusal.TheVariants.{UnknownCode, TooShort, EndsFirst, LastIsZero, FifthAbove, KindAbove, FieldAbove, AskedWhileOpen, EndedUnasked, TooMany, AskedAgain}
use Rattle.refusal.specs.Number.{paper_number}
use Rattle.number.specs.Number.{Number}
use Rattle.verdict.specs.declared.Verdict.{Verdict}
use Rattle.verdict.specs.declared.Verdict.TheVariants.{Lawful as says_lawful, Unlawful as says_unlawful, Refused as says_refused}
use Rattle.record.specs.Record.{Answer}
use Rattle.layout.specs.declared.WordsAnswer.{WordsAnswer}

-- ---- the bits

-- bits 0 to 31
unfoldable pub number_of_packed : ℕ → ℕ
number_of_packed r = r % 2 ^ 32

-- bits 32 to 39
unfoldable pub refusal_of_packed : ℕ → ℕ
refusal_of_packed r = r / 2 ^ 32 % 256

-- bits 40 to 47
unfoldable pub count_of_packed : ℕ → ℕ
count_of_packed r = r / 2 ^ 40 % 256

-- the packed answer r has these parts in its bits, and no others above them
pub record Parts (r refusal number count : ℕ) : Type 0 where
  pub refused : refusal_of_packed r ≡ refusal
  pub numbered : number_of_packed r ≡ number
  pub counted : count_of_packed r ≡ count
  pub whole : r < 2 ^ 48

-- ---- the answers

-- the refusals in the order of their numbers; where a number is no refusal's, the first stands
abbrev pub refusals : List Refusal
refusals =
    SizeOutOfRange ∷ SizeOutOfRange ∷ Unsound ∷ Unknown ∷ SlotEmpty ∷ ClientStopped ∷ AlreadyOpen
    ∷ NoneOpen ∷ ReplicaOff ∷ SwitchedSo ∷ OpSpent ∷ RecordFull ∷ NumberSpent ∷ WireFull
    ∷ SizeOutOfRange ∷ UnknownCode ∷ SizeOutOfRange ∷ SizeOutOfRange ∷ SizeOutOfRange ∷ SizeOutOfRange
    ∷ TooShort ∷ EndsFirst ∷ LastIsZero ∷ FifthAbove ∷ KindAbove
    ∷ FieldAbove ∷ AskedWhileOpen ∷ EndedUnasked ∷ TooMany ∷ AskedAgain ∷ []

-- the refusal of this number
unfoldable pub refusal_named : ℕ → Refusal
refusal_named k = get_or refusals k SizeOutOfRange

-- a number that was read at place at
unfoldable pub unpacked_number : ℕ → ℕ → Number
unpacked_number at r = cond (eqb (refusal_of_packed r) 0) (Ok (number_of_packed r, at + count_of_packed r)) (Err (refusal_named (refusal_of_packed r)))

-- a number that was written at place at
unfoldable pub unpacked_put : ℕ → ℕ → Option ℕ
unpacked_put at r = cond (eqb (refusal_of_packed r) 0) (Some (at + count_of_packed r)) None

-- a record that was read or written
unfoldable pub unpacked_answer : ℕ → Answer
unpacked_answer r = cond (eqb (refusal_of_packed r) 0) (Ok (number_of_packed r)) (Err (refusal_named (refusal_of_packed r), number_of_packed r))

-- a verdict
unfoldable pub unpacked_verdict : ℕ → Verdict
unpacked_verdict r =
    cond (eqb (refusal_of_packed r) 0)
    (cond (eqb (count_of_packed r) 0) says_lawful (says_unlawful (record { 0 = count_of_packed r - 1 })))
    (says_refused (refusal_of_packed r) (number_of_packed r))

-- a rack that was made or run
unfoldable pub unpacked_run : ℕ → WordsAnswer
unpacked_run r = record { done = number_of_packed r; refusal = refusal_of_packed r }

-- ---- answers that fit their bits: every answer of a call does

-- a number of 32 bits in one to five bytes
abbrev pub NumberFits : ℕ → Number → Type 0
NumberFits at (Ok (n, next)) = (n < 2 ^ 32) × (at < next) × (next ≤ at + 5)
NumberFits at (Err k) = (21 ≤ paper_number k) × (paper_number k ≤ 23)

-- one to five bytes
abbrev pub PutFits : ℕ → Option ℕ → Type 0
PutFits at (Some next) = (at < next) × (next ≤ at + 5)
PutFits at None = Unit {0}

-- at most 16,384 bytes or 2,048 entries; a refusal from 20 to 28 that names entry 2,048 or an earlier one
abbrev pub AnswerFits : Answer → Type 0
AnswerFits (Ok n) = n ≤ 16384
AnswerFits (Err (k, n)) = (20 ≤ paper_number k) × (paper_number k ≤ 28) × (n ≤ 2048)

-- one of the sixteen cells; a refusal from 21 to 29 that names entry 2,048 or an earlier one
abbrev pub VerdictFits : Verdict → Type 0
VerdictFits says_lawful = Unit {0}
VerdictFits (says_unlawful cell) = cell.0 < 16
VerdictFits (says_refused k n) = (21 ≤ k) × (k ≤ 29) × (n ≤ 2048)

-- a number of events of 32 bits; a refusal up to 20, 0 for none
abbrev pub RunFits : WordsAnswer → Type 0
RunFits a = (a.refusal ≤ 20) × (a.done < 2 ^ 32)
