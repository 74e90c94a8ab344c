-- A packed answer alone gives the caller the whole answer back, for every call and every input; and two answers that differ are packed into two numbers.
use Rattle.std.specs.Prelude.{ℕ, ◌+◌, ◌-◌, ◌*◌, ◌^◌, ◌<◌, ◌≡◌, refl, cond, false, List, eqb, Ok, Err, Some, None, Option}
use Rattle.std.proofs.Common.{ap, sym, ◌∙◌, subst, arith, ne_eqb}
use Rattle.number.specs.Number.{number_bytes, number_at, put_answer}
use Rattle.number.specs.Answers.{refusal_of, number_in, next_in, put_refusal_of, put_next_in}
use Rattle.refusal.specs.declared.Refusal.{Refusal}
use Rattle.refusal.specs.declared.Refusal.TheVariants.{SizeOutOfRange, Unsound, Unknown, SlotEmpty, ClientStopped, AlreadyOpen, NoneOpen, ReplicaOff, SwitchedSo, OpSpent, RecordFull, NumberSpent, WireFull}
use Rattle.refusal.specs.declared.Refusal.TheVariants.{UnknownCode, TooShort, EndsFirst, LastIsZero, FifthAbove, KindAbove, FieldAbove, AskedWhileOpen, EndedUnasked, TooMany, AskedAgain}
use Rattle.refusal.specs.Number.{paper_number}
use Rattle.number.specs.Number.{Number}
use Rattle.number.specs.Below.{Bytes, Words}
use Rattle.record.specs.Answers.{refusal_in, entry_in, count_in}
use Rattle.record.specs.Record.{Answer}
use Rattle.rows.specs.Rows.{read_outcome, write_outcome}
use Rattle.verdict.specs.Verdict.{taken_for, Judges}
use Rattle.verdict.specs.Answers.{case_of, refusal_in as refusal_by, entry_in as entry_by, cell_in}
use Rattle.verdict.specs.declared.Verdict.{Verdict}
use Rattle.verdict.specs.declared.Verdict.TheVariants.{Lawful as says_lawful, Unlawful as says_unlawful, Refused as says_refused}
use Rattle.layout.specs.declared.WordsAnswer.{WordsAnswer}
use Rattle.layout.specs.Calls.{made_outcome, run_outcome}
use Rattle.exports.specs.Packed.{packed_number, packed_put, packed_answer, packed_verdict, Judged, packed_run}
use Rattle.exports.specs.Unpacked.{number_of_packed, refusal_of_packed, count_of_packed, Parts, refusal_named, unpacked_number, unpacked_put, unpacked_answer, unpacked_verdict, unpacked_run}
use Rattle.exports.specs.Unpacked.{NumberFits, PutFits, AnswerFits, VerdictFits, RunFits}
use Rattle.exports.specs.laws.Bounds.{number_fits, put_fits_bits, read_fits, write_fits, verdict_fits, made_fits, run_fits}

-- ---- the bits

parts_of : (r k n c : ℕ) → n < 2 ^ 32 → k < 256 → c < 256 → r ≡ 2 ^ 40 * c + 2 ^ 32 * k + n → Parts r k n c
unfolding number_of_packed refusal_of_packed count_of_packed
parts_of r k n c h g f e = record { refused = omega arith; numbered = omega arith; counted = omega arith; whole = omega arith }

-- the parts of an answer that fits
pub number_parts : (at : ℕ) (a : Number) → NumberFits at a → Parts (packed_number at a) (refusal_of a) (number_in a) (next_in a - at)
unfolding packed_number refusal_of number_in next_in
number_parts at (Ok (n, next)) h = parts_of _ 0 n (next - at) h.0 (omega arith) (omega (arith, h.2)) (omega arith)
number_parts at (Err k) h = parts_of _ (paper_number k) 0 (0 - at) (omega arith) (omega (arith, h.1)) (omega arith) (omega arith)

pub put_parts : (at : ℕ) (a : Option ℕ) → PutFits at a → Parts (packed_put at a) (put_refusal_of a) 0 (put_next_in a - at)
unfolding packed_put put_refusal_of put_next_in
put_parts at (Some next) h = parts_of _ 0 0 (next - at) (omega arith) (omega arith) (omega (arith, h.1)) (omega arith)
put_parts at None h = parts_of _ 20 0 (0 - at) (omega arith) (omega arith) (omega arith) (omega arith)

pub answer_parts : (a : Answer) → AnswerFits a → Parts (packed_answer a) (refusal_in a) (count_in a + entry_in a) 0
unfolding packed_answer refusal_in count_in entry_in
answer_parts (Ok n) h = parts_of _ 0 (n + 0) 0 (omega arith) (omega arith) (omega arith) (omega arith)
answer_parts (Err (k, n)) h = parts_of _ (paper_number k) (0 + n) 0 (omega (arith, h.2)) (omega (arith, h.1)) (omega arith) (omega arith)

pub verdict_parts : (v : Verdict) → VerdictFits v → Parts (packed_verdict v) (refusal_by v) (entry_by v) (cond (eqb (case_of v) 1) (cell_in v + 1) 0)
unfolding packed_verdict refusal_by entry_by cell_in case_of
verdict_parts says_lawful h = parts_of _ 0 0 0 (omega arith) (omega arith) (omega arith) (omega arith)
verdict_parts (says_unlawful c) h = parts_of _ 0 0 (c.0 + 1) (omega arith) (omega arith) (omega arith) (omega arith)
verdict_parts (says_refused k n) h = parts_of _ k n 0 (omega (arith, h.2)) (omega (arith, h.1)) (omega arith) (omega arith)

pub run_parts : (a : WordsAnswer) → RunFits a → Parts (packed_run a) a.refusal a.done 0
unfolding packed_run
run_parts a h = parts_of _ a.refusal a.done 0 h.1 (omega (arith, h.0)) (omega arith) (omega arith)

-- ---- the answers

-- what is taken apart, by the parts
number_from : (at r k n c : ℕ) → Parts r k n c → unpacked_number at r ≡ cond (eqb k 0) (Ok (n, at + c)) (Err (refusal_named k))
unfolding unpacked_number
number_from at r k n c w = rw (w.refused, w.numbered, w.counted)

put_from : (at r k n c : ℕ) → Parts r k n c → unpacked_put at r ≡ cond (eqb k 0) (Some (at + c)) None
unfolding unpacked_put
put_from at r k n c w = rw (w.refused, w.counted)

answer_from : (r k n c : ℕ) → Parts r k n c → unpacked_answer r ≡ cond (eqb k 0) (Ok n) (Err (refusal_named k, n))
unfolding unpacked_answer
answer_from r k n c w = rw (w.refused, w.numbered)

verdict_from : (r k n c : ℕ) → Parts r k n c
    → unpacked_verdict r ≡ cond (eqb k 0) (cond (eqb c 0) says_lawful (says_unlawful (record { 0 = c - 1 }))) (says_refused k n)
unfolding unpacked_verdict
verdict_from r k n c w = rw (w.refused, w.numbered, w.counted)

-- a refusal is that of its number
named_back : (r : Refusal) → refusal_named (paper_number r) ≡ r
unfolding refusal_named paper_number
named_back SizeOutOfRange = refl
named_back Unsound = refl
named_back Unknown = refl
named_back SlotEmpty = refl
named_back ClientStopped = refl
named_back AlreadyOpen = refl
named_back NoneOpen = refl
named_back ReplicaOff = refl
named_back SwitchedSo = refl
named_back OpSpent = refl
named_back RecordFull = refl
named_back NumberSpent = refl
named_back WireFull = refl
named_back UnknownCode = refl
named_back TooShort = refl
named_back EndsFirst = refl
named_back LastIsZero = refl
named_back FifthAbove = refl
named_back KindAbove = refl
named_back FieldAbove = refl
named_back AskedWhileOpen = refl
named_back EndedUnasked = refl
named_back TooMany = refl
named_back AskedAgain = refl

-- a refusal is no 0
some : (k : ℕ) → 0 < k → eqb k 0 ≡ false
some k h = ne_eqb k 0 (λ e. omega arith)

-- an answer that fits comes back from its packed number
pub number_back : (at : ℕ) (a : Number) → NumberFits at a → unpacked_number at (packed_number at a) ≡ a
unfolding refusal_of number_in next_in
number_back at (Ok (n, next)) h = number_from at _ 0 n (next - at) (number_parts at (Ok (n, next)) h) ∙ ap (λ (x : ℕ). Ok (n, x)) (omega (arith, h.1))
number_back at (Err k) h = number_from at _ (paper_number k) 0 (0 - at) (number_parts at (Err k) h) ∙ rw (some (paper_number k) (omega (arith, h.0)), named_back k)

pub put_back : (at : ℕ) (a : Option ℕ) → PutFits at a → unpacked_put at (packed_put at a) ≡ a
unfolding put_refusal_of put_next_in
put_back at (Some next) h = put_from at _ 0 0 (next - at) (put_parts at (Some next) h) ∙ ap Some (omega (arith, h.0))
put_back at None h = put_from at _ 20 0 (0 - at) (put_parts at None h)

pub answer_back : (a : Answer) → AnswerFits a → unpacked_answer (packed_answer a) ≡ a
unfolding refusal_in count_in entry_in
answer_back (Ok n) h = answer_from _ 0 (n + 0) 0 (answer_parts (Ok n) h) ∙ ap Ok (omega arith)
answer_back (Err (k, n)) h = answer_from _ (paper_number k) (0 + n) 0 (answer_parts (Err (k, n)) h) ∙ rw (some (paper_number k) (omega (arith, h.0)), named_back k) (ap (λ (x : ℕ). Err (k, x)) (omega arith))

pub verdict_back : (v : Verdict) → VerdictFits v → unpacked_verdict (packed_verdict v) ≡ v
unfolding refusal_by entry_by cell_in case_of
verdict_back says_lawful h = verdict_from _ 0 0 0 (verdict_parts says_lawful h)
verdict_back (says_unlawful c) h =
    verdict_from _ 0 0 (c.0 + 1) (verdict_parts (says_unlawful c) h)
    ∙ rw (some (c.0 + 1) (omega arith)) (ap (λ (n : ℕ). says_unlawful (record { 0 = n })) (omega arith))
verdict_back (says_refused k n) h = verdict_from _ k n 0 (verdict_parts (says_refused k n) h) ∙ rw (some k (omega (arith, h.0)))

pub run_back : (a : WordsAnswer) → RunFits a → unpacked_run (packed_run a) ≡ a
unfolding unpacked_run
run_back a h = let w = run_parts a h in rw (w.refused, w.numbered)

-- ---- two answers with the same packed number are one

pub one_packed_number : (at : ℕ) (a b : Number) → NumberFits at a → NumberFits at b → packed_number at a ≡ packed_number at b → a ≡ b
one_packed_number at a b h g e = sym (number_back at a h) ∙ ap (unpacked_number at) e ∙ number_back at b g

pub one_packed_put : (at : ℕ) (a b : Option ℕ) → PutFits at a → PutFits at b → packed_put at a ≡ packed_put at b → a ≡ b
one_packed_put at a b h g e = sym (put_back at a h) ∙ ap (unpacked_put at) e ∙ put_back at b g

pub one_packed_answer : (a b : Answer) → AnswerFits a → AnswerFits b → packed_answer a ≡ packed_answer b → a ≡ b
one_packed_answer a b h g e = sym (answer_back a h) ∙ ap unpacked_answer e ∙ answer_back b g

pub one_packed_verdict : (v w : Verdict) → VerdictFits v → VerdictFits w → packed_verdict v ≡ packed_verdict w → v ≡ w
one_packed_verdict v w h g e = sym (verdict_back v h) ∙ ap unpacked_verdict e ∙ verdict_back w g

pub one_packed_run : (a b : WordsAnswer) → RunFits a → RunFits b → packed_run a ≡ packed_run b → a ≡ b
one_packed_run a b h g e = sym (run_back a h) ∙ ap unpacked_run e ∙ run_back b g

-- ---- each call

-- adze_read_number
pub read_number_parts : (s : List ℕ) (at : ℕ) → Bytes s
    → Parts (packed_number at (number_at s at)) (refusal_of (number_at s at)) (number_in (number_at s at)) (next_in (number_at s at) - at)
read_number_parts s at b = number_parts at (number_at s at) (number_fits s at b (number_at s at) refl)

pub read_number_back : (s : List ℕ) (at : ℕ) → Bytes s → unpacked_number at (packed_number at (number_at s at)) ≡ number_at s at
read_number_back s at b = number_back at (number_at s at) (number_fits s at b (number_at s at) refl)

-- adze_write_number
pub write_number_parts : (d : List ℕ) (at n : ℕ)
    → Parts (packed_put at (put_answer d at (number_bytes n))) (put_refusal_of (put_answer d at (number_bytes n))) 0 (put_next_in (put_answer d at (number_bytes n)) - at)
write_number_parts d at n = put_parts at (put_answer d at (number_bytes n)) (put_fits_bits d at n (put_answer d at (number_bytes n)) refl)

pub write_number_back : (d : List ℕ) (at n : ℕ) → unpacked_put at (packed_put at (put_answer d at (number_bytes n))) ≡ put_answer d at (number_bytes n)
write_number_back d at n = put_back at (put_answer d at (number_bytes n)) (put_fits_bits d at n (put_answer d at (number_bytes n)) refl)

-- adze_read_record: of its count and the entry that a refusal names one is 0
pub read_record_parts : (s d : List ℕ) → Bytes s → (a : Answer) → a ≡ (read_outcome s d).answer → Parts (packed_answer a) (refusal_in a) (count_in a + entry_in a) 0
read_record_parts s d b a e = answer_parts a (read_fits s d b a (sym e))

pub read_record_back : (s d : List ℕ) → Bytes s → unpacked_answer (packed_answer (read_outcome s d).answer) ≡ (read_outcome s d).answer
read_record_back s d b = answer_back (read_outcome s d).answer (read_fits s d b (read_outcome s d).answer refl)

-- adze_write_record
pub write_record_parts : (ws d : List ℕ) → Words ws → (a : Answer) → a ≡ (write_outcome ws d).answer → Parts (packed_answer a) (refusal_in a) (count_in a + entry_in a) 0
write_record_parts ws d b a e = answer_parts a (write_fits ws d b a (sym e))

pub write_record_back : (ws d : List ℕ) → Words ws → unpacked_answer (packed_answer (write_outcome ws d).answer) ≡ (write_outcome ws d).answer
write_record_back ws d b = answer_back (write_outcome ws d).answer (write_fits ws d b (write_outcome ws d).answer refl)

-- adze_verdict: bits 40 to 47 are one more than the cell of an unlawful verdict
pub judged_parts : (s : List ℕ) → Bytes s → (v : Verdict) → Judges (taken_for s) v
    → Parts (packed_verdict v) (refusal_by v) (entry_by v) (cond (eqb (case_of v) 1) (cell_in v + 1) 0)
judged_parts s b v j = verdict_parts v (verdict_fits s b v j)

-- the verdict that is taken from the packed number alone meets the judge's contract
pub judged_back : (s : List ℕ) → Bytes s → (r : ℕ) → Judged s r → Judges (taken_for s) (unpacked_verdict r)
judged_back s b r (v, (j, p)) = subst (Judges (taken_for s)) (sym (ap unpacked_verdict p ∙ verdict_back v (verdict_fits s b v j))) j

-- adze_rack_made
pub rack_made_parts : (x y z : ℕ) (ws : List ℕ) → Parts (packed_run (made_outcome x y z ws).answer) (made_outcome x y z ws).answer.refusal (made_outcome x y z ws).answer.done 0
rack_made_parts x y z ws = run_parts (made_outcome x y z ws).answer (made_fits x y z ws (made_outcome x y z ws).answer refl)

pub rack_made_back : (x y z : ℕ) (ws : List ℕ) → unpacked_run (packed_run (made_outcome x y z ws).answer) ≡ (made_outcome x y z ws).answer
rack_made_back x y z ws = run_back (made_outcome x y z ws).answer (made_fits x y z ws (made_outcome x y z ws).answer refl)

-- adze_rack_run: its allowance is a word
pub rack_run_parts : (ws : List ℕ) (n : ℕ) (es : List ℕ) → n < 2 ^ 32
    → Parts (packed_run (run_outcome ws n es).answer) (run_outcome ws n es).answer.refusal (run_outcome ws n es).answer.done 0
rack_run_parts ws n es h = run_parts (run_outcome ws n es).answer (run_fits ws n es (run_outcome ws n es).answer h refl)

pub rack_run_back : (ws : List ℕ) (n : ℕ) (es : List ℕ) → n < 2 ^ 32 → unpacked_run (packed_run (run_outcome ws n es).answer) ≡ (run_outcome ws n es).answer
rack_run_back ws n es h = run_back (run_outcome ws n es).answer (run_fits ws n es (run_outcome ws n es).answer h refl)
