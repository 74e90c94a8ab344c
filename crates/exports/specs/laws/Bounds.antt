-- Every answer of a call fits the bits that it is packed into: a number takes one to five bytes, a record has at most 2,048 entries and 16,384 bytes, the
-- entry that is named is at most 2,048 and the cell at most 15, and a schedule does no more than it is allowed.
use Rattle.std.specs.Prelude.{ℕ, zero, suc, ◌+◌, ◌^◌, ◌≤◌, ◌<◌, ◌≡◌, refl, Bool, true, false, cond, List, [], ◌∷◌, eqb, length, Err, Ok, Some, None, Option}
use Rattle.std.proofs.Common.{ap, sym, ◌∙◌, ⊎_elim, arith}
use Rattle.std.proofs.Math.Decide.{dec_le}
use Rattle.refusal.specs.declared.Refusal.{Refusal as Refused}
use Rattle.refusal.specs.declared.Refusal.TheVariants.{AskedAgain}
use Rattle.refusal.specs.Number.{paper_number}
use Rattle.number.specs.Number.{number_bytes, number_at, put_answer}
use Rattle.number.specs.laws.NumberLaws.{length_some, length_few, refusal_bounds, put_fits, put_refused}
use Rattle.number.proofs.theorems.Trip.{written_read}
use Rattle.number.specs.Number.{Number}
use Rattle.record.specs.Record.{Held, entries, fault, bytes_held}
use Rattle.number.specs.Below.{Bytes, Words}
use Rattle.record.specs.Named.{Named}
use Rattle.record.proofs.theorems.Trip.{reading_legal, record_few}
use Rattle.record.proofs.theorems.Refusals.{record_faults}
use Rattle.record.specs.declared.Entry.{Entry}
use Rattle.record.specs.Record.{Answer}
use Rattle.rows.specs.Rows.{rows_held, read_outcome, write_outcome}
use Rattle.rows.specs.Refusal.{Refusal}
use Rattle.rows.specs.laws.RowLaws.{rows_length}
use Rattle.rows.proofs.theorems.Trip.{rows_legal, read_took, write_took}
use Rattle.rows.proofs.theorems.Refusals.{read_refusals, write_refusals}
use Rattle.verdict.specs.Verdict.{repeats, distinct_from, distinct, taken_for, Judges}
use Rattle.verdict.specs.laws.OnlyOne.{lowest_below, taken_legal}
use Rattle.verdict.specs.laws.Refusals.{judges_refusals}
use Rattle.verdict.specs.declared.Verdict.{Verdict}
use Rattle.verdict.specs.declared.Verdict.TheVariants.{Lawful as says_lawful, Unlawful as says_unlawful, Refused as says_refused}
use Rattle.method.specs.Decision.{Decision}
use Rattle.rack.specs.declared.Rack.{Rack}
use Rattle.rack.specs.declared.Made.{Made}
use Rattle.rack.specs.Sound.{settings_fit}
use Rattle.rack.specs.Run.{fresh_rack, made_of, event_of, turn, applied_of, run_from, run_of}
use Rattle.rack.specs.Refusals.{decided}
use Rattle.rack.proofs.theorems.Table.{decided_refuses}
use Rattle.runs.specs.laws.Steps.{run_steps}
use Rattle.layout.specs.declared.WordsAnswer.{WordsAnswer}
use Rattle.layout.specs.Layout.{word_count}
use Rattle.layout.specs.Reading.{rack_of}
use Rattle.layout.specs.Calls.{unfit, makes, made_outcome, leaves, run_outcome}
use Rattle.exports.specs.Unpacked.{NumberFits, PutFits, AnswerFits, VerdictFits, RunFits}
use Rattle.rack.specs.Places.{of_sizes}

-- ---- numbers

pub number_fits : (s : List ℕ) (at : ℕ) → Bytes s → (a : Number) → number_at s at ≡ a → NumberFits at a
number_fits s at b (Ok (n, next)) p =
    let w = written_read s at n next b p in
    (w.below, omega (arith, w.far, length_some n), omega (arith, w.far, length_few n))
number_fits s at b (Err k) p = refusal_bounds s at k p

pub put_fits_bits : (d : List ℕ) (at n : ℕ) (a : Option ℕ) → put_answer d at (number_bytes n) ≡ a → PutFits at a
put_fits_bits d at n (Some next) p = elim (dec_le (at + length (number_bytes n)) (length d)) [
  | yes h ↦ (let q = sym (put_fits d at (number_bytes n) h) ∙ p in let e : at + length (number_bytes n) ≡ next = cc in
      (omega (arith, e, length_some n), omega (arith, e, length_few n)))
  | no h ↦ (let q = sym (put_refused d at (number_bytes n) (omega (arith, h))) ∙ p in let z : ◌≡◌ {A = ℕ} 0 1 = cc in absurd (omega arith))
]
put_fits_bits d at n None p = tt

-- ---- records

-- a refusal with lent memory
refusal_fits : {low k n : ℕ} → 20 ≤ low → Refusal low k n → (20 ≤ k) × (k ≤ 28) × (n ≤ 2048)
refusal_fits {low} {k} h w = (
  ⊎_elim (λ (e : k ≡ 20). omega arith) (λ (l : low ≤ k). omega arith) w.which,
  w.most,
  elim (dec_le k 27) [
    | yes g ↦ (let l = w.early (omega arith) in omega arith)
    | no g ↦ (let l = w.last (omega (arith, g, w.most)) in omega arith)
  ],
)

-- what is read has at most 2,048 entries, and what is written at most 16,384 bytes
pub read_few : (s d : List ℕ) (n : ℕ) → Bytes s → (read_outcome s d).answer ≡ Ok n → n ≤ 2048
read_few s d n b p =
    let w = read_took (bytes_held s) d n p in
    let l = (reading_legal s w.all b w.held).few in omega (arith, w.long, rows_length w.all)

pub write_few : (ws d : List ℕ) (n : ℕ) → Words ws → (write_outcome ws d).answer ≡ Ok n → n ≤ 16384
write_few ws d n b p =
    let w = write_took (rows_held ws) d n p in
    omega (arith, w.long, record_few w.all (rows_legal ws w.all b w.held))

pub read_fits : (s d : List ℕ) → Bytes s → (a : Answer) → (read_outcome s d).answer ≡ a → AnswerFits a
read_fits s d b (Ok n) p = omega (arith, read_few s d n b p)
read_fits s d b (Err (k, n)) p = refusal_fits (omega arith) (read_refusals s d k n p)

pub write_fits : (ws d : List ℕ) → Words ws → (a : Answer) → (write_outcome ws d).answer ≡ a → AnswerFits a
write_fits ws d b (Ok n) p = write_few ws d n b p
write_fits ws d b (Err (k, n)) p = refusal_fits (omega arith) (write_refusals ws d k n p)

-- ---- verdicts

-- an entry that 29 names is one of the record's
again_within : (earlier : List Entry) (m : ℕ) (es all : List Entry) (k : Refused) (n : ℕ) → distinct_from earlier m es (entries all) ≡ fault k n → n < m + length es
unfolding distinct_from
again_within earlier m [] all k n p = let z : ◌≡◌ {A = ℕ} 0 1 = cc in absurd (omega arith)
again_within earlier m (e ∷ es) all k n p = go (repeats earlier e) p (again_within (e ∷ earlier) (m + 1) es all k n)
  where
    go : (t : Bool) → cond t (fault AskedAgain m) (distinct_from (e ∷ earlier) (m + 1) es (entries all)) ≡ fault k n
        → (distinct_from (e ∷ earlier) (m + 1) es (entries all) ≡ fault k n → n < m + 1 + length es) → n < m + suc (length es)
    go true q f = let i : m ≡ n = cc in omega arith
    go false q f = let h = f q in omega arith

verdict_named : (s : List ℕ) → Bytes s → (h : Held) → bytes_held s ≡ h → (k : Refused) (n : ℕ) → distinct h ≡ fault k n → n ≤ 2048
unfolding distinct
verdict_named s b (entries es) e k n p = let l = again_within [] 0 es es k n p in let f = (reading_legal s es b e).few in omega arith
verdict_named s b (fault j m) e k n p = let i : fault j m ≡ fault k n = p in named (record_faults s k n (e ∙ i))
  where
    named : Named 21 (paper_number k) n 2048 → n ≤ 2048
    named w = elim (dec_le (paper_number k) 27) [
      | yes h ↦ (let l = w.early (omega arith) in omega arith)
      | no h ↦ (let l = w.last (omega (arith, h, w.most)) in omega arith)
    ]

pub verdict_fits : (s : List ℕ) → Bytes s → (v : Verdict) → Judges (taken_for s) v → VerdictFits v
unfolding taken_for
verdict_fits s b says_lawful j = tt
verdict_fits s b (says_unlawful c) (es, (e, l)) = lowest_below es (taken_legal s b es e) c.0 l
verdict_fits s b (says_refused k n) j =
    let w = judges_refusals s k n j in
    (w.0, w.1, verdict_named s b (bytes_held s) refl j.0 n j.1.0)

-- ---- racks

-- the maker refuses with 1, or not at all
made_refusal : (x y z : ℕ) → (made_of (of_sizes x y z)).refusal ≤ 1
unfolding made_of
made_refusal x y z = go (settings_fit (record { replicas = x; clients = y; cells = z }))
  where
    go : (t : Bool) → (cond {A = Made} t (record { refusal = 0; rack = fresh_rack (of_sizes x y z) }) (record { refusal = 1; rack = fresh_rack (of_sizes 1 1 1) })).refusal ≤ 1
    go true = omega arith
    go false = omega arith

pub made_fits : (x y z : ℕ) (ws : List ℕ) (a : WordsAnswer) → (made_outcome x y z ws).answer ≡ a → RunFits a
unfolding made_outcome makes
made_fits x y z ws a e = go (eqb (length ws) word_count) (ap (λ (k : WordsAnswer). k.done) e) (ap (λ (k : WordsAnswer). k.refusal) e)
  where
    go : (t : Bool) → (cond t (makes (made_of (of_sizes x y z))) (unfit ws)).answer.done ≡ a.done → (cond t (makes (made_of (of_sizes x y z))) (unfit ws)).answer.refusal ≡ a.refusal
        → RunFits a
    go true p q = (omega (arith, made_refusal x y z), omega arith)
    go false p q = (omega arith, omega arith)

-- a run is refused with 2 to 13, or not at all
from_refusal : (done : ℕ) (r : Rack) (left : ℕ) (ws : List ℕ) → (run_from done r left ws).refusal ≤ 13
unfolding run_from turn
from_refusal done r zero ws = omega arith
from_refusal done r (suc left) [] = omega arith
from_refusal done r (suc left) (k ∷ []) = omega arith
from_refusal done r (suc left) (k ∷ a ∷ []) = omega arith
from_refusal done r (suc left) (k ∷ a ∷ b ∷ []) = omega arith
from_refusal done r (suc left) (k ∷ a ∷ b ∷ v ∷ ws) = go (decided r (event_of k a b v)) refl (λ q. from_refusal (done + 1) q left ws)
  where
    go : (o : Decision) → decided r (event_of k a b v) ≡ o → ((q : Rack) → (run_from (done + 1) q left ws).refusal ≤ 13)
        → (turn done r (event_of k a b v) o (λ q. run_from (done + 1) q left ws)).refusal ≤ 13
    go (Err n) e ih = (decided_refuses r (event_of k a b v) n e).1
    go (Ok p) e ih = ih (applied_of r (event_of k a b v) p)

run_refusal : (r : Rack) (n : ℕ) (es : List ℕ) → (run_of r n es).refusal ≤ 13
unfolding run_of
run_refusal r n es = from_refusal 0 r n es

pub run_fits : (ws : List ℕ) (n : ℕ) (es : List ℕ) (a : WordsAnswer) → n < 2 ^ 32 → (run_outcome ws n es).answer ≡ a → RunFits a
unfolding run_outcome leaves
run_fits ws n es a h e = go (eqb (length ws) word_count) (ap (λ (k : WordsAnswer). k.done) e) (ap (λ (k : WordsAnswer). k.refusal) e)
  where
    go : (t : Bool) → (cond t (leaves (run_of (rack_of ws) n es) ws) (unfit ws)).answer.done ≡ a.done
        → (cond t (leaves (run_of (rack_of ws) n es) ws) (unfit ws)).answer.refusal ≡ a.refusal → RunFits a
    go true p q = (omega (arith, run_refusal (rack_of ws) n es), omega (arith, (run_steps (rack_of ws) n es).most))
    go false p q = (omega arith, omega arith)
