-- A run whose writes differ leaves a record that the judge doesn't refuse.
use Rattle.std.specs.Prelude.{ℕ, zero, suc, ◌+◌, ◌≡◌, refl, Bool, true, false, cond, ◌||◌, List, [], ◌∷◌, ◌++◌, eqb, ℤ, None, Some, Err, Ok, Option}
use Rattle.std.proofs.Common.{ap, sym, ◌∙◌, append-nil, arith}
use Rattle.refusal.specs.declared.Refusal.TheVariants.{AskedAgain}
use Rattle.number.specs.Value.{alternating_of}
use Rattle.record.specs.declared.Client.{Client}
use Rattle.record.specs.declared.Entry.{Entry}
use Rattle.record.specs.declared.Entry.TheVariants.{ReadAsked, WriteAsked, Told, Done}
use Rattle.record.specs.Record.{Held, entries, fault, bytes_of}
use Rattle.number.specs.Below.{Words}
use Rattle.verdict.specs.declared.Verdict.{Verdict}
use Rattle.verdict.specs.declared.Verdict.TheVariants.{Lawful as says_lawful, Refused as says_refused}
use Rattle.verdict.specs.Verdict.{asks_for, asked_among, repeats, distinct_from, distinct, taken_for, Judges}
use Rattle.verdict.specs.laws.OnlyOne.{lawful_exactly}
use Rattle.stamps.specs.declared.Pair.{Pair}
use Rattle.method.specs.declared.Message.{Message}
use Rattle.method.specs.declared.Goal.{Goal}
use Rattle.method.specs.declared.Goal.TheVariants.{Read, Write}
use Rattle.rack.specs.declared.Rack.{Rack}
use Rattle.method.specs.declared.Sight.{Sight}
use Rattle.method.specs.declared.Event.{Event}
use Rattle.method.specs.declared.Event.TheVariants.{StartRead, StartWrite, Deliver, Lose, Copy, Resend, Stop, Off, On, Unknown}
use Rattle.method.specs.declared.Note.{Note}
use Rattle.method.specs.declared.Note.TheVariants.{Nothing, Asked, Ended}
use Rattle.method.specs.declared.Plan.{Plan}
use Rattle.method.specs.Decision.{Decision}
use Rattle.method.specs.Holding.{last_entry}
use Rattle.method.specs.Method.{Delivers, Does}
use Rattle.method.specs.Method.Delivers.{tells, takes, hears, chooses, counts, ends, spends}
use Rattle.rack.specs.Places.{of_sizes, record_of}
use Rattle.rack.specs.Sound.{sound_of}
use Rattle.rack.specs.Run.{made_of, event_of, applied_of, turn, run_from, run_of}
use Rattle.rack.specs.Refusals.{decided}
use Rattle.rack.specs.Looking.{looked_held, sight}
use Rattle.rack.proofs.theorems.Decided.{decided_does}
use Rattle.rack.specs.laws.Fresh.{made_sound}
use Rattle.runs.specs.laws.Stays.{sound_stays}
use Rattle.runs.specs.laws.Steps.{run_from_lem}
use Rattle.promise.proofs.theorems.Promise.{promise}
use Rattle.back.specs.Standing.{Agrees}
use Rattle.back.specs.Writes.{writes_by, writes_of, Differ}
use Rattle.back.specs.laws.Lines.{added}
use Rattle.back.proofs.theorems.Agrees.{record_next, agree_stays, event_small, made_agrees, made_empty, run_legal}
use Rattle.back.proofs.theorems.Back.{taken_legal}

-- ---- entries without a repeat

-- none of es is a 29 where `earlier` stand before them
abbrev Clear : List Entry → List Entry → Type 0
Clear earlier [] = Unit {0}
Clear earlier (e ∷ es) = (repeats earlier e ≡ false) × Clear (e ∷ earlier) es

clear_distinct : (earlier : List Entry) (n : ℕ) (es : List Entry) (whole : Held) → Clear earlier es → distinct_from earlier n es whole ≡ whole
unfolding distinct_from
clear_distinct earlier n [] whole c = refl
clear_distinct earlier n (e ∷ es) whole c = rw c.0 (clear_distinct (e ∷ earlier) (n + 1) es whole c.1)

distinct_clear : (earlier : List Entry) (n : ℕ) (es whole : List Entry) → distinct_from earlier n es (entries whole) ≡ entries whole → Clear earlier es
unfolding distinct_from
distinct_clear earlier n [] whole p = tt
distinct_clear earlier n (e ∷ es) whole p = go (repeats earlier e) refl p (distinct_clear (e ∷ earlier) (n + 1) es whole)
  where
    go : (t : Bool) → repeats earlier e ≡ t → cond t (fault AskedAgain n) (distinct_from (e ∷ earlier) (n + 1) es (entries whole)) ≡ entries whole
        → (distinct_from (e ∷ earlier) (n + 1) es (entries whole) ≡ entries whole → Clear (e ∷ earlier) es) → (repeats earlier e ≡ false) × Clear (e ∷ earlier) es
    go true q r ih = absurd (let z : ◌≡◌ {A = ℕ} 0 1 = cc in omega arith)
    go false q r ih = (q, ih r)

-- two lists in which the same values are asked for
abbrev Same : List Entry → List Entry → Type 0
Same es fs = (c : ℕ) (v : ℤ) → asked_among c v es ≡ asked_among c v fs

same_more : (e : Entry) (es fs : List Entry) → Same es fs → Same (e ∷ es) (e ∷ fs)
unfolding asked_among
same_more e es fs s c v = ap (λ (t : Bool). asks_for c v e || t) (s c v)

same_repeats : (e : Entry) (es fs : List Entry) → Same es fs → repeats es e ≡ repeats fs e
unfolding repeats
same_repeats (ReadAsked client cell) es fs s = refl
same_repeats (WriteAsked client cell v) es fs s = ap (λ (t : Bool). eqb (alternating_of v) 0 || t) (s cell.0 v)
same_repeats (Told client v) es fs s = refl
same_repeats (Done client) es fs s = refl

same_clear : (es fs rest : List Entry) → Same es fs → Clear es rest → Clear fs rest
same_clear es fs [] s c = tt
same_clear es fs (e ∷ rest) s c = (sym (same_repeats e es fs s) ∙ c.0, same_clear (e ∷ es) (e ∷ fs) rest (same_more e es fs s) c.1)

-- the order doesn't matter
or_swap : (a b c : Bool) → (a || (b || c)) ≡ (b || (a || c))
or_swap true true c = refl
or_swap true false c = refl
or_swap false b c = refl

same_swap : (d e : Entry) (es : List Entry) → Same (d ∷ e ∷ es) (e ∷ d ∷ es)
unfolding asked_among
same_swap d e es c v = or_swap (asks_for c v d) (asks_for c v e) (asked_among c v es)

same_last : (es : List Entry) (e : Entry) → Same (e ∷ es) (es ++ (e ∷ []))
same_last [] e c v = refl
same_last (d ∷ es) e c v = same_swap e d es c v ∙ same_more d (e ∷ es) (es ++ (e ∷ [])) (same_last es e) c v

-- one more at the end of es, where `earlier` stand before them
clear_next : (earlier es : List Entry) (e : Entry) → Clear earlier es → repeats (es ++ earlier) e ≡ false → Clear earlier (es ++ (e ∷ []))
clear_next earlier [] e c h = (h, tt)
clear_next earlier (d ∷ es) e c h = (c.0, clear_next (d ∷ earlier) es e c.1 (same_repeats e (es ++ (d ∷ earlier)) (d ∷ (es ++ earlier)) (same_front es d earlier) ∙ h))
  where
    same_front : (xs : List Entry) (x : Entry) (ys : List Entry) → Same (xs ++ (x ∷ ys)) (x ∷ (xs ++ ys))
    same_front [] x ys c v = refl
    same_front (y ∷ xs) x ys c v = same_more y (xs ++ (x ∷ ys)) (x ∷ (xs ++ ys)) (same_front xs x ys) c v ∙ same_swap y x (xs ++ ys) c v

-- ---- one entry more

-- the entry if it asks to write
abbrev if_write : Entry → List Entry
if_write (ReadAsked client cell) = []
if_write (WriteAsked client cell v) = WriteAsked client cell v ∷ []
if_write (Told client v) = []
if_write (Done client) = []

-- the record so far has no repeat, nor have the writes that are still to come
abbrev Ahead : List Entry → List Entry → Type 0
Ahead es rest = Clear [] es × Clear es rest

-- an entry that asks for no write
ahead_other : (es rest : List Entry) (e : Entry) → ((earlier : List Entry) → repeats earlier e ≡ false) → Same es (e ∷ es) → Ahead es rest → Ahead (es ++ (e ∷ [])) rest
ahead_other es rest e h s a = (
  clear_next [] es e a.0 (h (es ++ [])),
  same_clear es (es ++ (e ∷ [])) rest (λ c v. s c v ∙ same_last es e c v) a.1,
)

ahead_next : (es rest : List Entry) (e : Entry) → Ahead es (if_write e ++ rest) → Ahead (es ++ (e ∷ [])) rest
unfolding repeats asked_among asks_for
ahead_next es rest (ReadAsked client cell) a = ahead_other es rest (ReadAsked client cell) (λ x. refl) (λ c v. refl) a
ahead_next es rest (WriteAsked client cell v) a =
    let e : Entry = WriteAsked client cell v in
    let n : es ++ [] ≡ es = append-nil es in
    (clear_next [] es e a.0 (ap (λ (x : List Entry). repeats x e) n ∙ a.1.0), same_clear (e ∷ es) (es ++ (e ∷ [])) rest (same_last es e) a.1.1)
ahead_next es rest (Told client v) a = ahead_other es rest (Told client v) (λ x. refl) (λ c v. refl) a
ahead_next es rest (Done client) a = ahead_other es rest (Done client) (λ x. refl) (λ c v. refl) a

-- ---- an event's plan

-- the write that a note adds
abbrev writes_in : Note → List Entry
writes_in Nothing = []
writes_in (Asked e) = if_write e
writes_in (Ended e) = if_write e

last_adds : (goal : Goal) (client : Client) (held : Pair) → if_write (last_entry goal client held) ≡ []
unfolding last_entry
last_adds Read client held = refl
last_adds (Write v) client held = refl

-- a delivery asks for no write
deliver_adds : (s : Sight) (m : Message) (p : Plan) → Delivers s m p → writes_in p.note ≡ []
deliver_adds s m p (tells x) = rw x.plan
deliver_adds s m p (takes x) = rw x.plan
deliver_adds s m p (hears x) = rw x.plan
deliver_adds s m p (chooses x) = rw x.plan
deliver_adds s m p (counts x) = rw x.plan
deliver_adds s m p (ends x) = rw x.plan (last_adds x.counted.operation.goal m.client x.counted.held)
deliver_adds s m p (spends x) = rw x.plan

-- a start write adds its write, and nothing else adds one
plan_adds : (s : Sight) (held : Option Message) (e : Event) (p : Plan) → Does s held e p → writes_in p.note ≡ writes_by e
unfolding writes_by
plan_adds s held (StartRead client cell) p x = rw x.plan
plan_adds s held (StartWrite client cell v) p x = rw x.plan
plan_adds s None (Deliver slot) p x = absurd x
plan_adds s (Some m) (Deliver slot) p x = deliver_adds s m p x
plan_adds s None (Lose slot) p x = absurd x
plan_adds s (Some m) (Lose slot) p x = rw x
plan_adds s None (Copy slot) p x = absurd x
plan_adds s (Some m) (Copy slot) p x = rw x
plan_adds s held (Resend client) p x = rw x.plan
plan_adds s held (Stop client) p x = rw x.plan
plan_adds s held (Off replica) p x = rw x.plan
plan_adds s held (On replica) p x = rw x.plan
plan_adds s held Unknown p x = absurd x

-- ---- a run

ahead_note : (es rest : List Entry) (note : Note) → Ahead es (writes_in note ++ rest) → Ahead (es ++ added note) rest
ahead_note es rest Nothing a = rw (append-nil es) a
ahead_note es rest (Asked e) a = ahead_next es rest e a
ahead_note es rest (Ended e) a = ahead_next es rest e a

ahead_stays : (r : Rack) (e : Event) (p : Plan) (rest : List Entry) → sound_of r ≡ true → Agrees r → decided r e ≡ Ok p → Ahead (record_of r) (writes_by e ++ rest)
    → Ahead (record_of (applied_of r e p)) rest
ahead_stays r e p rest h a g w =
    let same : writes_in p.note ≡ writes_by e = plan_adds (sight r e) (looked_held r e) e p (decided_does r e p g) in
    rw (record_next r e p h a g) (ahead_note (record_of r) rest p.note (rw same w))

from_clear : (done : ℕ) (r : Rack) (left : ℕ) (ws : List ℕ) → Words ws → sound_of r ≡ true → Agrees r → Ahead (record_of r) (writes_of ws)
    → Clear [] (record_of (run_from done r left ws).rack)
unfolding run_from turn writes_of
from_clear done r zero ws h s a c = c.0
from_clear done r (suc left) [] h s a c = c.0
from_clear done r (suc left) (x ∷ []) h s a c = c.0
from_clear done r (suc left) (x ∷ y ∷ []) h s a c = c.0
from_clear done r (suc left) (x ∷ y ∷ z ∷ []) h s a c = c.0
from_clear done r (suc left) (x ∷ y ∷ z ∷ v ∷ ws) h s a c =
    go (decided r (event_of x y z v)) refl (λ q. from_clear (done + 1) q left ws (λ i. h (suc (suc (suc (suc i))))))
  where
    go : (o : Decision) → decided r (event_of x y z v) ≡ o
        → ((q : Rack) → sound_of q ≡ true → Agrees q → Ahead (record_of q) (writes_of ws) → Clear [] (record_of (run_from (done + 1) q left ws).rack))
        → Clear [] (record_of (turn done r (event_of x y z v) o (λ q. run_from (done + 1) q left ws)).rack)
    go (Err n) e ih = c.0
    go (Ok p) e ih =
        ih (applied_of r (event_of x y z v) p) (sound_stays r (event_of x y z v) p s e) (agree_stays r (event_of x y z v) p s a (event_small x y z v (h 3)) e)
        (ahead_stays r (event_of x y z v) p (writes_of ws) s a e c)

-- The judge takes the record of a run of a fresh rack for just its entries, for any sizes and any allowance, if the writes that the events ask for differ.
taken_whole : (replicas clients cells allowance : ℕ) (events : List ℕ) → Words events → Differ events
    → taken_for (bytes_of (record_of (run_of (made_of (of_sizes replicas clients cells)).rack allowance events).rack))
    ≡ entries (record_of (run_of (made_of (of_sizes replicas clients cells)).rack allowance events).rack)
unfolding distinct
taken_whole replicas clients cells allowance events h d =
    let r : Rack = (made_of (of_sizes replicas clients cells)).rack in
    let s : sound_of r ≡ true = made_sound replicas clients cells in
    let es : List Entry = record_of (run_of r allowance events).rack in
    let first : record_of r ≡ [] = made_empty replicas clients cells in
    let c : Clear [] es =
    rw (run_from_lem r allowance events)
    (from_clear 0 r allowance events h s (made_agrees replicas clients cells) (rw first (tt, distinct_clear [] 0 (writes_of events) (writes_of events) d))) in
    taken_legal es (run_legal replicas clients cells allowance events h) ∙ clear_distinct [] 0 es (entries es) c

-- It doesn't refuse them: its verdict is lawful or unlawful.
pub not_refused : (replicas clients cells allowance : ℕ) (events : List ℕ) → Words events → Differ events
    → (k n : ℕ) → ¬ Judges (taken_for (bytes_of (record_of (run_of (made_of (of_sizes replicas clients cells)).rack allowance events).rack))) (says_refused k n)
not_refused replicas clients cells allowance events h d k n j =
    let t : entries (record_of (run_of (made_of (of_sizes replicas clients cells)).rack allowance events).rack) ≡ fault j.0 n =
    sym (taken_whole replicas clients cells allowance events h d) ∙ j.1.0 in
    let z : ◌≡◌ {A = ℕ} 0 1 = cc in omega arith

-- And by the promise its verdict is lawful, and no other.
pub judged_lawful : (replicas clients cells allowance : ℕ) (events : List ℕ) → Words events → Differ events
    → (v : Verdict) → Judges (taken_for (bytes_of (record_of (run_of (made_of (of_sizes replicas clients cells)).rack allowance events).rack))) v → v ≡ says_lawful
judged_lawful replicas clients cells allowance events h d v j =
    let es : List Entry = record_of (run_of (made_of (of_sizes replicas clients cells)).rack allowance events).rack in
    (lawful_exactly (taken_for (bytes_of es)) v j es (taken_whole replicas clients cells allowance events h d) (run_legal replicas clients cells allowance events h)).1
    (promise replicas clients cells allowance events)
