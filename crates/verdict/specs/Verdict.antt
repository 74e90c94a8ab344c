-- What the judge says of a record's bytes. The paper: "What lawful means", and refusal 29 of "The record and its bytes".
use Rattle.std.specs.Prelude.{ℕ, ◌+◌, ◌<◌, ◌≡◌, List, [], ◌∷◌, Bool, false, cond, ◌||◌, ◌&&◌, eqb, ℤ}
use Rattle.number.specs.Value.{alternating_of}
use Rattle.record.specs.declared.Entry.{Entry}
use Rattle.record.specs.declared.Entry.TheVariants.{ReadAsked, WriteAsked, Told, Done}
use Rattle.record.specs.Record.{Held, entries, fault, bytes_held}
use Rattle.refusal.specs.declared.Refusal.{Refusal}
use Rattle.refusal.specs.declared.Refusal.TheVariants.{AskedAgain}
use Rattle.refusal.specs.Number.{paper_number}
use Rattle.law.specs.Operation.{operations}
use Rattle.law.specs.Order.{Lawful}
use Rattle.law.specs.Part.{part_of}
use Rattle.verdict.specs.declared.Verdict.{Verdict}
use Rattle.verdict.specs.declared.Verdict.TheVariants.{Lawful as says_lawful, Unlawful as says_unlawful, Refused as says_refused}

-- whether an entry asks to write the value v to the cell c
unfoldable pub asks_for : ℕ → ℤ → Entry → Bool
asks_for c v (ReadAsked client cell) = false
asks_for c v (WriteAsked client cell w) = eqb cell.0 c && eqb (alternating_of w) (alternating_of v)
asks_for c v (Told client w) = false
asks_for c v (Done client) = false

-- whether one of the entries does
unfoldable pub asked_among : ℕ → ℤ → List Entry → Bool
asked_among c v [] = false
asked_among c v (e ∷ es) = asks_for c v e || asked_among c v es

-- a write asked with value 0, or with a value asked earlier for that cell
unfoldable pub repeats : List Entry → Entry → Bool
repeats earlier (ReadAsked client cell) = false
repeats earlier (WriteAsked client cell v) = eqb (alternating_of v) 0 || asked_among cell.0 v earlier
repeats earlier (Told client v) = false
repeats earlier (Done client) = false

-- 29: the first such entry is named; n is the number of the first of es, and `earlier` stand before them
unfoldable pub distinct_from : List Entry → ℕ → List Entry → Held → Held
distinct_from earlier n [] whole = whole
distinct_from earlier n (e ∷ es) whole = cond (repeats earlier e) (fault AskedAgain n) (distinct_from (e ∷ earlier) (n + 1) es whole)

-- 29 comes after reading
unfoldable pub distinct : Held → Held
distinct (entries es) = distinct_from [] 0 es (entries es)
distinct (fault k n) = fault k n

-- what the judge takes the bytes s for: entries, or a refusal with its entry's number
unfoldable pub taken_for : List ℕ → Held
taken_for s = distinct (bytes_held s)

-- c is the lowest cell whose part has no lawful order
pub record LowestCell (es : List Entry) (c : ℕ) : Type 0 where
  pub unlawful : ¬ Lawful (operations (part_of c es))
  pub below : (d : ℕ) → d < c → Lawful (operations (part_of d es))

-- what is held is refused by the number k, and entry n is named
abbrev pub RefusedBy : Held → ℕ → ℕ → Type 0
RefusedBy h k n = (r : Refusal) × ((h ≡ fault r n) × (k ≡ paper_number r))

-- the verdict on what is held
abbrev pub Judges : Held → Verdict → Type 0
Judges h says_lawful = (es : List Entry) × ((h ≡ entries es) × Lawful (operations es))
Judges h (says_unlawful c) = (es : List Entry) × ((h ≡ entries es) × LowestCell es c.0)
Judges h (says_refused k n) = RefusedBy h k n
