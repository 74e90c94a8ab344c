-- A script in bytes: its head, its events, the first fault, and the flat list of events that it stands for.
use Rattle.std.specs.Prelude.{ℕ, zero, suc, ◌-◌, ◌/◌, ◌≡◌, List, [], ◌∷◌, cond, length, ltb, eqb, Result, Ok, Err}
use Rattle.std.proofs.lemmas.List.Edits.{sets}
use Rattle.number.specs.Number.{number_at, and_then}
use Rattle.refusal.specs.declared.Refusal.{Refusal}
use Rattle.refusal.specs.declared.Refusal.TheVariants.{UnknownCode}
use Rattle.script.specs.declared.Filled.{Filled}

-- what reading the head or an event gives: four numbers and the place after them, or the refusal and the byte where the number at fault begins
abbrev pub Words : Type 0
Words = Result (ℕ × ℕ × ℕ × ℕ × ℕ) (Refusal × ℕ)

-- ---- numbers

-- the number at a place of the script, or its refusal
abbrev pub reading : {A : Type 0} → List ℕ → ℕ → (ℕ → ℕ → Result A (Refusal × ℕ)) → Result A (Refusal × ℕ)
reading s at go = and_then (λ k. Err (k, at)) (number_at s at) go

-- the last of four numbers
unfoldable pub last_at : List ℕ → ℕ → ℕ → ℕ → ℕ → Words
last_at s at x y z = reading s at (λ n next. Ok (x, y, z, n, next))

-- ---- the head: replicas, clients, cells, allowance

-- the three sizes of the rack and the allowance, one after another from the first byte on
unfoldable pub head_of : List ℕ → Words
head_of s =
    reading s 0 (λ replicas a.
    reading s a (λ clients b.
    reading s b (λ cells c.
    last_at s c replicas clients cells)))

-- ---- an event: its code, then its fields; words that its kind has no use for are 0

-- after the client of a start: the cell, then the value of a write as in the record
unfoldable pub cell_at : List ℕ → ℕ → ℕ → ℕ → Words
cell_at s at kind client = reading s at (λ cell next. cond (eqb kind 0) (Ok (kind, client, cell, 0, next)) (last_at s next kind client cell))

-- 0 start read (client, cell), 1 start write (client, cell, value), 2 deliver, 3 lose, 4 copy (slot), 5 resend, 6 stop (client), 7 off, 8 on (replica)
unfoldable pub fields_at : List ℕ → ℕ → ℕ → Words
fields_at s at kind = reading s at (λ field next. cond (ltb 1 kind) (Ok (kind, field, 0, 0, next)) (cell_at s next kind field))

-- 15: an unknown code
unfoldable pub event_at : List ℕ → ℕ → Words
event_at s at = reading s at (λ kind next. cond (ltb 8 kind) (Err (UnknownCode, at)) (fields_at s next kind))

-- ---- the events from a place on

-- no event is left; or the first thing is a fault, with its byte; or it is an event, with the place after it
pub data Events : Type 0 where
  none : Events
  fault : (refusal : Refusal) (byte : ℕ) → Events
  event : (kind a b value next : ℕ) → Events → Events

-- an event and those after it, or a fault and nothing more
unfoldable pub enter : Words → (ℕ → Events) → Events
enter (Err (k, byte)) rest = fault k byte
enter (Ok (kind, a, b, value, next)) rest = event kind a b value next (rest next)

-- events follow each other up to the end of the bytes; each takes a byte at least, so that `left` bytes have no more than `left` events
unfoldable pub events_in : ℕ → List ℕ → ℕ → Events
events_in zero s at = none
events_in (suc left) s at = cond (ltb at (length s)) (enter (event_at s at) (λ next. events_in left s next)) none

-- the events from a place on up to the end of the bytes
abbrev pub events_from : List ℕ → ℕ → Events
events_from s at = events_in (length s - at) s at

-- ---- the script

-- the first fault, or what is given where there is none
unfoldable pub unless_fault : {A : Type 0} → Events → Result A (Refusal × ℕ) → Result A (Refusal × ℕ)
unless_fault none w = w
unless_fault (fault k byte) w = Err (k, byte)
unless_fault (event kind a b value next es) w = unless_fault es w

-- a head that could be read, unless an event after it has a fault
abbrev pub checked_after : List ℕ → Words → Words
checked_after s (Err (k, byte)) = Err (k, byte)
checked_after s (Ok (replicas, clients, cells, allowance, first)) = unless_fault (events_from s first) (Ok (replicas, clients, cells, allowance, first))

-- the head and the place of the first event, or the first fault anywhere in the script
unfoldable pub script_of : List ℕ → Words
script_of s = checked_after s (head_of s)

-- ---- the flat list of events, four words each

-- all words, up to the first fault
unfoldable pub words_of : Events → List ℕ
words_of none = []
words_of (fault k byte) = []
words_of (event kind a b value next es) = kind ∷ a ∷ b ∷ value ∷ words_of es

-- the words of the first n events
unfoldable pub words_up_to : ℕ → Events → List ℕ
words_up_to zero es = []
words_up_to (suc n) none = []
words_up_to (suc n) (fault k byte) = []
words_up_to (suc n) (event kind a b value next es) = kind ∷ a ∷ b ∷ value ∷ words_up_to n es

-- how many they are
unfoldable pub count_up_to : ℕ → Events → ℕ
count_up_to zero es = 0
count_up_to (suc n) none = 0
count_up_to (suc n) (fault k byte) = 0
count_up_to (suc n) (event kind a b value next es) = suc (count_up_to n es)

-- the place after them, where they stand from place at on
unfoldable pub place_after : ℕ → ℕ → Events → ℕ
place_after zero at es = at
place_after (suc n) at none = at
place_after (suc n) at (fault k byte) = at
place_after (suc n) at (event kind a b value next es) = place_after n next es

-- what storing the events from place at on in the lent words d has to do: as many as d takes stand at its front
pub record Fills (s : List ℕ) (at : ℕ) (d : List ℕ) (r : Filled) (d' : List ℕ) : Type 0 where
  pub count : r.count ≡ count_up_to (length d / 4) (events_from s at)
  pub next : r.next ≡ place_after (length d / 4) at (events_from s at)
  pub words : d' ≡ sets d 0 (words_up_to (length d / 4) (events_from s at))
