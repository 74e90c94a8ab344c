-- The record: its entries one after another, and what its bytes hold. The paper: "The record and its bytes".
use Rattle.std.specs.Prelude.{ℕ, zero, suc, ◌+◌, ◌*◌, List, [], ◌∷◌, ◌++◌, Bool, cond, length, get_or, set, replicate, ltb, eqb, Option, None, Some, Result, Ok, Err}
use Rattle.record.specs.declared.Client.{Client}
use Rattle.record.specs.declared.Entry.{Entry}
use Rattle.record.specs.declared.Entry.TheVariants.{ReadAsked, WriteAsked, Told, Done}
use Rattle.record.specs.declared.Standing.{Standing}
use Rattle.record.specs.Entry.{Found, client_limit, longest_entry, entry_bytes, entry_at}
use Rattle.refusal.specs.declared.Refusal.{Refusal}
use Rattle.refusal.specs.declared.Refusal.TheVariants.{AskedWhileOpen, EndedUnasked, TooMany}

-- what reading or writing a record gives: how many entries or bytes, or the refusal with its entry's number
abbrev pub Answer : Type 0
Answer = Result ℕ (Refusal × ℕ)

-- the record holds at most 2,048 entries
abbrev pub entry_limit : ℕ
entry_limit = 2048

-- so many bytes at most
abbrev pub longest_record : ℕ
longest_record = longest_entry * entry_limit

-- before the first entry no client has an operation open
abbrev pub fresh : Standing
fresh = record { has = replicate client_limit 0 }

-- what a client has open: nothing is 0, a read 1, a write 2
abbrev pub open_by : Standing → Client → ℕ
open_by st client = get_or st.has client.0 0

-- 26: asked by a client with an operation open; 27: told or done without an open operation of that kind
unfoldable pub fault_after : Standing → Entry → Option Refusal
fault_after st (ReadAsked client cell) = cond (eqb (open_by st client) 0) None (Some AskedWhileOpen)
fault_after st (WriteAsked client cell v) = cond (eqb (open_by st client) 0) None (Some AskedWhileOpen)
fault_after st (Told client v) = cond (eqb (open_by st client) 1) None (Some EndedUnasked)
fault_after st (Done client) = cond (eqb (open_by st client) 2) None (Some EndedUnasked)

-- a client that now has open what is given
abbrev pub opened : Standing → Client → ℕ → Standing
opened st client what = record { has = set st.has client.0 what }

-- what is open after an entry
unfoldable pub standing_after : Standing → Entry → Standing
standing_after st (ReadAsked client cell) = opened st client 1
standing_after st (WriteAsked client cell v) = opened st client 2
standing_after st (Told client v) = opened st client 0
standing_after st (Done client) = opened st client 0

-- what bytes or rows hold: entries, or the first fault with its entry's number
pub data Held : Type 0 where
  entries : List Entry → Held
  fault : (refusal : Refusal) (entry : ℕ) → Held

-- an entry before what is held after it
unfoldable pub before : Entry → Held → Held
before e (entries es) = entries (e ∷ es)
before e (fault k n) = fault k n

-- what is held, unless the entry n is refused
unfoldable pub unless_refused : Option Refusal → ℕ → Held → Held
unless_refused None n held = held
unless_refused (Some k) n held = fault k n

-- after the whole entry n: 26 and 27; else go on after it
unfoldable pub enter : ℕ → Standing → Found → (ℕ → Standing → Held) → Held
enter n st (Err k) go = fault k n
enter n st (Ok (e, next)) go = unless_refused (fault_after st e) n (before e (go next (standing_after st e)))

-- what is held from place at on, where `more` says that something stands at a place and `found` what: n is the next entry's number, and
-- `left` more entries may follow; 28: something remains after them
unfoldable pub held_from : (ℕ → Bool) → (ℕ → Found) → ℕ → ℕ → ℕ → Standing → Held
held_from more found zero at n st = cond (more at) (fault TooMany n) (entries [])
held_from more found (suc left) at n st =
    cond (more at) (enter n st (found at) (λ next st'. held_from more found left next (n + 1) st')) (entries [])

-- what the bytes s hold
unfoldable pub bytes_held : List ℕ → Held
bytes_held s = held_from (λ at. ltb at (length s)) (entry_at s) entry_limit 0 0 fresh

-- the numbers of each entry, one after another
unfoldable pub all_of : (Entry → List ℕ) → List Entry → List ℕ
all_of f [] = []
all_of f (e ∷ es) = f e ++ all_of f es

-- the bytes of a record; no bytes is the empty record
abbrev pub bytes_of : List Entry → List ℕ
bytes_of es = all_of entry_bytes es

-- what is held, without memory for it: how many entries
unfoldable pub survey_of : Held → Answer
survey_of (entries es) = Ok (length es)
survey_of (fault k n) = Err (k, n)
