-- An entry: its kind and then its fields, each a number. The paper: "The record and its bytes".
use Rattle.std.specs.Prelude.{ℕ, ◌-◌, List, ◌++◌, cond, ltb, eqb, Result, Ok, Err}
use Rattle.number.specs.Number.{Number, number_bytes, number_at, and_then}
use Rattle.number.specs.Value.{alternating_of, signed_of}
use Rattle.record.specs.declared.Entry.{Entry}
use Rattle.record.specs.declared.Entry.TheVariants.{ReadAsked, WriteAsked, Told, Done}
use Rattle.refusal.specs.declared.Refusal.{Refusal}
use Rattle.refusal.specs.declared.Refusal.TheVariants.{KindAbove, FieldAbove}

-- what reading an entry gives: the entry and the place after it, or the refusal
abbrev pub Found : Type 0
Found = Result (Entry × ℕ) Refusal

-- a rack has at most 8 clients, numbered from 0
abbrev pub client_limit : ℕ
client_limit = 8

-- the greatest number of a client
abbrev pub last_client : ℕ
last_client = client_limit - 1

-- a rack has at most 16 cells, numbered from 0
abbrev pub cell_limit : ℕ
cell_limit = 16

-- the greatest number of a cell
abbrev pub last_cell : ℕ
last_cell = cell_limit - 1

-- an entry takes at most 8 bytes: one each for kind, client and cell, five for a value
abbrev pub longest_entry : ℕ
longest_entry = 8

-- 0 read asked (client, cell); 1 write asked (client, cell, value); 2 told (client, value); 3 done (client)
unfoldable pub entry_bytes : Entry → List ℕ
entry_bytes (ReadAsked client cell) = number_bytes 0 ++ (number_bytes client.0 ++ number_bytes cell.0)
entry_bytes (WriteAsked client cell v) = number_bytes 1 ++ (number_bytes client.0 ++ (number_bytes cell.0 ++ number_bytes (alternating_of v)))
entry_bytes (Told client v) = number_bytes 2 ++ (number_bytes client.0 ++ number_bytes (alternating_of v))
entry_bytes (Done client) = number_bytes 3 ++ number_bytes client.0

-- as soon as a number is read: the refusal, if it is above the limit
unfoldable pub up_to : ℕ → Refusal → Number → Number
up_to limit refusal (Err k) = Err k
up_to limit refusal (Ok (n, next)) = cond (ltb limit n) (Err refusal) (Ok (n, next))

-- the fields after kind and client; 25: cell above the last
unfoldable pub fields_at : List ℕ → ℕ → ℕ → ℕ → Found
fields_at s at kind client =
    cond (eqb kind 3) (Ok (Done (record { 0 = client }), at))
    (cond (eqb kind 2) (and_then Err (number_at s at) (λ v next. Ok (Told (record { 0 = client }) (signed_of v), next)))
    (and_then Err (up_to last_cell FieldAbove (number_at s at)) (λ cell next.
    cond (eqb kind 0) (Ok (ReadAsked (record { 0 = client }) (record { 0 = cell }), next))
    (and_then Err (number_at s next) (λ v last. Ok (WriteAsked (record { 0 = client }) (record { 0 = cell }) (signed_of v), last))))))

-- what reading an entry at place at of s gives; 24: kind above 3; 25: client above the last
unfoldable pub entry_at : List ℕ → ℕ → Found
entry_at s at =
    and_then Err (up_to 3 KindAbove (number_at s at)) (λ kind next.
    and_then Err (up_to last_client FieldAbove (number_at s next)) (λ client more.
    fields_at s more kind client))
