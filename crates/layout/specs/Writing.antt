-- The words of a rack. Only clients and pairs within the sizes and entries below the count are written; the others stay as they are.
use Rattle.std.specs.Prelude.{ℕ, zero, suc, ◌*◌, ◌%◌, List, [], ◌∷◌, ◌++◌, Bool, true, false, cond, ltb, get_or, replicate, None, Some, Option}
use Rattle.std.proofs.lemmas.List.Edits.{sets}
use Rattle.method.specs.declared.Message.{Message}
use Rattle.number.specs.Value.{alternating_of}
use Rattle.record.specs.Entry.{cell_limit}
use Rattle.record.specs.declared.Cell.{Cell}
use Rattle.record.specs.declared.Entry.{Entry}
use Rattle.record.specs.declared.Entry.TheVariants.{ReadAsked}
use Rattle.rows.specs.Row.{row_of}
use Rattle.stamps.specs.declared.Pair.{Pair}
use Rattle.method.specs.declared.Body.{Body}
use Rattle.method.specs.declared.Body.TheVariants.{Ask, Tell, Keep, Kept}
use Rattle.method.specs.declared.Goal.{Goal}
use Rattle.method.specs.declared.Goal.TheVariants.{Read, Write}
use Rattle.method.specs.declared.Operation.{Operation}
use Rattle.method.specs.declared.Phase.{Phase}
use Rattle.method.specs.declared.Phase.TheVariants.{Asking, Keeping}
use Rattle.method.specs.declared.Party.{Party}
use Rattle.rack.specs.declared.Line.{Line}
use Rattle.rack.specs.declared.Rack.{Rack}
use Rattle.stamps.specs.Stamp.{fresh_pair}
use Rattle.rack.specs.Places.{slot_limit, party_at, held_at}
use Rattle.layout.specs.Layout.{work_size, slot_size, party_place, pair_place, slot_place, entry_place}

-- a pair: number, rank, value
unfoldable pub pair_words : Pair → List ℕ
pair_words p = p.stamp.number ∷ p.stamp.rank ∷ alternating_of p.value ∷ []

-- where no pair is, three words 0
abbrev pub no_pair : List ℕ
no_pair = 0 ∷ 0 ∷ 0 ∷ []

-- ---- clients

-- the number of a phase
unfoldable pub phase_word : Phase → ℕ
phase_word (Asking held) = 1
phase_word (Keeping held) = 2

-- what is held in the ask phase: nothing, or a pair
unfoldable pub holding_words : Option Pair → List ℕ
holding_words None = no_pair
holding_words (Some p) = pair_words p

-- what is held in a phase
unfoldable pub held_words : Phase → List ℕ
held_words (Asking held) = holding_words held
held_words (Keeping p) = pair_words p

-- an open operation but what it holds
unfoldable pub open_words : ℕ → Cell → Goal → ℕ → List ℕ
open_words phase cell Read set = phase ∷ cell.0 ∷ 0 ∷ 0 ∷ set ∷ []
open_words phase cell (Write v) set = phase ∷ cell.0 ∷ 1 ∷ alternating_of v ∷ set ∷ []

-- an open operation
unfoldable pub operation_words : Operation → List ℕ
operation_words o = open_words (phase_word o.phase) o.cell o.goal o.set ++ held_words o.phase

-- what a client is at
unfoldable pub work_words : Option Operation → List ℕ
work_words None = replicate work_size 0
work_words (Some o) = operation_words o

-- 1 for what is so, 0 for what isn't
unfoldable pub flag : Bool → ℕ
flag true = 1
flag false = 0

-- a client
unfoldable pub party_words : Party → List ℕ
party_words p = (flag p.stopped ∷ p.op ∷ []) ++ work_words p.work

-- ---- slots

-- the number of what a message says
unfoldable pub body_kind : Body → ℕ
body_kind Ask = 0
body_kind (Tell p) = 1
body_kind (Keep p) = 2
body_kind Kept = 3

-- the pair of a tell or a keep
unfoldable pub body_words : Body → List ℕ
body_words Ask = no_pair
body_words (Tell p) = pair_words p
body_words (Keep p) = pair_words p
body_words Kept = no_pair

-- a slot, empty or full
unfoldable pub slot_words : Option Message → List ℕ
slot_words None = replicate slot_size 0
slot_words (Some m) = (1 ∷ body_kind m.body ∷ m.client.0 ∷ m.replica.0 ∷ m.cell.0 ∷ m.op ∷ []) ++ body_words m.body

-- ---- the rack

-- f 0, f 1, .. up to f (n - 1), each at its place
unfoldable pub put_firsts : ℕ → (ℕ → ℕ) → (ℕ → List ℕ) → List ℕ → List ℕ
put_firsts zero place f ws = ws
put_firsts (suc n) place f ws = sets (put_firsts n place f ws) (place n) (f n)

-- the first five words are written
unfoldable pub head_of : Rack → List ℕ → List ℕ
head_of r ws = sets ws 0 (r.settings.replicas ∷ r.settings.clients ∷ r.settings.cells ∷ r.power ∷ r.count ∷ [])

-- then the clients that the rack has
unfoldable pub parties_put : Rack → List ℕ → List ℕ
parties_put r ws = put_firsts r.settings.clients party_place (λ i. party_words (party_at r i)) ws

-- a pair of a cell that the rack hasn't got is not written
unfoldable pub pair_written : ℕ → ℕ → Pair → List ℕ
pair_written cells i p = cond (ltb (i % cell_limit) cells) (pair_words p) []

-- then the pairs of its replicas and cells
unfoldable pub pairs_put : Rack → List ℕ → List ℕ
pairs_put r ws = put_firsts (cell_limit * r.settings.replicas) pair_place (λ i. pair_written r.settings.cells i (get_or r.pairs i fresh_pair)) ws

-- then the slots of its wire
unfoldable pub wire_put : Rack → List ℕ → List ℕ
wire_put r ws = put_firsts slot_limit slot_place (λ i. slot_words (held_at r i)) ws

-- entry i of the record; past the end of the array, where no count leads, a read
abbrev pub entry_in : List Line → ℕ → Entry
entry_in lines i = (get_or lines i (record { entry = ReadAsked (record { 0 = 0 }) (record { 0 = 0 }) })).entry

-- then the entries of its record
unfoldable pub record_put : Rack → List ℕ → List ℕ
record_put r ws = put_firsts r.count entry_place (λ i. row_of (entry_in r.lines i)) ws

-- what stands in the words ws after the rack is written
unfoldable pub written_of : Rack → List ℕ → List ℕ
written_of r ws = record_put r (wire_put r (pairs_put r (parties_put r (head_of r ws))))
