-- The lines that say what a run did and left, for people and for comparison: how many events were done, the refusal, then the rack.
use Rattle.std.specs.Prelude.{ℕ, zero, suc, List, [], ◌++◌, Bool, true, false, cond, eqb, None, Some, Option}
use Rattle.method.specs.declared.Operation.{Operation}
use Rattle.text.specs.Text.{decimal, field, refused_word, line_feed, value_text, hex_text}
use Rattle.record.specs.Record.{bytes_of}
use Rattle.quorum.specs.Sets.{set_bits, has_replica}
use Rattle.stamps.specs.declared.Pair.{Pair}
use Rattle.method.specs.declared.Body.{Body}
use Rattle.method.specs.declared.Body.TheVariants.{Ask, Tell, Keep, Kept}
use Rattle.method.specs.declared.Message.{Message}
use Rattle.method.specs.declared.Goal.{Goal}
use Rattle.method.specs.declared.Goal.TheVariants.{Read, Write}
use Rattle.method.specs.declared.Phase.{Phase}
use Rattle.method.specs.declared.Phase.TheVariants.{Asking, Keeping}
use Rattle.method.specs.declared.Party.{Party}
use Rattle.rack.specs.declared.Settings.{Settings}
use Rattle.rack.specs.declared.Rack.{Rack}
use Rattle.rack.specs.declared.Ran.{Ran}
use Rattle.rack.specs.Places.{slot_limit, party_at, pair_at, held_at, record_of}
use Rattle.lines.specs.Words.{done_start, none_word, byte_words, rack_start, replica_start, client_start, slot_start, record_start, space, dot, equals, on_word, off_word, stopped_word}
use Rattle.lines.specs.Words.{idle_words, asking_word, keeping_word, read_word, write_word, from_word, from_none, held_word, held_none, ask_word, tell_word, keep_word, kept_word}
use Rattle.lines.specs.Words.{pair_word, client_word, replica_word, cell_word, op_word}

-- ---- what lines are made of

-- the texts of the numbers below n, one after another
unfoldable pub each_below : ℕ → (ℕ → List ℕ) → List ℕ
each_below zero f = []
each_below (suc n) f = each_below n f ++ f n

-- number.rank=value
abbrev pub pair_text : Pair → List ℕ
pair_text p = decimal p.stamp.number ++ (field dot p.stamp.rank ++ (equals ++ value_text p.value))

-- ---- a slot's line: full slots only; tell and keep end with the pair

-- the word for a message: ask, tell, keep or kept
abbrev pub kind_text : Body → List ℕ
kind_text Ask = ask_word
kind_text (Tell p) = tell_word
kind_text (Keep p) = keep_word
kind_text Kept = kept_word

-- the pair of a tell or a keep; nothing for the others
abbrev pub body_pair : Body → List ℕ
body_pair Ask = []
body_pair (Tell p) = pair_word ++ pair_text p
body_pair (Keep p) = pair_word ++ pair_text p
body_pair Kept = []

-- client, replica, cell and operation number, each after its word
abbrev pub names_text : ℕ → ℕ → ℕ → ℕ → List ℕ
names_text client replica cell op = field client_word client ++ (field replica_word replica ++ (field cell_word cell ++ field op_word op))

-- a message: its word, whom and what it names, and its pair
abbrev pub message_text : Message → List ℕ
message_text m = kind_text m.body ++ (names_text m.client.0 m.replica.0 m.cell.0 m.op ++ body_pair m.body)

-- slot i and its message; an empty slot has no line
abbrev pub slot_line : ℕ → Option Message → List ℕ
slot_line i None = []
slot_line i (Some m) = field slot_start i ++ (message_text m ++ line_feed)

-- ---- a client's line

-- read, or write and the value
abbrev pub goal_text : Goal → List ℕ
goal_text Read = read_word
goal_text (Write v) = write_word ++ value_text v

-- replica k with a space before it, if the set has it
abbrev pub member_text : ℕ → ℕ → List ℕ
member_text set k = cond (has_replica set k) (field space k) []

-- the members of a set, a space before each; " none" where there is none
abbrev pub members_text : ℕ → List ℕ
members_text set = cond (eqb set 0) from_none (each_below set_bits (λ k. member_text set k))

-- an open operation: read or write, cell, operation number, and the replicas that have answered
abbrev pub open_text : ℕ → ℕ → Goal → ℕ → List ℕ
open_text op cell goal set = goal_text goal ++ (field cell_word cell ++ (field op_word op ++ (from_word ++ members_text set)))

-- the pair that is held, after its word
abbrev pub held_text : Pair → List ℕ
held_text p = held_word ++ pair_text p

-- in the ask phase: nothing is held while nobody has told, and then a pair
abbrev pub holding_text : Option Pair → List ℕ
holding_text None = held_none
holding_text (Some p) = held_text p

-- the word for a phase: asking or keeping
abbrev pub phase_word : Phase → List ℕ
phase_word (Asking held) = asking_word
phase_word (Keeping held) = keeping_word

-- what is held in a phase
abbrev pub phase_held : Phase → List ℕ
phase_held (Asking held) = holding_text held
phase_held (Keeping held) = held_text held

-- idle, or asking or keeping with the open operation and what is held
abbrev pub work_text : ℕ → Option Operation → List ℕ
work_text op None = field idle_words op
work_text op (Some o) = phase_word o.phase ++ (open_text op o.cell.0 o.goal o.set ++ phase_held o.phase)

-- a word for a stopped client, nothing for another
abbrev pub stopped_text : Bool → List ℕ
stopped_text true = stopped_word
stopped_text false = []

-- client i: whether it is stopped, and what it is at
abbrev pub client_line : ℕ → Party → List ℕ
client_line i p = field client_start i ++ (stopped_text p.stopped ++ (work_text p.op p.work ++ line_feed))

-- ---- a replica's line: its pair for each cell, a space before each

-- on or off
abbrev pub power_text : Bool → List ℕ
power_text true = on_word
power_text false = off_word

-- replica k's pair for each cell, a space before each
abbrev pub pairs_text : Rack → ℕ → List ℕ
pairs_text r k = each_below r.settings.cells (λ x. space ++ pair_text (pair_at r k x))

-- replica k: on or off, and its pairs
abbrev pub replica_line : Rack → ℕ → List ℕ
replica_line r k = field replica_start k ++ (power_text (has_replica r.power k) ++ (pairs_text r k ++ line_feed))

-- ---- the rack, and a run

-- the rack's sizes: replicas, clients, cells
abbrev pub sizes_line : Settings → List ℕ
sizes_line z = field rack_start z.replicas ++ (field space z.clients ++ (field space z.cells ++ line_feed))

-- the record's bytes, in two hex digits each
abbrev pub record_line : Rack → List ℕ
record_line r = record_start ++ (hex_text (bytes_of (record_of r)) ++ line_feed)

-- slots by rising number
abbrev pub rack_text : Rack → List ℕ
rack_text r =
    sizes_line r.settings
    ++ (each_below r.settings.replicas (λ k. replica_line r k)
    ++ (each_below r.settings.clients (λ i. client_line i (party_at r i))
    ++ (each_below slot_limit (λ i. slot_line i (held_at r i))
    ++ record_line r)))

-- the number of the refusal, or the word for none
abbrev pub refusal_text : ℕ → List ℕ
refusal_text k = cond (eqb k 0) none_word (decimal k)

-- the line of a run's refusal
abbrev pub refused_line : ℕ → List ℕ
refused_line k = refused_word ++ (refusal_text k ++ line_feed)

-- the lines of a run
unfoldable pub ran_text : Ran → List ℕ
ran_text q = (field done_start q.done ++ (line_feed ++ refused_line q.refusal)) ++ rack_text q.rack

-- so many bytes have room for them, and for the line below
abbrev pub text_room : ℕ
text_room = 262144

-- the one line of a script that has a fault
unfoldable pub fault_line : ℕ → ℕ → List ℕ
fault_line refusal byte = field refused_word refusal ++ (field byte_words byte ++ line_feed)
