-- The lines of a run on a sound rack have room in `text_room` bytes.
use Rattle.std.specs.Prelude.{ℕ, zero, suc, ◌+◌, ◌*◌, ◌≤◌, ◌≡◌, Bool, true, false, cond, List, [], ◌∷◌, ◌++◌, map, eqb, length, take, None, Some, Option}
use Rattle.std.proofs.Common.{arith, length-append}
use Rattle.method.specs.declared.Operation.{Operation}
use Rattle.method.specs.declared.Message.{Message}
use Rattle.text.specs.Text.{decimal, field, refused_word, line_feed, hex_text}
use Rattle.text.specs.laws.Length.{Few, both, digits_few, value_few, hex_few}
use Rattle.record.specs.Entry.{client_limit, cell_limit, entry_bytes}
use Rattle.record.specs.Record.{entry_limit, all_of, bytes_of}
use Rattle.record.proofs.theorems.EntryTrip.{entry_most}
use Rattle.quorum.specs.Sets.{set_bits, has_replica}
use Rattle.stamps.specs.declared.Pair.{Pair}
use Rattle.method.specs.declared.Body.{Body}
use Rattle.method.specs.declared.Body.TheVariants.{Ask, Tell, Keep, Kept}
use Rattle.method.specs.declared.Goal.{Goal}
use Rattle.method.specs.declared.Goal.TheVariants.{Read, Write}
use Rattle.method.specs.declared.Phase.{Phase}
use Rattle.method.specs.declared.Phase.TheVariants.{Asking, Keeping}
use Rattle.method.specs.declared.Party.{Party}
use Rattle.rack.specs.declared.Line.{Line}
use Rattle.rack.specs.declared.Settings.{Settings}
use Rattle.rack.specs.declared.Rack.{Rack}
use Rattle.rack.specs.declared.Ran.{Ran}
use Rattle.rack.specs.Places.{replica_limit, slot_limit, party_at, pair_at, held_at, record_of}
use Rattle.rack.specs.Sound.{sound_of}
use Rattle.rack.specs.laws.SoundLaws.{sound_of_lem}
use Rattle.lines.specs.Words.{done_start, none_word, replica_start, client_start, slot_start, record_start, space, from_none}
use Rattle.lines.specs.Lines.{text_room, each_below, pair_text, kind_text, body_pair, names_text, message_text, slot_line, goal_text, member_text, members_text, open_text, held_text}
use Rattle.lines.specs.Lines.{holding_text}
use Rattle.lines.specs.Lines.{phase_word, phase_held, work_text}
use Rattle.lines.specs.Lines.{stopped_text, client_line, power_text, pairs_text, replica_line, sizes_line, record_line, rack_text, refusal_text, refused_line, ran_text, fault_line}

-- ---- how long parts of the lines are at most

-- the replicas of a set, 21 bytes each
abbrev set_most : ℕ
set_most = set_bits * 21

-- an open operation, without its phase and what is held
abbrev open_most : ℕ
open_most = 83 + set_most

-- what a client is at
abbrev work_most : ℕ
work_most = 8 + (open_most + 69)

-- a client's line
abbrev client_most : ℕ
client_most = 27 + (8 + (work_most + 1))

-- a cell's pair in a replica's line
abbrev pair_most : ℕ
pair_most = 64

-- a replica's line
abbrev replica_most : ℕ
replica_most = 28 + (4 + (cell_limit * pair_most + 1))

-- a slot's line
abbrev slot_most : ℕ
slot_most = 207

-- the record's bytes, each of an entry's in hex with a space before it
abbrev record_most : ℕ
record_most = entry_limit * 60

-- ---- pairs

pair_few : (p : Pair) → Few (pair_text p) 63
pair_few p = record { few = simp length-append (omega (arith, (digits_few 20 p.stamp.number).few, (digits_few 20 p.stamp.rank).few, (value_few p.value).few)) }

-- texts of at most m bytes
each_few : (n m : ℕ) (f : ℕ → List ℕ) → ((i : ℕ) → Few (f i) m) → Few (each_below n f) (n * m)
unfolding each_below
each_few zero m f h = record { few = omega arith }
each_few (suc n) m f h = let e : suc n * m ≡ n * m + m = omega arith in
    record { few = simp length-append (omega (arith, (each_few n m f h).few, (h n).few)) }

-- ---- slots

kind_few : (b : Body) → Few (kind_text b) 5
kind_few Ask = record { few = omega arith }
kind_few (Tell p) = record { few = omega arith }
kind_few (Keep p) = record { few = omega arith }
kind_few Kept = record { few = omega arith }

body_few : (b : Body) → Few (body_pair b) 69
body_few Ask = record { few = omega arith }
body_few (Tell p) = record { few = omega (arith, (pair_few p).few) }
body_few (Keep p) = record { few = omega (arith, (pair_few p).few) }
body_few Kept = record { few = omega arith }

names_few : (client replica cell op : ℕ) → Few (names_text client replica cell op) 107
names_few client replica cell op =
    record { few = simp length-append (omega (arith, (digits_few 20 client).few, (digits_few 20 replica).few, (digits_few 20 cell).few, (digits_few 20 op).few)) }

slot_few : (i : ℕ) (h : Option Message) → Few (slot_line i h) slot_most
slot_few i None = record { few = omega arith }
slot_few i (Some m) =
    let names = names_few m.client.0 m.replica.0 m.cell.0 m.op in
    let message : Few (message_text m) 181 = both (kind_few m.body) (both names (body_few m.body)) in
    let end : Few line_feed 1 = record { few = omega arith } in
    let start : Few (field slot_start i) 25 = record { few = omega (arith, (digits_few 20 i).few) } in
    both start (both message end)

-- ---- clients

goal_few : (g : Goal) → Few (goal_text g) 28
goal_few Read = record { few = omega arith }
goal_few (Write v) = record { few = omega (arith, (value_few v).few) }

member_few : (set k : ℕ) → Few (member_text set k) 21
member_few set k = go (has_replica set k)
  where
    go : (t : Bool) → Few (cond t (field space k) []) 21
    go true = record { few = omega (arith, (digits_few 20 k).few) }
    go false = record { few = omega arith }

members_few : (set : ℕ) → Few (members_text set) set_most
unfolding set_bits
members_few set = go (eqb set 0)
  where
    go : (t : Bool) → Few (cond t from_none (each_below set_bits (λ k. member_text set k))) set_most
    go true = record { few = omega arith }
    go false = record { few = omega (arith, (each_few set_bits 21 (λ k. member_text set k) (member_few set)).few) }

open_few : (op cell : ℕ) (goal : Goal) (set : ℕ) → Few (open_text op cell goal set) open_most
open_few op cell goal set = record { few = simp length-append (omega (arith, (goal_few goal).few, (digits_few 20 cell).few, (digits_few 20 op).few, (members_few set).few)) }

held_few : (p : Pair) → Few (held_text p) 69
held_few p = record { few = omega (arith, (pair_few p).few) }

holding_few : (held : Option Pair) → Few (holding_text held) 69
holding_few None = record { few = omega arith }
holding_few (Some p) = held_few p

phase_few : (ph : Phase) → Few (phase_word ph) 8
phase_few (Asking held) = record { few = omega arith }
phase_few (Keeping held) = record { few = omega arith }

phase_held_few : (ph : Phase) → Few (phase_held ph) 69
phase_held_few (Asking held) = holding_few held
phase_held_few (Keeping held) = held_few held

work_few : (op : ℕ) (w : Option Operation) → Few (work_text op w) work_most
work_few op None = record { few = omega (arith, (digits_few 20 op).few) }
work_few op (Some o) = both (phase_few o.phase) (both (open_few op o.cell.0 o.goal o.set) (phase_held_few o.phase))

stopped_few : (b : Bool) → Few (stopped_text b) 8
stopped_few true = record { few = omega arith }
stopped_few false = record { few = omega arith }

client_few : (i : ℕ) (p : Party) → Few (client_line i p) client_most
client_few i p =
    let start : Few (field client_start i) 27 = record { few = omega (arith, (digits_few 20 i).few) } in
    let end : Few line_feed 1 = record { few = omega arith } in
    both start (both (stopped_few p.stopped) (both (work_few p.op p.work) end))

-- ---- replicas

power_few : (b : Bool) → Few (power_text b) 4
power_few true = record { few = omega arith }
power_few false = record { few = omega arith }

cell_few : (r : Rack) (k x : ℕ) → Few (space ++ pair_text (pair_at r k x)) pair_most
cell_few r k x = record { few = omega (arith, (pair_few (pair_at r k x)).few) }

replica_few : (r : Rack) → r.settings.cells ≤ cell_limit → (k : ℕ) → Few (replica_line r k) replica_most
replica_few r h k =
    let start : Few (field replica_start k) 28 = record { few = omega (arith, (digits_few 20 k).few) } in
    let pairs : Few (pairs_text r k) (cell_limit * pair_most) = record { few = omega (arith, (each_few r.settings.cells pair_most (λ x. space ++ pair_text (pair_at r k x)) (cell_few r k)).few) } in
    let end : Few line_feed 1 = record { few = omega arith } in
    both start (both (power_few (has_replica r.power k)) (both pairs end))

-- ---- the record

entries_few : (n : ℕ) (lines : List Line) → Few (bytes_of (map (λ (l : Line). l.entry) (take n lines))) (n * 20)
unfolding all_of
entries_few zero lines = record { few = omega arith }
entries_few (suc n) [] = record { few = omega arith }
entries_few (suc n) (l ∷ lines) = let e : Few (entry_bytes l.entry) 20 = record { few = entry_most l.entry } in
    let b = both e (entries_few n lines) in record { few = omega (arith, b.few) }

record_few : (r : Rack) → r.count ≤ entry_limit → Few (record_line r) (6 + (record_most + 1))
unfolding record_of
record_few r h =
    let start : Few record_start 6 = record { few = omega arith } in
    let bytes : Few (hex_text (bytes_of (record_of r))) record_most = record { few = omega (arith, (hex_few (bytes_of (record_of r))).few, (entries_few r.count r.lines).few) } in
    let end : Few line_feed 1 = record { few = omega arith } in
    both start (both bytes end)

-- ---- the rack, and a run

sizes_few : (z : Settings) → Few (sizes_line z) 68
sizes_few z = record { few = simp length-append (omega (arith, (digits_few 20 z.replicas).few, (digits_few 20 z.clients).few, (digits_few 20 z.cells).few)) }

rack_few : (r : Rack) → sound_of r ≡ true
    → Few (rack_text r) (68 + (replica_limit * replica_most + (client_limit * client_most + (slot_limit * slot_most + (6 + (record_most + 1))))))
unfolding set_bits
rack_few r h =
    let s = sound_of_lem r h in
    let replicas : Few (each_below r.settings.replicas (λ k. replica_line r k)) (replica_limit * replica_most) =
    record { few = omega (arith, (each_few r.settings.replicas replica_most (λ k. replica_line r k) (replica_few r s.settings.cells)).few, s.settings.replicas) } in
    let clients : Few (each_below r.settings.clients (λ i. client_line i (party_at r i))) (client_limit * client_most) =
    record { few = omega (arith, (each_few r.settings.clients client_most (λ i. client_line i (party_at r i)) (λ i. client_few i (party_at r i))).few, s.settings.clients) } in
    let slots : Few (each_below slot_limit (λ i. slot_line i (held_at r i))) (slot_limit * slot_most) =
    record { few = omega (arith, (each_few slot_limit slot_most (λ i. slot_line i (held_at r i)) (λ i. slot_few i (held_at r i))).few) } in
    both (sizes_few r.settings) (both replicas (both clients (both slots (record_few r (omega (arith, s.entries))))))

refusal_few : (k : ℕ) → Few (refusal_text k) 20
refusal_few k = go (eqb k 0)
  where
    go : (t : Bool) → Few (cond t none_word (decimal k)) 20
    go true = record { few = omega arith }
    go false = digits_few 20 k

pub ran_fits : (q : Ran) → sound_of q.rack ≡ true → length (ran_text q) ≤ text_room
unfolding ran_text set_bits
ran_fits q h =
    let done : Few (field done_start q.done) 25 = record { few = omega (arith, (digits_few 20 q.done).few) } in
    let start : Few refused_word 8 = record { few = omega arith } in
    let end : Few line_feed 1 = record { few = omega arith } in
    omega (arith, (both (both done (both end (both start (both (refusal_few q.refusal) end)))) (rack_few q.rack h)).few)

-- the line of a script's fault
pub fault_fits : (refusal byte : ℕ) → length (fault_line refusal byte) ≤ text_room
unfolding fault_line
fault_fits refusal byte = simp length-append (omega (arith, (digits_few 20 refusal).few, (digits_few 20 byte).few))

-- both lines of a refusal fit 64 bytes
pub fault_short : (refusal byte : ℕ) → length (fault_line refusal byte) ≤ 64
unfolding fault_line
fault_short refusal byte = simp length-append (omega (arith, (digits_few 20 refusal).few, (digits_few 20 byte).few))

pub refused_short : (refusal : ℕ) → length (refused_line refusal) ≤ 64
refused_short refusal = simp length-append (omega (arith, (refusal_few refusal).few))
