-- A rack in lent memory is 11,301 words of 32 bits, in this order:
--   5 words: replicas, clients, cells, power (bit k is 1 when replica k is on), count of entries;
--   8 clients of 10 words: stopped (0 or 1), operation number, phase (0 idle, 1 asking, 2 keeping), cell, goal (0 read, 1 write), the goal's value, set,
--     held number, held rank, held value;
--   240 pairs of 3 words, that of replica k and cell x at place 16 k + x: number, rank, value;
--   256 slots of 9 words: 0 empty or 1 full, body (0 ask, 1 tell, 2 keep, 3 kept), client, replica, cell, operation number, number, rank, value;
--   2,048 entries of 4 words: kind, client, cell, value.
-- A value is the number it is written as. Words that a kind hasn't got stand as 0 and aren't looked at.
use Rattle.std.specs.Prelude.{ℕ, zero, suc, ◌+◌, ◌-◌, ◌*◌, ◌^◌, List, [], ◌∷◌, ◌++◌, get_or}
use Rattle.record.specs.Entry.{client_limit}
use Rattle.record.specs.Record.{entry_limit}
use Rattle.quorum.specs.Sets.{set_bits}
use Rattle.method.specs.Refusals.{last_op}
use Rattle.rack.specs.Places.{slot_limit, replica_limit, pair_limit}

-- the words of the head, a client, a pair, a slot and an entry
abbrev pub head_size : ℕ
head_size = 5

abbrev pub party_size : ℕ
party_size = 10

abbrev pub pair_size : ℕ
pair_size = 3

abbrev pub slot_size : ℕ
slot_size = 9

abbrev pub entry_size : ℕ
entry_size = 4

-- what a client is at takes all of its words but two: whether it is stopped, and its operation number
abbrev pub work_size : ℕ
work_size = party_size - 2

-- where client i stands: after the head
abbrev pub party_place : ℕ → ℕ
party_place i = head_size + party_size * i

-- where the pair at place i stands: after the clients
abbrev pub pair_place : ℕ → ℕ
pair_place i = party_place client_limit + pair_size * i

-- where slot i stands: after the pairs
abbrev pub slot_place : ℕ → ℕ
slot_place i = pair_place pair_limit + slot_size * i

-- where entry i stands: after the slots
abbrev pub entry_place : ℕ → ℕ
entry_place i = slot_place slot_limit + entry_size * i

-- how many words a rack takes: up to after the entries
abbrev pub word_count : ℕ
word_count = entry_place entry_limit

-- ---- what a word can say

-- numbers of clients, replicas, cells and ranks are bytes
abbrev pub byte_limit : ℕ
byte_limit = 256

-- a number that no rack has: the greatest that is a byte
abbrev pub stray_number : ℕ
stray_number = byte_limit - 1

-- a set has a bit for each replica that it has room for
abbrev pub set_limit : ℕ
set_limit = 2 ^ set_bits

-- operation numbers go up to the last
abbrev pub op_limit : ℕ
op_limit = last_op + 1

-- power has a bit for each replica that a rack can have
abbrev pub power_limit : ℕ
power_limit = 2 ^ replica_limit

-- ---- words

-- the word at a place
abbrev pub word : List ℕ → ℕ → ℕ
word ws at = get_or ws at 0

-- f 0, f 1, .. up to f (n - 1)
unfoldable pub firsts : {A : Type 0} → ℕ → (ℕ → A) → List A
firsts zero f = []
firsts (suc n) f = firsts n f ++ (f n ∷ [])
