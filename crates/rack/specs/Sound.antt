-- A sound rack. The paper: "A state is unsound exactly when", part by part.
use Rattle.std.specs.Prelude.{ℕ, zero, suc, ◌+◌, List, get_or, Bool, true, cond, not, ◌&&◌, ltb, leb, eqb, None, Some, Option}
use Rattle.method.specs.declared.Party.{Party}
use Rattle.rack.specs.Places.{idle, slot_limit, replica_limit, party_at, pair_at, held_at}
use Rattle.record.specs.Entry.{client_limit, cell_limit}
use Rattle.record.specs.Record.{entry_limit}
use Rattle.quorum.specs.declared.Quorums.{Quorums}
use Rattle.quorum.specs.Sets.{within, asks_enough, keeps_enough}
use Rattle.stamps.specs.declared.Pair.{Pair}
use Rattle.method.specs.declared.Body.{Body}
use Rattle.method.specs.declared.Body.TheVariants.{Ask, Tell, Keep, Kept}
use Rattle.method.specs.declared.Message.{Message}
use Rattle.method.specs.declared.Operation.{Operation}
use Rattle.method.specs.declared.Phase.{Phase}
use Rattle.method.specs.declared.Phase.TheVariants.{Asking, Keeping}
use Rattle.rack.specs.declared.Settings.{Settings}
use Rattle.rack.specs.declared.Rack.{Rack}

-- 1 for an open operation, 0 for none
unfoldable pub owes : Option Operation → ℕ
owes None = 0
owes (Some o) = 1

-- a client owes an answer for its open operation unless it is stopped
unfoldable pub owed_by : Party → ℕ
owed_by p = cond p.stopped 0 (owes p.work)

-- each number below n
unfoldable pub all_below : ℕ → (ℕ → Bool) → Bool
all_below zero f = true
all_below (suc n) f = all_below n f && f n

-- 1 to 15 replicas, 1 to 8 clients and 1 to 16 cells
unfoldable pub settings_fit : Settings → Bool
settings_fit z =
    (leb 1 z.replicas && leb z.replicas replica_limit) && ((leb 1 z.clients && leb z.clients client_limit) && (leb 1 z.cells && leb z.cells cell_limit))

-- a pair names a rank that the rack has
unfoldable pub pair_fits : Settings → Pair → Bool
pair_fits z p = ltb p.stamp.rank z.clients

-- the pair of a tell or a keep names a rank that the rack has
unfoldable pub body_fits : Settings → Body → Bool
body_fits z Ask = true
body_fits z (Tell p) = pair_fits z p
body_fits z (Keep p) = pair_fits z p
body_fits z Kept = true

-- a message names a client, a replica, a cell and a rank that the rack has
unfoldable pub message_fits : Settings → Message → Bool
message_fits z m =
    (ltb m.client.0 z.clients && ltb m.replica.0 z.replicas) && (ltb m.cell.0 z.cells && body_fits z m.body)

-- a slot is empty, or its message names only what the rack has
unfoldable pub held_fits : Settings → Option Message → Bool
held_fits z None = true
held_fits z (Some m) = message_fits z m

-- the quorums that these settings give
abbrev pub quorums_of : Settings → Quorums
quorums_of z = record { replicas = z.replicas }

-- in the ask phase nothing is held while nobody has told, and then a pair that names a rank that the rack has
unfoldable pub holding_fits : Settings → ℕ → Option Pair → Bool
holding_fits z set None = eqb set 0
holding_fits z set (Some p) = not (eqb set 0) && pair_fits z p

-- what is held fits, and the set isn't enough to end the phase
unfoldable pub phase_fits : Settings → ℕ → Phase → Bool
phase_fits z set (Asking held) = holding_fits z set held && not (asks_enough (quorums_of z) set)
phase_fits z set (Keeping held) = pair_fits z held && not (keeps_enough (quorums_of z) set)

-- an open operation's cell is of this rack, its set has no replica that isn't there, and its phase fits
unfoldable pub operation_fits : Settings → Operation → Bool
operation_fits z o = (ltb o.cell.0 z.cells && within z.replicas o.set) && phase_fits z o.set o.phase

-- a client without an open operation fits
unfoldable pub work_fits : Settings → Option Operation → Bool
work_fits z None = true
work_fits z (Some o) = operation_fits z o

-- the answers owed by the first n of some clients
unfoldable pub owed_in : ℕ → List Party → ℕ
owed_in zero ps = 0
owed_in (suc n) ps = owed_in n ps + owed_by (get_or ps n idle)

-- answers owed are one for each open operation of a client not stopped
unfoldable pub owed : Rack → ℕ
owed r = owed_in r.settings.clients r.parties

-- every message on the wire
unfoldable pub wire_fits : Rack → Bool
wire_fits r = all_below slot_limit (λ i. held_fits r.settings (held_at r i))

-- every replica's pair for every cell
unfoldable pub pairs_fit : Rack → Bool
pairs_fit r = all_below r.settings.replicas (λ k. all_below r.settings.cells (λ x. pair_fits r.settings (pair_at r k x)))

-- every client's open operation
unfoldable pub parties_fit : Rack → Bool
parties_fit r = all_below r.settings.clients (λ i. work_fits r.settings (party_at r i).work)

-- entries + answers owed don't exceed 2,048
unfoldable pub record_fits : Rack → Bool
record_fits r = leb (r.count + owed r) entry_limit

-- a state is sound when all of these hold (an operation number above 65,535 can't be written down)
unfoldable pub sound_of : Rack → Bool
sound_of r = settings_fit r.settings && (wire_fits r && (pairs_fit r && (parties_fit r && record_fits r)))
