-- A sound rack part by part: what each test says, and back.
use Rattle.std.specs.Prelude.{ℕ, ◌+◌, ◌≤◌, ◌<◌, ◌≡◌, Bool, true, false, not, ◌&&◌, ◌≢◌, ltb, leb, eqb, set, None, Some, Option}
use Rattle.std.proofs.Common.{ap, arith, lt-ltb, ltb-true, le-leb, leb-true, eqb-true, eq-eqb, ne_eqb}
use Rattle.std.proofs.lemmas.Bool.{eqb-false, not-true}
use Rattle.record.specs.Entry.{client_limit, cell_limit}
use Rattle.record.specs.Record.{entry_limit}
use Rattle.quorum.specs.Sets.{set_bits, within, asks_enough, keeps_enough}
use Rattle.stamps.specs.declared.Pair.{Pair}
use Rattle.method.specs.declared.Message.{Message}
use Rattle.method.specs.declared.Phase.{Phase}
use Rattle.method.specs.declared.Phase.TheVariants.{Asking, Keeping}
use Rattle.method.specs.declared.Operation.{Operation}
use Rattle.rack.specs.declared.Settings.{Settings}
use Rattle.rack.specs.declared.Rack.{Rack}
use Rattle.rack.specs.Places.{slot_limit, replica_limit, party_at, pair_at, held_at}
use Rattle.rack.specs.Sound.{all_below, settings_fit, pair_fits, body_fits, message_fits, held_fits, quorums_of, holding_fits, phase_fits, operation_fits, work_fits, owed, wire_fits}
use Rattle.rack.specs.Sound.{pairs_fit, parties_fit, record_fits, sound_of}
use Rattle.method.specs.laws.Tests.{and_left, and_right, and_true}
use Rattle.rack.specs.laws.Tests.{all_at, all_of}

-- ---- sizes

-- 1 to 15 replicas, 1 to 8 clients and 1 to 16 cells
pub record Sized (z : Settings) : Type 0 where
  pub some_replica : 1 ≤ z.replicas
  pub replicas : z.replicas ≤ replica_limit
  pub some_client : 1 ≤ z.clients
  pub clients : z.clients ≤ client_limit
  pub some_cell : 1 ≤ z.cells
  pub cells : z.cells ≤ cell_limit

pub sized : (z : Settings) → settings_fit z ≡ true → Sized z
unfolding settings_fit
sized z e =
    let a : Bool = leb 1 z.replicas && leb z.replicas replica_limit in
    let b : Bool = leb 1 z.clients && leb z.clients client_limit in
    let c : Bool = leb 1 z.cells && leb z.cells cell_limit in
    let ea : a ≡ true = and_left a (b && c) e in
    let eb : b ≡ true = and_left b c (and_right a (b && c) e) in
    let ec : c ≡ true = and_right b c (and_right a (b && c) e) in
    record {
      some_replica = leb-true 1 z.replicas (and_left (leb 1 z.replicas) (leb z.replicas replica_limit) ea);
      replicas = leb-true z.replicas replica_limit (and_right (leb 1 z.replicas) (leb z.replicas replica_limit) ea);
      some_client = leb-true 1 z.clients (and_left (leb 1 z.clients) (leb z.clients client_limit) eb);
      clients = leb-true z.clients client_limit (and_right (leb 1 z.clients) (leb z.clients client_limit) eb);
      some_cell = leb-true 1 z.cells (and_left (leb 1 z.cells) (leb z.cells cell_limit) ec);
      cells = leb-true z.cells cell_limit (and_right (leb 1 z.cells) (leb z.cells cell_limit) ec);
    }

pub sizes_fit : (z : Settings) → Sized z → settings_fit z ≡ true
unfolding settings_fit
sizes_fit z s =
    and_true _ _
    (and_true _ _ (le-leb 1 z.replicas s.some_replica) (le-leb z.replicas replica_limit s.replicas))
    (and_true _ _
    (and_true _ _ (le-leb 1 z.clients s.some_client) (le-leb z.clients client_limit s.clients))
    (and_true _ _ (le-leb 1 z.cells s.some_cell) (le-leb z.cells cell_limit s.cells)))

-- a set has a bit for each replica
pub bits_enough : (z : Settings) → Sized z → z.replicas ≤ set_bits
unfolding set_bits
bits_enough z s = omega (arith, s.replicas)

-- ---- ranks

pub rank_fits : (z : Settings) (p : Pair) → p.stamp.rank < z.clients → pair_fits z p ≡ true
unfolding pair_fits
rank_fits z p h = lt-ltb p.stamp.rank _ (omega (arith, h))

-- ---- messages

-- the message names a client, a replica, a cell and a rank that the rack has
pub record Named (z : Settings) (m : Message) : Type 0 where
  pub client : m.client.0 < z.clients
  pub replica : m.replica.0 < z.replicas
  pub cell : m.cell.0 < z.cells
  pub body : body_fits z m.body ≡ true

pub named : (z : Settings) (m : Message) → message_fits z m ≡ true → Named z m
unfolding message_fits
named z m e =
    let a : Bool = ltb m.client.0 z.clients in
    let b : Bool = ltb m.replica.0 z.replicas in
    let c : Bool = ltb m.cell.0 z.cells in
    let d : Bool = body_fits z m.body in
    let first : (a && b) ≡ true = and_left (a && b) (c && d) e in
    let second : (c && d) ≡ true = and_right (a && b) (c && d) e in
    record {
      client = ltb-true m.client.0 z.clients (and_left a b first);
      replica = ltb-true m.replica.0 z.replicas (and_right a b first);
      cell = ltb-true m.cell.0 z.cells (and_left c d second);
      body = and_right c d second;
    }

pub message_fits_lem : (z : Settings) (m : Message) → Named z m → message_fits z m ≡ true
unfolding message_fits
message_fits_lem z m n =
    and_true _ _
    (and_true _ _ (lt-ltb m.client.0 z.clients n.client) (lt-ltb m.replica.0 z.replicas n.replica))
    (and_true _ _ (lt-ltb m.cell.0 z.cells n.cell) n.body)

-- ---- open operations

-- what is held in the ask phase: nothing while nobody has told, and then a pair of this rack
abbrev pub HoldingFits : Settings → ℕ → Option Pair → Type 0
HoldingFits z set None = set ≡ 0
HoldingFits z set (Some p) = (set ≢ 0) × (pair_fits z p ≡ true)

pub holding_fits_lem : (z : Settings) (set : ℕ) (held : Option Pair) → HoldingFits z set held → holding_fits z set held ≡ true
unfolding holding_fits
holding_fits_lem z set None h = eq-eqb set 0 h
holding_fits_lem z set (Some p) h = and_true (not (eqb set 0)) (pair_fits z p) (ap not (ne_eqb set 0 h.0)) h.1

pub holding_of_lem : (z : Settings) (set : ℕ) (held : Option Pair) → holding_fits z set held ≡ true → HoldingFits z set held
unfolding holding_fits
holding_of_lem z set None e = eqb-true set 0 e
holding_of_lem z set (Some p) e =
    (eqb-false set 0 (not-true (eqb set 0) (and_left (not (eqb set 0)) (pair_fits z p) e)), and_right (not (eqb set 0)) (pair_fits z p) e)

-- the phase: what is held fits, and the set isn't enough to end it
abbrev pub PhaseFits : Settings → ℕ → Phase → Type 0
PhaseFits z set (Asking held) = HoldingFits z set held × (asks_enough (quorums_of z) set ≡ false)
PhaseFits z set (Keeping held) = (pair_fits z held ≡ true) × (keeps_enough (quorums_of z) set ≡ false)

phase_fits_lem : (z : Settings) (set : ℕ) (ph : Phase) → PhaseFits z set ph → phase_fits z set ph ≡ true
unfolding phase_fits
phase_fits_lem z set (Asking held) h =
    and_true (holding_fits z set held) (not (asks_enough (quorums_of z) set)) (holding_fits_lem z set held h.0) (ap not h.1)
phase_fits_lem z set (Keeping held) h = and_true (pair_fits z held) (not (keeps_enough (quorums_of z) set)) h.0 (ap not h.1)

phase_of_lem : (z : Settings) (set : ℕ) (ph : Phase) → phase_fits z set ph ≡ true → PhaseFits z set ph
unfolding phase_fits
phase_of_lem z set (Asking held) e =
    let a : Bool = holding_fits z set held in
    let b : Bool = not (asks_enough (quorums_of z) set) in
    (holding_of_lem z set held (and_left a b e), not-true (asks_enough (quorums_of z) set) (and_right a b e))
phase_of_lem z set (Keeping held) e =
    let a : Bool = pair_fits z held in
    let b : Bool = not (keeps_enough (quorums_of z) set) in
    (and_left a b e, not-true (keeps_enough (quorums_of z) set) (and_right a b e))

-- an open operation: its cell and what it holds are of this rack, and its set has the rack's replicas only and isn't enough
pub record Opened (z : Settings) (o : Operation) : Type 0 where
  pub cell : o.cell.0 < z.cells
  pub set : within z.replicas o.set ≡ true
  pub phase : PhaseFits z o.set o.phase

pub opened : (z : Settings) (o : Operation) → work_fits z (Some o) ≡ true → Opened z o
unfolding work_fits operation_fits
opened z o e =
    let a : Bool = ltb o.cell.0 z.cells in
    let b : Bool = within z.replicas o.set in
    let c : Bool = phase_fits z o.set o.phase in
    let first : (a && b) ≡ true = and_left (a && b) c e in
    record {
      cell = ltb-true o.cell.0 z.cells (and_left a b first);
      set = and_right a b first;
      phase = phase_of_lem z o.set o.phase (and_right (a && b) c e);
    }

pub open_fits : (z : Settings) (o : Operation) → Opened z o → work_fits z (Some o) ≡ true
unfolding work_fits operation_fits
open_fits z o h =
    and_true _ _ (and_true _ _ (lt-ltb o.cell.0 z.cells h.cell) h.set) (phase_fits_lem z o.set o.phase h.phase)

-- ---- the whole rack

-- every part is sound: the sizes, the wire, the pairs, the open operations, and entries + answers owed
pub record Sound (r : Rack) : Type 0 where
  pub settings : Sized r.settings
  pub slots : (i : ℕ) → i < slot_limit → held_fits r.settings (held_at r i) ≡ true
  pub pairs : (k x : ℕ) → k < r.settings.replicas → x < r.settings.cells → pair_fits r.settings (pair_at r k x) ≡ true
  pub parties : (i : ℕ) → i < r.settings.clients → work_fits r.settings (party_at r i).work ≡ true
  pub entries : r.count + owed r ≤ entry_limit

pub sound_of_lem : (r : Rack) → sound_of r ≡ true → Sound r
unfolding sound_of wire_fits pairs_fit parties_fit record_fits
sound_of_lem r e =
    let a : Bool = settings_fit r.settings in
    let b : Bool = wire_fits r in
    let c : Bool = pairs_fit r in
    let d : Bool = parties_fit r in
    let f : Bool = record_fits r in
    let eb : (b && (c && (d && f))) ≡ true = and_right a (b && (c && (d && f))) e in
    let ec : (c && (d && f)) ≡ true = and_right b (c && (d && f)) eb in
    let ed : (d && f) ≡ true = and_right c (d && f) ec in
    record {
      settings = sized r.settings (and_left a (b && (c && (d && f))) e);
      slots = all_at slot_limit (λ i. held_fits r.settings (held_at r i)) (and_left b (c && (d && f)) eb);
      pairs = λ k x hk hx.
          all_at r.settings.cells (λ y. pair_fits r.settings (pair_at r k y))
          (all_at r.settings.replicas (λ j. all_below r.settings.cells (λ y. pair_fits r.settings (pair_at r j y))) (and_left c (d && f) ec) k hk) x hx;
      parties = all_at r.settings.clients (λ i. work_fits r.settings (party_at r i).work) (and_left d f ed);
      entries = leb-true (r.count + owed r) entry_limit (and_right d f ed);
    }

pub of_sound : (r : Rack) → Sound r → sound_of r ≡ true
unfolding sound_of wire_fits pairs_fit parties_fit record_fits
of_sound r s =
    and_true _ _ (sizes_fit r.settings s.settings)
    (and_true _ _ (all_of slot_limit (λ i. held_fits r.settings (held_at r i)) s.slots)
    (and_true _ _
    (all_of r.settings.replicas (λ j. all_below r.settings.cells (λ y. pair_fits r.settings (pair_at r j y)))
    (λ k hk. all_of r.settings.cells (λ y. pair_fits r.settings (pair_at r k y)) (λ x hx. s.pairs k x hk hx)))
    (and_true _ _
    (all_of r.settings.clients (λ i. work_fits r.settings (party_at r i).work) s.parties)
    (le-leb (r.count + owed r) entry_limit s.entries))))
