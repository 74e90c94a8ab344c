-- What was written is read again: where the words of a part stand, that part is read.
use Rattle.std.specs.Prelude.{ℕ, suc, ◌+◌, ◌<◌, ◌≡◌, refl, Bool, true, false, ◌&&◌, ◌||◌, List, ◌++◌, ltb, eqb, length, get_or, None, Some, Option}
use Rattle.std.proofs.Common.{ap, ◌∙◌, arith, length-append, lt-ltb, eq-eqb, ne_eqb}
use Rattle.number.specs.Value.{alternating_of}
use Rattle.number.specs.laws.ValueLaws.{signed_alternating}
use Rattle.record.specs.declared.Cell.{Cell}
use Rattle.record.specs.declared.Entry.{Entry}
use Rattle.record.specs.declared.Entry.TheVariants.{ReadAsked, WriteAsked, Told, Done}
use Rattle.rows.specs.Row.{entry_of, row_of}
use Rattle.rows.specs.laws.RowLaws.{row_length}
use Rattle.stamps.specs.declared.Pair.{Pair}
use Rattle.method.specs.declared.Body.{Body}
use Rattle.method.specs.declared.Body.TheVariants.{Ask, Tell, Keep, Kept}
use Rattle.method.specs.declared.Message.{Message}
use Rattle.method.specs.declared.Goal.{Goal}
use Rattle.method.specs.declared.Goal.TheVariants.{Read, Write}
use Rattle.method.specs.declared.Operation.{Operation}
use Rattle.method.specs.declared.Phase.{Phase}
use Rattle.method.specs.declared.Phase.TheVariants.{Asking, Keeping}
use Rattle.method.specs.declared.Party.{Party}
use Rattle.record.specs.Entry.{client_limit, cell_limit}
use Rattle.layout.specs.Layout.{party_size, pair_size, slot_size, work_size, byte_limit, set_limit, op_limit, word}
use Rattle.layout.specs.Reading.{byte_of, set_of, pair_in, goal_of, holding_of, phase_of, operation_of, operation_in, work_in, party_known, party_in}
use Rattle.layout.specs.Reading.{body_of, message_known, full_in, held_of, entry_known, line_known, line_in}
use Rattle.layout.specs.Writing.{pair_words, open_words, phase_word, holding_words, held_words, operation_words, work_words, flag, party_words, body_kind, body_words, slot_words}
use Rattle.layout.specs.laws.PlaceLaws.{Stands}
use Rattle.layout.specs.laws.AsTold.{PhaseAsTold, AsTold}
use Rattle.layout.specs.laws.Trip.{entry_fits, body_small, MessageSmall, held_small, phase_small, work_small}

-- a word of a part
at_of : (ws : List ℕ) (at n o : ℕ) (xs : List ℕ) → Stands ws at xs → length xs ≡ n → o < n → word ws (at + o) ≡ get_or xs o 0
at_of ws at n o xs s l h = s o (omega (arith, l))

at_first : (ws : List ℕ) (at n : ℕ) (xs : List ℕ) → Stands ws at xs → length xs ≡ n → 0 < n → word ws at ≡ get_or xs 0 0
at_first ws at n xs s l h = let e : at ≡ at + 0 = omega arith in ap (word ws) e ∙ at_of ws at n 0 xs s l h

byte_same : (n : ℕ) → n < byte_limit → byte_of n ≡ n
unfolding byte_of
byte_same n h = rw (lt-ltb n byte_limit h)

-- ---- pairs

pub pair_long : (p : Pair) → length (pair_words p) ≡ pair_size
unfolding pair_words
pair_long p = refl

pub pair_again : (ws : List ℕ) (at : ℕ) (p : Pair) → p.stamp.rank < byte_limit → Stands ws at (pair_words p) → pair_in ws at ≡ p
unfolding pair_in pair_words
pair_again ws at p h s =
    let a : word ws at ≡ p.stamp.number = at_first ws at 3 (pair_words p) s (pair_long p) (omega arith) in
    let b : word ws (at + 1) ≡ p.stamp.rank = at_of ws at 3 1 (pair_words p) s (pair_long p) (omega arith) in
    let c : word ws (at + 2) ≡ _ = at_of ws at 3 2 (pair_words p) s (pair_long p) (omega arith) in
    rw (a, b, c, byte_same p.stamp.rank h, signed_alternating p.value)

-- ---- entries

entry_again : (e : Entry) → entry_fits e → entry_of (get_or (row_of e) 0 0) (byte_of (get_or (row_of e) 1 0)) (byte_of (get_or (row_of e) 2 0)) (get_or (row_of e) 3 0) ≡ e
unfolding row_of entry_of
entry_again (ReadAsked client cell) h = rw (byte_same client.0 (omega (arith, h.0)), byte_same cell.0 (omega (arith, h.1)))
entry_again (WriteAsked client cell v) h = rw (byte_same client.0 (omega (arith, h.0)), byte_same cell.0 (omega (arith, h.1)), signed_alternating v)
entry_again (Told client v) h = rw (byte_same client.0 (omega arith), signed_alternating v)
entry_again (Done client) h = rw (byte_same client.0 (omega arith))

entry_known_lem : (e : Entry) → entry_fits e → entry_known (get_or (row_of e) 0 0) (get_or (row_of e) 1 0) (get_or (row_of e) 2 0) ≡ true
unfolding row_of entry_known
entry_known_lem (ReadAsked client cell) h = rw (lt-ltb client.0 client_limit h.0, lt-ltb cell.0 cell_limit h.1)
entry_known_lem (WriteAsked client cell v) h = rw (lt-ltb client.0 client_limit h.0, lt-ltb cell.0 cell_limit h.1)
entry_known_lem (Told client v) h = rw (lt-ltb client.0 client_limit h)
entry_known_lem (Done client) h = rw (lt-ltb client.0 client_limit h)

pub line_known_lem : (ws : List ℕ) (at : ℕ) (e : Entry) → entry_fits e → Stands ws at (row_of e) → line_known ws at ≡ true
unfolding line_known
line_known_lem ws at e h s =
    let a = at_first ws at 4 (row_of e) s (row_length e) (omega arith) in
    let b = at_of ws at 4 1 (row_of e) s (row_length e) (omega arith) in
    let c = at_of ws at 4 2 (row_of e) s (row_length e) (omega arith) in
    rw (a, b, c) (entry_known_lem e h)

pub line_again : (ws : List ℕ) (at : ℕ) (e : Entry) → entry_fits e → Stands ws at (row_of e) → line_in ws at ≡ record { entry = e }
unfolding line_in
line_again ws at e h s =
    let a = at_first ws at 4 (row_of e) s (row_length e) (omega arith) in
    let b = at_of ws at 4 1 (row_of e) s (row_length e) (omega arith) in
    let c = at_of ws at 4 2 (row_of e) s (row_length e) (omega arith) in
    let d = at_of ws at 4 3 (row_of e) s (row_length e) (omega arith) in
    rw (a, b, c, d, entry_again e h)

-- ---- slots

body_long : (b : Body) → length (body_words b) ≡ pair_size
unfolding body_words pair_words
body_long Ask = refl
body_long (Tell p) = refl
body_long (Keep p) = refl
body_long Kept = refl

pub slot_long : (x : Option Message) → length (slot_words x) ≡ slot_size
unfolding slot_words
slot_long None = refl
slot_long (Some m) = rw (body_long m.body)

kind_below : (b : Body) → body_kind b < 4
unfolding body_kind
kind_below Ask = omega arith
kind_below (Tell p) = omega arith
kind_below (Keep p) = omega arith
kind_below Kept = omega arith

body_again : (ws : List ℕ) (at : ℕ) (b : Body) → body_small b → Stands ws at (body_words b) → body_of (body_kind b) (pair_in ws at) ≡ b
unfolding body_of body_kind body_words
body_again ws at Ask h s = refl
body_again ws at (Tell p) h s = ap Tell (pair_again ws at p h s)
body_again ws at (Keep p) h s = ap Keep (pair_again ws at p h s)
body_again ws at Kept h s = refl

full_again : (ws : List ℕ) (at : ℕ) (m : Message) → MessageSmall m → Stands ws at (slot_words (Some m)) → held_of ws at ≡ Some m
unfolding slot_words held_of full_in message_known
full_again ws at m h s =
    let z : at ≡ at + 0 = omega arith in
    let mark : word ws at ≡ 1 = ap (word ws) z ∙ s 0 (omega arith) in
    let kind : word ws (at + 1) ≡ body_kind m.body = s 1 (omega arith) in
    let client : word ws (at + 2) ≡ m.client.0 = s 2 (omega arith) in
    let replica : word ws (at + 3) ≡ m.replica.0 = s 3 (omega arith) in
    let cell : word ws (at + 4) ≡ m.cell.0 = s 4 (omega arith) in
    let op : word ws (at + 5) ≡ m.op = s 5 (omega arith) in
    let rest : Stands ws (at + 6) (body_words m.body) = λ o l. (let e : at + 6 + o ≡ at + suc (suc (suc (suc (suc (suc o))))) = omega arith in
    ap (word ws) e ∙ s (suc (suc (suc (suc (suc (suc o)))))) (omega arith)) in
    rw (
      mark,
      kind,
      client,
      replica,
      cell,
      op,
      lt-ltb (body_kind m.body) 4 (kind_below m.body),
      lt-ltb m.op op_limit h.op,
      byte_same m.client.0 h.client,
      byte_same m.replica.0 h.replica,
      byte_same m.cell.0 h.cell,
      body_again ws (at + 6) m.body h.body rest,
    )

pub slot_again : (ws : List ℕ) (at : ℕ) (x : Option Message) → held_small x → Stands ws at (slot_words x) → held_of ws at ≡ x
unfolding slot_words held_of
slot_again ws at None h s =
    let z : at ≡ at + 0 = omega arith in
    let mark : word ws at ≡ 0 = ap (word ws) z ∙ s 0 (omega arith) in
    rw mark
slot_again ws at (Some m) h s = full_again ws at m h s

-- ---- clients

-- the words of an open operation, and what it holds after them
record Opens (ws : List ℕ) (at phase : ℕ) (cell : Cell) (goal : Goal) (set : ℕ) (rest : List ℕ) : Type 0 where
  phases : word ws at ≡ phase
  cells : word ws (at + 1) ≡ cell.0
  goals : goal_of (word ws (at + 2)) (word ws (at + 3)) ≡ goal
  sets : word ws (at + 4) ≡ set
  holds : Stands ws (at + 5) rest

opens_again : (ws : List ℕ) (at phase : ℕ) (cell : Cell) (goal : Goal) (set : ℕ) (rest : List ℕ) → Stands ws at (open_words phase cell goal set ++ rest)
    → Opens ws at phase cell goal set rest
unfolding open_words goal_of
opens_again ws at phase cell Read set rest s =
    let z : at ≡ at + 0 = omega arith in
    let g : word ws (at + 2) ≡ 0 = s 2 (omega arith) in
    record {
      phases = ap (word ws) z ∙ s 0 (omega arith);
      cells = s 1 (omega arith);
      goals = rw g;
      sets = s 4 (omega arith);
      holds = λ o l. (let e : at + 5 + o ≡ at + suc (suc (suc (suc (suc o)))) = omega arith in ap (word ws) e ∙ s (suc (suc (suc (suc (suc o))))) (omega arith));
    }
opens_again ws at phase cell (Write v) set rest s =
    let z : at ≡ at + 0 = omega arith in
    let g : word ws (at + 2) ≡ 1 = s 2 (omega arith) in
    let w : word ws (at + 3) ≡ alternating_of v = s 3 (omega arith) in
    record {
      phases = ap (word ws) z ∙ s 0 (omega arith);
      cells = s 1 (omega arith);
      goals = rw (g, w, signed_alternating v);
      sets = s 4 (omega arith);
      holds = λ o l. (let e : at + 5 + o ≡ at + suc (suc (suc (suc (suc o)))) = omega arith in ap (word ws) e ∙ s (suc (suc (suc (suc (suc o))))) (omega arith));
    }

set_same : (n : ℕ) → n < set_limit → set_of n ≡ n
unfolding set_of
set_same n h = rw (lt-ltb n set_limit h)

-- what is held in a phase is read again where it goes by the set
phase_again : (ws : List ℕ) (at set : ℕ) (ph : Phase) → phase_small ph → PhaseAsTold set ph → Stands ws at (held_words ph)
    → phase_of (phase_word ph) set (pair_in ws at) ≡ ph
unfolding phase_of holding_of phase_word held_words holding_words
phase_again ws at set (Asking None) h t s = rw (eq-eqb set 0 t)
phase_again ws at set (Asking (Some p)) h t s = rw (ne_eqb set 0 t, pair_again ws at p h s)
phase_again ws at set (Keeping p) h t s = ap Keeping (pair_again ws at p h s)

operation_again : (ws : List ℕ) (at : ℕ) (o : Operation) → work_small (Some o) → PhaseAsTold o.set o.phase → Stands ws at (operation_words o) → operation_in ws at ≡ o
unfolding operation_words operation_in operation_of
operation_again ws at o h t s =
    let q = opens_again ws at (phase_word o.phase) o.cell o.goal o.set (held_words o.phase) s in
    rw (
      q.goals,
      q.phases,
      q.cells,
      q.sets,
      byte_same o.cell.0 h.0,
      set_same o.set h.1.0,
      phase_again ws (at + 5) o.set o.phase h.1.1 t q.holds,
    )

-- the phase of an open operation isn't 0
phase_open : (ph : Phase) → eqb (phase_word ph) 0 ≡ false
unfolding phase_word
phase_open (Asking held) = refl
phase_open (Keeping held) = refl

pub work_again : (ws : List ℕ) (at : ℕ) (w : Option Operation) → work_small w → AsTold w → Stands ws at (work_words w) → work_in ws at ≡ w
unfolding work_words work_in operation_words
work_again ws at None h t s =
    let z : at ≡ at + 0 = omega arith in
    let phase : word ws at ≡ 0 = ap (word ws) z ∙ s 0 (omega arith) in
    rw phase
work_again ws at (Some o) h t s =
    let q = opens_again ws at (phase_word o.phase) o.cell o.goal o.set (held_words o.phase) s in
    rw (operation_again ws at o h t s, q.phases, phase_open o.phase)

pub open_long : (phase : ℕ) (cell : Cell) (goal : Goal) (set : ℕ) → length (open_words phase cell goal set) ≡ 5
unfolding open_words
open_long phase cell Read set = refl
open_long phase cell (Write v) set = refl

held_long : (ph : Phase) → length (held_words ph) ≡ pair_size
unfolding held_words holding_words pair_words
held_long (Asking None) = refl
held_long (Asking (Some p)) = refl
held_long (Keeping p) = refl

work_long : (w : Option Operation) → length (work_words w) ≡ work_size
unfolding work_words operation_words
work_long None = refl
work_long (Some o) =
    length-append (open_words (phase_word o.phase) o.cell o.goal o.set) (held_words o.phase)
    ∙ omega (arith, open_long (phase_word o.phase) o.cell o.goal o.set, held_long o.phase)

pub party_long : (p : Party) → length (party_words p) ≡ party_size
unfolding party_words
party_long p = rw (work_long p.work)

phase_known : (ph : Phase) (cell : Cell) (goal : Goal) (set : ℕ) (rest : List ℕ)
    → (ltb (get_or (open_words (phase_word ph) cell goal set ++ rest) 0 0) 3
    && (eqb (get_or (open_words (phase_word ph) cell goal set ++ rest) 0 0) 0 || ltb (get_or (open_words (phase_word ph) cell goal set ++ rest) 2 0) 2)) ≡ true
unfolding open_words phase_word
phase_known (Asking held) cell Read set rest = refl
phase_known (Asking held) cell (Write v) set rest = refl
phase_known (Keeping held) cell Read set rest = refl
phase_known (Keeping held) cell (Write v) set rest = refl

work_known : (w : Option Operation) → (ltb (get_or (work_words w) 0 0) 3 && (eqb (get_or (work_words w) 0 0) 0 || ltb (get_or (work_words w) 2 0) 2)) ≡ true
unfolding work_words operation_words
work_known None = refl
work_known (Some o) = phase_known o.phase o.cell o.goal o.set (held_words o.phase)

flag_below : (b : Bool) → flag b < 2
unfolding flag
flag_below true = omega arith
flag_below false = omega arith

flag_again : (b : Bool) → eqb (flag b) 1 ≡ b
unfolding flag
flag_again true = refl
flag_again false = refl

pub party_again : (ws : List ℕ) (at : ℕ) (p : Party) → p.op < op_limit → work_small p.work → AsTold p.work → Stands ws at (party_words p) → party_in ws at ≡ p
unfolding party_in party_words party_known
party_again ws at p h w t s =
    let l = work_long p.work in
    let z : at ≡ at + 0 = omega arith in
    let stopped : word ws at ≡ flag p.stopped = ap (word ws) z ∙ s 0 (omega (arith, l)) in
    let op : word ws (at + 1) ≡ p.op = s 1 (omega (arith, l)) in
    let phase : word ws (at + 2) ≡ get_or (work_words p.work) 0 0 = s 2 (omega (arith, l)) in
    let goal : word ws (at + 4) ≡ get_or (work_words p.work) 2 0 = s 4 (omega (arith, l)) in
    let rest : Stands ws (at + 2) (work_words p.work) = λ o k. (let e : at + 2 + o ≡ at + suc (suc o) = omega arith in ap (word ws) e ∙ s (suc (suc o)) (omega arith)) in
    rw (
      work_again ws (at + 2) p.work w t rest,
      stopped,
      op,
      phase,
      goal,
      lt-ltb (flag p.stopped) 2 (flag_below p.stopped),
      lt-ltb p.op op_limit h,
      work_known p.work,
      flag_again p.stopped,
    )
