-- What an entry does, in one of two ways: it starts an operation, or it ends a client's open one.
use Rattle.std.specs.Prelude.{◌≡◌, refl, ◌≢◌, Bool, true, false, cond, not, ◌&&◌, List, [], ◌∷◌, ◌++◌, map, ℕ, ◌≤◌, eqb, ℤ, pos, set, None, Some}
use Rattle.std.proofs.Common.{arith, eqb-true, ne_eqb}
use Rattle.std.proofs.lemmas.Bool.{eqb-false}
use Rattle.record.specs.Entry.{last_client, last_cell}
use Rattle.record.specs.declared.Entry.{Entry}
use Rattle.record.specs.declared.Entry.TheVariants.{ReadAsked, WriteAsked, Told, Done}
use Rattle.record.specs.declared.Standing.{Standing}
use Rattle.record.specs.Record.{fault_after, standing_after}
use Rattle.record.specs.Legal.{InRange}
use Rattle.law.specs.Operation.{Op, asked, finished, open_of, note}
use Rattle.law.specs.Part.{moved, keep_if, part_from}
use Rattle.law.specs.Standing.{has}

-- asks: a client, a cell, whether a write, the value so far; ends: a client, and the value from the one so far
pub data Step : Type 0 where
  asks : (client cell : ℕ) (write : Bool) (value : ℤ) → Step
  ends : (client : ℕ) (value : ℤ → ℤ) → Step

-- read asked and write asked start an operation; told ends one with its value, done ends one as it was asked
abbrev pub step_of : Entry → Step
step_of (ReadAsked client cell) = asks client.0 cell.0 false (pos 0)
step_of (WriteAsked client cell value) = asks client.0 cell.0 true value
step_of (Told client value) = ends client.0 (λ old. value)
step_of (Done client) = ends client.0 (λ old. old)

-- whose operation is started or ended
abbrev pub client_of : Step → ℕ
client_of (asks k c w v) = k
client_of (ends k v) = k

-- x after the client's open operation ended
abbrev pub ending : ℕ → ℕ → (ℤ → ℤ) → Op → Op
ending time client v x = cond (open_of client x) (finished time (v x.value) x) x

-- the operations after entry n: an unfinished one more, or the client's open one finished
abbrev pub note_step : ℕ → Step → List Op → List Op
note_step n (asks k c w v) ops = ops ++ (asked n k c w v n ∷ [])
note_step n (ends k v) ops = map (ending n k v) ops

pub note_step_lem : (n : ℕ) (e : Entry) (ops : List Op) → note n e ops ≡ note_step n (step_of e) ops
unfolding note
note_step_lem n (ReadAsked client cell) ops = refl
note_step_lem n (WriteAsked client cell value) ops = refl
note_step_lem n (Told client value) ops = refl
note_step_lem n (Done client) ops = refl

-- ---- what stands open

-- a read is 1, a write 2
abbrev pub kind_of : Bool → ℕ
kind_of write = cond write 2 1

pub kind_some : (w : Bool) → kind_of w ≢ 0
kind_some true e = omega arith
kind_some false e = omega arith

-- client k has open what is given
abbrev pub put : Standing → ℕ → ℕ → Standing
put st k what = record { has = set st.has k what }

-- what stands open after the entry: its client has the asked operation open, or nothing
abbrev pub standing_step : Standing → Step → Standing
standing_step st (asks k c w v) = put st k (kind_of w)
standing_step st (ends k v) = put st k 0

pub standing_step_lem : (st : Standing) (e : Entry) → standing_after st e ≡ standing_step st (step_of e)
unfolding standing_after
standing_step_lem st (ReadAsked client cell) = refl
standing_step_lem st (WriteAsked client cell value) = refl
standing_step_lem st (Told client value) = refl
standing_step_lem st (Done client) = refl

-- an entry that is in range and no fault: a client that asks has nothing open, one that ends has something
abbrev pub MayStep : Standing → Step → Type 0
MayStep st (asks k c w v) = (k ≤ last_client) × (c ≤ last_cell) × (has st k ≡ 0)
MayStep st (ends k v) = (k ≤ last_client) × (has st k ≢ 0)

-- what is not refused passes the test
pub no_fault : {A : Type 0} (b : Bool) (k : A) → cond b None (Some k) ≡ None → b ≡ true
no_fault true k e = refl
no_fault false k e = let z : ◌≡◌ {A = ℕ} 0 1 = cc in absurd (omega arith)

pub may_step : (st : Standing) (e : Entry) → InRange e → fault_after st e ≡ None → MayStep st (step_of e)
unfolding fault_after
may_step st (ReadAsked client cell) r f = (r.0, r.1, eqb-true _ 0 (no_fault (eqb (has st client.0) 0) _ f))
may_step st (WriteAsked client cell value) r f = (r.0, r.1, eqb-true _ 0 (no_fault (eqb (has st client.0) 0) _ f))
may_step st (Told client value) r f =
    (r.0, λ z. let h : has st client.0 ≡ 1 = eqb-true _ 1 (no_fault (eqb (has st client.0) 1) _ f) in omega arith)
may_step st (Done client) r f =
    (r, λ z. let h : has st client.0 ≡ 2 = eqb-true _ 2 (no_fault (eqb (has st client.0) 2) _ f) in omega arith)

-- ---- parts

-- whether the entry is of cell c, where each client's last operation so far is of cell `at`
abbrev pub step_on : ℕ → (ℕ → ℕ) → Step → Bool
step_on c at (asks k cell w v) = eqb cell c
step_on c at (ends k v) = eqb (at k) c

-- the cell of each client's last operation, after the entry
abbrev pub moved_step : (ℕ → ℕ) → Step → ℕ → ℕ
moved_step at (asks k cell w v) = moved at k cell
moved_step at (ends k v) = at

pub part_step : (c : ℕ) (at : ℕ → ℕ) (e : Entry) (es : List Entry)
    → part_from c at (e ∷ es) ≡ keep_if (step_on c at (step_of e)) e (part_from c (moved_step at (step_of e)) es)
unfolding part_from
part_step c at (ReadAsked client cell) es = refl
part_step c at (WriteAsked client cell value) es = refl
part_step c at (Told client value) es = refl
part_step c at (Done client) es = refl

-- ---- an operation, ended or not

-- what ending leaves as it was
pub ending_keeps : {B : Type 0} (f : Op → B) → ((time : ℕ) (v : ℤ) (x : Op) → f (finished time v x) ≡ f x)
    → (n k : ℕ) (v : ℤ → ℤ) (x : Op) → f (ending n k v x) ≡ f x
ending_keeps f same n k v x = go (open_of k x)
  where
    go : (t : Bool) → f (cond t (finished n (v x.value) x) x) ≡ f x
    go true = same n (v x.value) x
    go false = refl

-- another client's operation stays
pub ending_other : (n k : ℕ) (v : ℤ → ℤ) (x : Op) → x.client ≢ k → ending n k v x ≡ x
ending_other n k v x d = rw (ne_eqb x.client k d)

-- an operation that is finished stays
pub ending_over : (n k : ℕ) (v : ℤ → ℤ) (x : Op) → x.over ≡ true → ending n k v x ≡ x
ending_over n k v x o = go (eqb x.client k) x.over o
  where
    go : (s t : Bool) → t ≡ true → cond (s && not t) (finished n (v x.value) x) x ≡ x
    go true true e = refl
    go false t e = refl
    go true false e = absurd (let z : ◌≡◌ {A = ℕ} 0 1 = cc in omega arith)

-- what is still unfinished is as it was, and another client's
pub ending_open : (n k : ℕ) (v : ℤ → ℤ) (x : Op) → (ending n k v x).over ≡ false → (ending n k v x ≡ x) × (x.client ≢ k)
ending_open n k v x o = go (eqb x.client k) refl x.over refl o
  where
    go : (s : Bool) → eqb x.client k ≡ s → (t : Bool) → x.over ≡ t → (cond (s && not t) (finished n (v x.value) x) x).over ≡ false
        → (cond (s && not t) (finished n (v x.value) x) x ≡ x) × (x.client ≢ k)
    go true p true q h = absurd (let z : ◌≡◌ {A = ℕ} 0 1 = cc in omega arith)
    go true p false q h = absurd (let z : ◌≡◌ {A = ℕ} 0 1 = cc in omega arith)
    go false p t q h = (refl, eqb-false x.client k p)
