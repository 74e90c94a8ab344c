-- Which refusals of rows, of the reader and of the writer there are, and which entry each names.
use Rattle.std.specs.Prelude.{ℕ, ◌+◌, ◌<◌, ◌≤◌, List, ◌≡◌, refl, Bool, true, false, cond, ◌||◌, ◌&&◌, length, get_or, ltb, leb, Ok, Err}
use Rattle.std.proofs.Common.{ap, ap₂, ◌∙◌, sym, inl, inr, arith}
use Rattle.record.specs.laws.Steps.{same_fault}
use Rattle.record.specs.Entry.{Found, last_client, last_cell}
use Rattle.record.specs.declared.Entry.{Entry}
use Rattle.record.specs.Record.{Answer, entry_limit, fresh, Held, entries, fault, bytes_held, bytes_of}
use Rattle.record.proofs.theorems.Refusals.{no_at, named, record_faults}
use Rattle.record.specs.Named.{Named}
use Rattle.rows.specs.Row.{row_found, row_at}
use Rattle.rows.specs.Rows.{rows_held, rows_of, Outcome, stored, read_into, write_into, read_outcome, write_outcome}
use Rattle.rows.proofs.theorems.Trip.{Stores, short, fits, stores}
use Rattle.rows.specs.Refusal.{Refusal}
use Rattle.refusal.specs.declared.Refusal.{Refusal as Reason}
use Rattle.refusal.specs.Number.{paper_number}
use Rattle.refusal.specs.declared.Refusal.TheVariants.{KindAbove, FieldAbove}

-- a row with 24 or 25
pub row_faults : (ws : List ℕ) (at : ℕ) (k : Reason) → row_at ws at ≡ Err k → (24 ≤ paper_number k) × (paper_number k ≤ 25)
unfolding row_at row_found paper_number
row_faults ws at k p = go (ltb 3 (get_or ws at 0)) (ltb last_client (get_or ws (at + 1) 0) || (ltb (get_or ws at 0) 2 && ltb last_cell (get_or ws (at + 2) 0))) _ p
  where
    go : (t u : Bool) (e : Entry) → cond {A = Found} t (Err KindAbove) (cond u (Err FieldAbove) (Ok (e, at + 4))) ≡ Err k → (24 ≤ paper_number k) × (paper_number k ≤ 25)
    go true u e q = let i : KindAbove ≡ k = cc in let j : 24 ≡ paper_number k = ap paper_number i in (omega arith, omega arith)
    go false true e q = let i : FieldAbove ≡ k = cc in let j : 25 ≡ paper_number k = ap paper_number i in (omega arith, omega arith)
    go false false e q = no_at q

-- rows hold a fault from 24 to 28
pub rows_faults : (ws : List ℕ) (k : Reason) (n : ℕ) → rows_held ws ≡ fault k n → Named 24 (paper_number k) n entry_limit
unfolding rows_held
rows_faults ws k n p = named (λ at. leb (at + 4) (length ws)) (row_at ws) 24 (omega arith) (row_faults ws) entry_limit 0 0 fresh k n p

of_fault : {low k n : ℕ} → 20 < low → Named low k n entry_limit → Refusal low k n
of_fault h w = record {
  which = inr w.least;
  most = w.most;
  room = λ x. absurd (omega (arith, w.least));
  last = w.last;
  early = w.early;
}

-- where all is held, only room can be missing
of_room : (low : ℕ) (out : List ℕ) (count : ℕ) (d : List ℕ) (k : Reason) (n : ℕ) → (stored out count d).answer ≡ Err (k, n) → Refusal low (paper_number k) n
unfolding paper_number
of_room low out count d k n p = go (stores out count d)
  where
    go : Stores out count d → Refusal low (paper_number k) n
    go (short q) =
        let r = same_fault (sym (ap (λ (o : Outcome). o.answer) q) ∙ p) in
        let a : 20 ≡ paper_number k = ap paper_number r.0 in
        let b : 0 ≡ n = r.1 in
        record { which = inl (sym a); most = omega arith; room = λ x. sym b; last = λ x. absurd (omega arith); early = λ x. omega arith }
    go (fits q) =
        let r : ◌≡◌ {A = Answer} (Ok count) (Err (k, n)) = sym (ap (λ (o : Outcome). o.answer) q) ∙ p in
        let z : ◌≡◌ {A = ℕ} 0 1 = cc in absurd (omega arith)

-- reading refuses with 20 to 28
pub read_refusals : (s d : List ℕ) (k : Reason) (n : ℕ) → (read_outcome s d).answer ≡ Err (k, n) → Refusal 21 (paper_number k) n
unfolding read_into
read_refusals s d k n p = go (bytes_held s) refl p
  where
    go : (h : Held) → bytes_held s ≡ h → (read_into h d).answer ≡ Err (k, n) → Refusal 21 (paper_number k) n
    go (fault j m) e q =
        let r = same_fault q in
        of_fault (omega arith) (record_faults s k n (e ∙ ap₂ fault r.0 r.1))
    go (entries es) e q = of_room 21 (rows_of es) (length es) d k n q

-- writing with 20 and 24 to 28
pub write_refusals : (ws d : List ℕ) (k : Reason) (n : ℕ) → (write_outcome ws d).answer ≡ Err (k, n) → Refusal 24 (paper_number k) n
unfolding write_into
write_refusals ws d k n p = go (rows_held ws) refl p
  where
    go : (h : Held) → rows_held ws ≡ h → (write_into h d).answer ≡ Err (k, n) → Refusal 24 (paper_number k) n
    go (fault j m) e q =
        let r = same_fault q in
        of_fault (omega arith) (rows_faults ws k n (e ∙ ap₂ fault r.0 r.1))
    go (entries es) e q = of_room 24 (bytes_of es) (length (bytes_of es)) d k n q
