-- Whole records in rows and in lent memory: what was written is read, what is read is written back byte for byte, and a refusal leaves all as it was.
use Rattle.std.specs.Prelude.{ℕ, ◌+◌, ◌*◌, List, ◌++◌, ◌≡◌, refl, Bool, true, false, take, drop, length, ltb, leb, Ok, Err}
use Rattle.std.proofs.Common.{ap, ◌∙◌, sym, arith, le-leb, ltb-true, ltb-false}
use Rattle.std.proofs.Math.Seq.{take-append_seam, drop-append_seam}
use Rattle.std.proofs.lemmas.Bool.{lt-leb}
use Rattle.record.specs.declared.Entry.{Entry}
use Rattle.record.specs.Record.{Answer, entry_limit, fresh, Held, entries, fault, bytes_held, bytes_of}
use Rattle.record.specs.Legal.{Legal}
use Rattle.number.specs.Below.{Bytes, Words}
use Rattle.record.specs.laws.Trip.{Source}
use Rattle.record.proofs.theorems.Trip.{held_legal, holds, from_length, from_none_lem, reading_legal, read_of_write, write_of_read}
use Rattle.rows.specs.Row.{row_of, row_at}
use Rattle.rows.specs.Rows.{rows_held, rows_of, Outcome, stored, read_into, write_into, read_outcome, write_outcome}
use Rattle.rows.specs.laws.Storing.{stored_fits, stored_short}
use Rattle.rows.specs.laws.RowLaws.{row_length, rows_length}
use Rattle.rows.specs.laws.RowTrip.{reads_row, row_range}
use Rattle.rows.specs.laws.Trip.{Took}
use Rattle.refusal.specs.declared.Refusal.{Refusal}
use Rattle.refusal.specs.declared.Refusal.TheVariants.{TooShort}

-- ---- what rows hold

-- rows give records without a fault only
pub rows_legal : (ws : List ℕ) (es : List Entry) → Words ws → rows_held ws ≡ entries es → Legal es
unfolding rows_held
rows_legal ws es h p = held_legal (λ at. leb (at + 4) (length ws)) (row_at ws) (λ at e next q. row_range ws at e next h q) es p

rows_source : (s : List ℕ) → Source (λ at. leb (at + 4) (length s)) (row_at s) row_of s
rows_source s = record {
  here = λ e at rest h p. (
    le-leb (at + 4) (length s) (omega (arith, from_length s (row_of e) rest at p (omega (arith, row_length e)), row_length e)),
    reads_row e s at rest h p ∙ ap (λ (n : ℕ). Ok (e, at + n)) (sym (row_length e)),
  );
  over = λ at p. lt-leb (at + 4) (length s) (omega (arith, from_none_lem s at p));
}

-- the rows of a record without a fault are read as that record
pub rows_of_rows : (es : List Entry) → Legal es → rows_held (rows_of es) ≡ entries es
unfolding rows_held
rows_of_rows es l = holds _ _ row_of (rows_of es) (rows_source (rows_of es)) es entry_limit 0 0 fresh l.follows l.few refl

-- ---- lent memory

never : {A : Type 0} {k : Refusal} {n m : ℕ} → ◌≡◌ {A = Answer} (Err (k, n)) (Ok m) → A
never p = let z : ◌≡◌ {A = ℕ} 0 1 = cc in absurd (omega arith)

module _ (out : List ℕ) (count : ℕ) (d : List ℕ) where
  -- what is stored is refused with 20, and nothing is written, or is all there in front of what stood beyond it
  pub data Stores : Type 0 where
    short : stored out count d ≡ record { answer = Err (TooShort, 0); lent = d } → Stores
    fits : stored out count d ≡ record { answer = Ok count; lent = out ++ drop (length out) d } → Stores

  pub stores : Stores
  stores = go (ltb (length d) (length out)) refl
    where
      go : (t : Bool) → ltb (length d) (length out) ≡ t → Stores
      go true q = short (stored_short out count d (ltb-true (length d) (length out) q))
      go false q = fits (stored_fits out count d (ltb-false (length d) (length out) q))

  -- a refusal leaves the memory as it was
  pub stored_keeps : (k : Refusal) (n : ℕ) → (stored out count d).answer ≡ Err (k, n) → (stored out count d).lent ≡ d
  stored_keeps k n p = go stores
    where
      go : Stores → (stored out count d).lent ≡ d
      go (short q) = ap (λ (o : Outcome). o.lent) q
      go (fits q) = never (sym p ∙ ap (λ (o : Outcome). o.answer) q)

  -- what is answered, and what was written
  pub stored_front : (n : ℕ) → (stored out count d).answer ≡ Ok n → (count ≡ n) × (take (length out) (stored out count d).lent ≡ out)
  stored_front n p = go stores
    where
      go : Stores → (count ≡ n) × (take (length out) (stored out count d).lent ≡ out)
      go (short q) = never (sym (ap (λ (o : Outcome). o.answer) q) ∙ p)
      go (fits q) =
          let r : ◌≡◌ {A = Answer} (Ok count) (Ok n) = sym (ap (λ (o : Outcome). o.answer) q) ∙ p in
          (cc, ap (λ (o : Outcome). take (length out) o.lent) q ∙ take-append_seam out (drop (length out) d))

  -- what stands beyond it stays, refused or not
  pub stored_beyond : drop (length out) (stored out count d).lent ≡ drop (length out) d
  stored_beyond = go stores
    where
      go : Stores → drop (length out) (stored out count d).lent ≡ drop (length out) d
      go (short q) = ap (λ (o : Outcome). drop (length out) o.lent) q
      go (fits q) = ap (λ (o : Outcome). drop (length out) o.lent) q ∙ drop-append_seam out (drop (length out) d)

-- a refused read and a refused write leave the lent memory as it was
pub read_keeps : (h : Held) (d : List ℕ) (k : Refusal) (n : ℕ) → (read_into h d).answer ≡ Err (k, n) → (read_into h d).lent ≡ d
unfolding read_into
read_keeps (fault k' n') d k n p = refl
read_keeps (entries es) d k n p = stored_keeps (rows_of es) (length es) d k n p

pub write_keeps : (h : Held) (d : List ℕ) (k : Refusal) (n : ℕ) → (write_into h d).answer ≡ Err (k, n) → (write_into h d).lent ≡ d
unfolding write_into
write_keeps (fault k' n') d k n p = refl
write_keeps (entries es) d k n p = stored_keeps (bytes_of es) (length (bytes_of es)) d k n p

-- n entries are four times as many numbers
pub read_took : (h : Held) (d : List ℕ) (n : ℕ) → (read_into h d).answer ≡ Ok n → Took h rows_of d (read_into h d).lent (4 * n)
unfolding read_into
read_took (fault k' n') d n p = never p
read_took (entries es) d n p =
    let w = stored_front (rows_of es) (length es) d n p in
    let l : length (rows_of es) ≡ 4 * n = omega (arith, rows_length es, w.0) in
    record {
      all = es;
      held = refl;
      long = l;
      front = rw (← l) w.1;
      beyond = rw (← l) (stored_beyond (rows_of es) (length es) d);
    }

pub write_took : (h : Held) (d : List ℕ) (m : ℕ) → (write_into h d).answer ≡ Ok m → Took h bytes_of d (write_into h d).lent m
unfolding write_into
write_took (fault k' n') d m p = never p
write_took (entries es) d m p =
    let w = stored_front (bytes_of es) (length (bytes_of es)) d m p in
    let l : length (bytes_of es) ≡ m = w.0 in
    record {
      all = es;
      held = refl;
      long = l;
      front = rw (← l) w.1;
      beyond = rw (← l) (stored_beyond (bytes_of es) (length (bytes_of es)) d);
    }

-- a record without a fault is read from its bytes and written from its rows, wherever there is room
pub reads_legal : (es : List Entry) (d : List ℕ) → Legal es → read_outcome (bytes_of es) d ≡ stored (rows_of es) (length es) d
unfolding read_into
reads_legal es d l = ap (λ (h : Held). read_into h d) (read_of_write es l)

pub writes_legal : (es : List Entry) (d : List ℕ) → Legal es → write_outcome (rows_of es) d ≡ stored (bytes_of es) (length (bytes_of es)) d
unfolding write_into
writes_legal es d l = ap (λ (h : Held). write_into h d) (rows_of_rows es l)

-- the rows that a read leaves are written back as the bytes that were read, or refused with 20
pub write_after_read : (s d : List ℕ) (n : ℕ) (b : List ℕ) → Bytes s → (read_outcome s d).answer ≡ Ok n
    → write_outcome (take (4 * n) (read_outcome s d).lent) b ≡ stored s (length s) b
write_after_read s d n b h p =
    let w = read_took (bytes_held s) d n p in
    ap (λ (l : List ℕ). write_outcome l b) w.front
    ∙ writes_legal w.all b (reading_legal s w.all h w.held)
    ∙ ap (λ (l : List ℕ). stored l (length l) b) (write_of_read s w.all h w.held)

-- the bytes that a write leaves are read back as the record that was written, or refused with 20: a field that a kind hasn't got is then 0
pub read_after_write : (ws b : List ℕ) (es : List Entry) (m : ℕ) (d : List ℕ) → Words ws → rows_held ws ≡ entries es → (write_outcome ws b).answer ≡ Ok m
    → read_outcome (take m (write_outcome ws b).lent) d ≡ stored (rows_of es) (length es) d
read_after_write ws b es m d h q p =
    let w = write_took (rows_held ws) b m p in
    let r : entries w.all ≡ entries es = sym w.held ∙ q in
    let e : w.all ≡ es = cc in
    ap (λ (l : List ℕ). read_outcome l d) (w.front ∙ ap bytes_of e)
    ∙ reads_legal es d (rows_legal ws es h q)

-- rows in which those fields are 0 come back just as they were
pub rows_return : (ws b : List ℕ) (es : List Entry) (m : ℕ) (d : List ℕ) → Words ws → rows_held ws ≡ entries es → ws ≡ rows_of es → (write_outcome ws b).answer ≡ Ok m
    → read_outcome (take m (write_outcome ws b).lent) d ≡ stored ws (length es) d
rows_return ws b es m d h q c p = read_after_write ws b es m d h q p ∙ ap (λ (l : List ℕ). stored l (length es) d) (sym c)
