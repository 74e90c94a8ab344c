-- Whole records: what was written is read, what is read is written back byte for byte, and how long they are.
use Prim.Native.Nat.{ℕ, zero, suc, ◌+◌, ◌*◌, ◌<◌, ◌≤◌}
use mathlib.Core.List.{List, [], ◌∷◌, ◌++◌}
use Rattle.std.specs.Prelude.{◌≡◌, refl, Bool, true, false, drop, ltb, Ok}
use Rattle.std.proofs.Math.Path.{ap}
use Rattle.std.proofs.Common.{◌∙◌, sym, arith, length-append, length-drop, drop_of_length-le, lt-ltb, le-ltb, ltb-false}
use Rattle.std.proofs.Math.ListN.{length}
use Rattle.number.proofs.theorems.Trip.{drop_past}
use Rattle.record.specs.declared.Entry.{Entry}
use Rattle.record.specs.Entry.{Found}
use Rattle.record.specs.declared.Standing.{Standing}
use Rattle.record.specs.Entry.{longest_entry, entry_bytes, entry_at}
use Rattle.record.specs.Record.{longest_record, entry_limit, fresh, standing_after, entries, before, held_from, bytes_held, all_of, bytes_of}
use Rattle.record.specs.Legal.{InRange, Follows, Legal}
use Rattle.number.specs.Below.{byte_limit, Below, Bytes}
use Rattle.record.specs.laws.Steps.{ends, onward, first, empty}
use Rattle.record.proofs.theorems.EntryTrip.{reads_entry, written_entry, entry_some, entry_few, below_none, below_append, entry_bytes_lem}
use Rattle.record.specs.laws.Trip.{Source}

-- ---- what is held has no fault

module _ (more : ℕ → Bool) (found : ℕ → Found) (range : (at : ℕ) (e : Entry) (next : ℕ) → found at ≡ Ok (e, next) → InRange e) where
  held_follows : (es : List Entry) (left at n : ℕ) (st : Standing) → held_from more found left at n st ≡ entries es → Follows st es
  held_follows [] left at n st p = tt
  held_follows (e ∷ es) left at n st p =
      let w = first more found left at n st e es p in
      (range at e w.next w.is, w.may, held_follows es w.fewer w.next (n + 1) (standing_after st e) w.others)

  held_few : (es : List Entry) (left at n : ℕ) (st : Standing) → held_from more found left at n st ≡ entries es → length es ≤ left
  held_few [] left at n st p = omega arith
  held_few (e ∷ es) left at n st p =
      let w = first more found left at n st e es p in
      omega (arith, w.less, held_few es w.fewer w.next (n + 1) (standing_after st e) w.others)

  pub held_legal : (es : List Entry) → held_from more found entry_limit 0 0 fresh ≡ entries es → Legal es
  held_legal es p = record { follows = held_follows es entry_limit 0 0 fresh p; few = omega (arith, held_few es entry_limit 0 0 fresh p) }

-- reading gives records without a fault only
pub reading_legal : (s : List ℕ) (es : List Entry) → Bytes s → bytes_held s ≡ entries es → Legal es
unfolding bytes_held
reading_legal s es h p = held_legal (λ at. ltb at (length s)) (entry_at s) (λ at e next q. (written_entry s at e next h q).range) es p

-- ---- what was written is read

module _ (more : ℕ → Bool) (found : ℕ → Found) (f : Entry → List ℕ) (s : List ℕ) (src : Source more found f s) where
  pub holds : (es : List Entry) (left at n : ℕ) (st : Standing) → Follows st es → length es ≤ left → drop at s ≡ all_of f es → held_from more found left at n st ≡ entries es
  unfolding all_of before
  holds [] left at n st h l p = ends more found left at n st (src.over at p)
  holds (e ∷ es) zero at n st h l p = absurd (omega arith)
  holds (e ∷ es) (suc left) at n st h l p =
      let w = src.here e at (all_of f es) h.0 p in
      onward more found left at n st e (at + length (f e)) w.0 w.1 h.1
      ∙ ap (before e) (holds es left (at + length (f e)) (n + 1) (standing_after st e) h.2 (omega arith) (drop_past s (f e) (all_of f es) at p))

-- how many numbers stand from a place on
pub from_length : (s xs rest : List ℕ) (at : ℕ) → drop at s ≡ xs ++ rest → 1 ≤ length xs → at + length xs ≤ length s
from_length s xs rest at p h = omega (arith, sym (length-drop at s) ∙ ap length p ∙ length-append xs rest)

-- nothing stands from a place on
pub from_none_lem : (s : List ℕ) (at : ℕ) → drop at s ≡ [] → length s ≤ at
from_none_lem s at p = omega (arith, sym (length-drop at s) ∙ ap length p)

bytes_source : (s : List ℕ) → Source (λ at. ltb at (length s)) (entry_at s) entry_bytes s
bytes_source s = record {
  here = λ e at rest h p. (lt-ltb at (length s) (omega (arith, from_length s (entry_bytes e) rest at p (entry_some e), entry_some e)), reads_entry e s at rest h p);
  over = λ at p. le-ltb at (length s) (from_none_lem s at p);
}

-- the bytes of a record without a fault are read as that record
pub read_of_write : (es : List Entry) → Legal es → bytes_held (bytes_of es) ≡ entries es
unfolding bytes_held
read_of_write es l = holds _ _ entry_bytes (bytes_of es) (bytes_source (bytes_of es)) es entry_limit 0 0 fresh l.follows l.few refl

-- ---- what is read was written

written_from : (s : List ℕ) → Bytes s → (es : List Entry) (left at n : ℕ) (st : Standing)
    → held_from (λ i. ltb i (length s)) (entry_at s) left at n st ≡ entries es → drop at s ≡ bytes_of es
unfolding all_of
written_from s h [] left at n st p = go (ltb at (length s)) refl
  where
    go : (t : Bool) → ltb at (length s) ≡ t → drop at s ≡ []
    go true q = absurd (empty (λ i. ltb i (length s)) (entry_at s) left at n st p q)
    go false q = drop_of_length-le s (ltb-false at (length s) q)
written_from s h (e ∷ es) left at n st p =
    let w = first (λ i. ltb i (length s)) (entry_at s) left at n st e es p in
    (written_entry s at e w.next h w.is).bytes
    ∙ ap (λ (l : List ℕ). entry_bytes e ++ l) (written_from s h es w.fewer w.next (n + 1) (standing_after st e) w.others)

-- a record that is read is written back byte for byte: no other bytes hold it
pub write_of_read : (s : List ℕ) (es : List Entry) → Bytes s → bytes_held s ≡ entries es → bytes_of es ≡ s
unfolding bytes_held
write_of_read s es h p = sym (written_from s h es entry_limit 0 0 fresh p)

-- ---- how long a record is

bytes_few : (es : List Entry) (st : Standing) → Follows st es → length (bytes_of es) ≤ longest_entry * length es
unfolding all_of
bytes_few [] st h = omega arith
bytes_few (e ∷ es) st h = simp length-append (omega (arith, entry_few e h.0, bytes_few es (standing_after st e) h.2))

-- a record is no longer than the longest, as many as its entries may take together
pub record_few : (es : List Entry) → Legal es → length (bytes_of es) ≤ longest_record
record_few es l = omega (arith, bytes_few es fresh l.follows, l.few)

-- what holds of each entry's numbers holds of all
pub all_below_lem : (m : ℕ) (f : Entry → List ℕ) → 0 < m → ((e : Entry) → InRange e → Below m (f e)) → (es : List Entry) (st : Standing) → Follows st es → Below m (all_of f es)
unfolding all_of
all_below_lem m f z h [] st g = below_none m z
all_below_lem m f z h (e ∷ es) st g = below_append m (f e) (all_of f es) (h e g.0) (all_below_lem m f z h es (standing_after st e) g.2)

-- each of its bytes is a byte
pub record_bytes : (es : List Entry) → Legal es → Bytes (bytes_of es)
record_bytes es l = all_below_lem byte_limit entry_bytes (omega arith) entry_bytes_lem es fresh l.follows
