-- The first pass on its way: n entries are read and kept, the next one stands at place at of the bytes.
use Rattle.std.specs.Prelude.{◌≡◌, refl, true, false, List, [], ◌∷◌, ◌++◌, ℕ, suc, ◌+◌, ◌≤◌, ◌<◌, ltb, replicate, length, get_or, set, None, Some, Ok, Err}
use Rattle.std.proofs.Common.{sym, ap, ◌∙◌, arith, length-append, length-set, get_or-set_same, get_or-set_other}
use mathlib.Core.List.Memᴰ.{not-nil as no_mem}
use Rattle.std.proofs.Math.Decide.{ℕ_discrete}
use Rattle.number.specs.Below.{byte_limit}
use Rattle.record.specs.declared.Entry.{Entry}
use Rattle.record.specs.declared.Entry.TheVariants.{ReadAsked, WriteAsked, Told, Done}
use Rattle.record.specs.declared.Standing.{Standing}
use Rattle.record.specs.Entry.{last_client, client_limit, entry_at}
use Rattle.record.specs.Record.{Answer, entry_limit, fresh, fault_after, standing_after, Held, entries, before, held_from, bytes_held, survey_of}
use Rattle.record.specs.Legal.{InRange, Follows}
use Rattle.record.specs.laws.Steps.{ends, onward, survey_tally, tally, counts_end, counts_full, counts_unread, counts_misplaced, counts_on}
use Rattle.law.specs.Operation.{Op, note, notes, operations}
use Rattle.law.specs.Standing.{standing_from, standing}
use Rattle.law.proofs.theorems.Operations.{standing_append, operations_next, tied, fresh_none}
use Rattle.refusal.specs.declared.Refusal.{Refusal}
use Rattle.refusal.specs.declared.Refusal.TheVariants.{TooMany}
use Rattle.pairs.specs.declared.Row.{Row}
use Rattle.pairs.specs.Pairs.{Paired, PairsUp}
use Rattle.pairs.specs.laws.Noting.{Long, Low, note_row, Noted}
use Rattle.record.proofs.theorems.EntryTrip.{written_entry}
use Rattle.pairs.specs.laws.Next.{paired_next, open_next}
use Rattle.pairs.specs.laws.Pairing.{prepend, Pairing}

-- ---- entries before what is held after them

prepend_next : (es : List Entry) (e : Entry) (h : Held) → prepend (es ++ (e ∷ [])) h ≡ prepend es (before e h)
unfolding prepend
prepend_next [] e h = refl
prepend_next (x ∷ es) e h = ap (before x) (prepend_next es e h)

prepend_none : (es : List Entry) → prepend es (entries []) ≡ entries es
unfolding prepend before
prepend_none [] = refl
prepend_none (x ∷ es) = ap (before x) (prepend_none es)

follows_next : (st : Standing) (es : List Entry) (e : Entry) → Follows st es → InRange e → fault_after (standing_from st es) e ≡ None → Follows st (es ++ (e ∷ []))
follows_next st [] e f r z = (r, z, tt)
follows_next st (x ∷ es) e f r z = (f.0, f.1, follows_next (standing_after st x) es e f.2 r z)

-- ---- the arrays

low_set : (opened : List ℕ) (k n : ℕ) → k < length opened → n < entry_limit → Low opened → Low (set opened k n)
low_set opened k n l few low j = go (ℕ_discrete j k)
  where
    go : Dec (j ≡ k) → get_or (set opened k n) j 0 < entry_limit
    go (yes e) = rw e (rw (get_or-set_same opened k n 0 l) few)
    go (no d) = rw (get_or-set_other opened k j n 0 d) (low j)

-- a row's client is one of eight, and its start is an entry's number
pub row_client : (cells opened : List ℕ) (n : ℕ) (e : Entry) → InRange e → (note_row cells opened n e).client.0 ≤ last_client
row_client cells opened n (ReadAsked client cell) r = r.0
row_client cells opened n (WriteAsked client cell v) r = r.0
row_client cells opened n (Told client v) r = r.0
row_client cells opened n (Done client) r = r

row_start : (cells opened : List ℕ) (n : ℕ) (e : Entry) → n < entry_limit → Low opened → (note_row cells opened n e).start < entry_limit
row_start cells opened n (ReadAsked client cell) few low = few
row_start cells opened n (WriteAsked client cell v) few low = few
row_start cells opened n (Told client v) few low = low client.0
row_start cells opened n (Done client) few low = low client.0

module _ {kinds cells values starts opened : List ℕ} {n : ℕ} {row : Row} {kinds' cells' values' starts' opened' : List ℕ}
    (q : Noted kinds cells values starts opened n row kinds' cells' values' starts' opened') where
  noted_long : Long kinds cells values starts → Long kinds' cells' values' starts'
  noted_long l =
      record {
        kinds_long = ap length q.kinds_set ∙ length-set kinds n row.kind ∙ l.kinds_long;
        cells_long = ap length q.cells_set ∙ length-set cells n row.cell.0 ∙ l.cells_long;
        values_long = ap length q.values_set ∙ length-set values n row.value ∙ l.values_long;
        starts_long = ap length q.starts_set ∙ length-set starts n row.start ∙ l.starts_long;
      }

  noted_paired : {ops : List Op} {m : ℕ} → Paired ops m (set kinds n row.kind) (set cells n row.cell.0) (set values n row.value) (set starts n row.start)
      → Paired ops m kinds' cells' values' starts'
  noted_paired w = rw (q.kinds_set, q.cells_set, q.values_set, q.starts_set) w

-- ---- before the first entry

low_zeros : Low (replicate client_limit 0)
low_zeros k = omega (arith, fresh_none k)

pub pairs_none : (s kinds cells values starts : List ℕ) → Long kinds cells values starts → Pairing s kinds cells values starts (replicate client_limit 0) fresh 0 0
unfolding bytes_held prepend operations notes
pairs_none s kinds cells values starts long =
    record {
      counting = record { left = entry_limit; limit = refl; same = refl };
      read = [];
      count = refl;
      follows = tt;
      stands = refl;
      held = refl;
      long = long;
      paired = record { started = λ x m. absurd (no_mem m); ended = λ x m. absurd (no_mem m); each = λ p l. absurd (omega arith) };
      eight = refl;
      low = low_zeros;
      open_at = λ x m. absurd (no_mem m);
    }

-- ---- at each turn

-- a refusal is no record: the arrays are bound to nothing
pub pairs_refused : (s kinds cells values starts : List ℕ) (k : Refusal) (n : ℕ) → ◌≡◌ {A = Answer} (Err (k, n)) (tally (λ e. 1) 0 (bytes_held s)) → PairsUp s (Err (k, n)) kinds cells values starts
unfolding survey_of
pairs_refused s kinds cells values starts k n p =
    let q : ◌≡◌ {A = Answer} (Err (k, n)) (survey_of (bytes_held s)) = p ∙ sym (survey_tally (bytes_held s)) in
    record {
      answer = q;
      paired = λ es h. let a : ◌≡◌ {A = Answer} (Err (k, n)) (Ok (length es)) = q ∙ ap survey_of h in let z : ◌≡◌ {A = ℕ} 0 1 = cc in absurd (omega arith);
    }

module _ {s kinds cells values starts opened : List ℕ} {st : Standing} {at n : ℕ} (w : Pairing s kinds cells values starts opened st at n) where
  pub pairs_full : ltb at (length s) ≡ true → n ≡ entry_limit → PairsUp s (Err (TooMany, n)) kinds cells values starts
  pairs_full h e = pairs_refused s kinds cells values starts TooMany n (counts_full _ _ _ _ _ _ _ _ w.counting h e)

  pub pairs_unread : (k : Refusal) → ltb at (length s) ≡ true → (n ≡ entry_limit → ⊥) → entry_at s at ≡ Err k → PairsUp s (Err (k, n)) kinds cells values starts
  pairs_unread k h l g = pairs_refused s kinds cells values starts k n (counts_unread _ _ _ _ _ _ _ _ w.counting k h l g)

  pub pairs_misplaced : (k : Refusal) (e : Entry) (next : ℕ) → ltb at (length s) ≡ true → (n ≡ entry_limit → ⊥) → entry_at s at ≡ Ok (e, next) → fault_after st e ≡ Some k
      → PairsUp s (Err (k, n)) kinds cells values starts
  pairs_misplaced k e next h l g q = pairs_refused s kinds cells values starts k n (counts_misplaced _ _ _ _ _ _ _ _ w.counting k e next h l g q)

  pub pairs_few : (n ≡ entry_limit → ⊥) → n < entry_limit
  pairs_few l = omega (arith, w.counting.limit, l)

  pub pairs_end : ltb at (length s) ≡ false → PairsUp s (Ok n) kinds cells values starts
  pairs_end h =
      let all : bytes_held s ≡ entries w.read = w.held ∙ ap (prepend w.read) (ends _ _ w.counting.left at n st h) ∙ prepend_none w.read in
      record {
        answer = counts_end _ _ _ _ _ _ _ _ w.counting h ∙ sym (survey_tally (bytes_held s));
        paired = λ es q. let same : es ≡ w.read = cc in rw same (rw w.count w.paired);
      }

  pub pairs_on : {kinds' cells' values' starts' opened' : List ℕ} {st' : Standing} (e : Entry) (next : ℕ) → ((i : ℕ) → get_or s i 0 < byte_limit)
      → ltb at (length s) ≡ true → (n ≡ entry_limit → ⊥) → entry_at s at ≡ Ok (e, next) → fault_after st e ≡ None
      → Noted kinds cells values starts opened n (note_row cells opened n e) kinds' cells' values' starts' opened' → st' ≡ standing_after st e
      → Pairing s kinds' cells' values' starts' opened' st' next (n + 1)
  pairs_on e next bytes h l g z q t =
      let few : n < entry_limit = pairs_few l in
      let r : InRange e = (written_entry s at e next bytes g).range in
      let c = counts_on _ _ _ _ _ _ _ _ w.counting e next h l g z in
      let left : w.counting.left ≡ suc c.left = omega (arith, w.counting.limit, c.limit) in
      let mine : fault_after (standing w.read) e ≡ None = ap (λ (x : Standing). fault_after x e) w.stands ∙ z in
      let ties = rw w.stands at (tied w.read w.follows) in
      let ops : operations (w.read ++ (e ∷ [])) ≡ note n e (operations w.read) = operations_next w.read e ∙ ap (λ (i : ℕ). note i e (operations w.read)) w.count in
      rw t (record {
        counting = c;
        read = w.read ++ (e ∷ []);
        count = length-append w.read (e ∷ []) ∙ ap (λ (i : ℕ). i + 1) w.count;
        follows = follows_next fresh w.read e w.follows r mine;
        stands = standing_append fresh w.read (e ∷ []) ∙ ap (λ (x : Standing). standing_after x e) w.stands;
        held = w.held ∙ ap (λ (i : ℕ). prepend w.read (held_from (λ i. ltb i (length s)) (entry_at s) i at n st)) left
            ∙ ap (prepend w.read) (onward _ _ c.left at n st e next h g z) ∙ sym (prepend_next w.read e _);
        long = noted_long q w.long;
        paired = rw ops (noted_paired q (paired_next kinds cells values starts opened n (operations w.read) w.long few st ties w.open_at w.paired e r z));
        eight = ap length q.opened_set ∙ length-set opened (note_row cells opened n e).client.0 (note_row cells opened n e).start ∙ w.eight;
        low = rw q.opened_set (low_set opened (note_row cells opened n e).client.0 (note_row cells opened n e).start
            (omega (arith, row_client cells opened n e r, w.eight)) (row_start cells opened n e few w.low) w.low);
        open_at = rw (ops, q.opened_set) (open_next kinds cells values starts opened n (operations w.read) w.long few st ties w.open_at w.eight e r z);
      })
