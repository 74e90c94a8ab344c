-- One entry: what was written is read, what is read was written; how long an entry's bytes are.
use Rattle.std.specs.Prelude.{ℕ, zero, suc, ◌+◌, ◌^◌, ◌<◌, ◌≤◌, List, [], ◌∷◌, ◌++◌, ◌≡◌, refl, Bool, true, false, cond, drop, length, ltb, Ok, Err}
use Rattle.std.proofs.Common.{append_assoc, ap, ◌∙◌, subst₂, arith, length-append, le-ltb, ltb-false}
use Rattle.number.specs.Number.{Number, group_size, number_bytes, number_at, and_then}
use Rattle.number.specs.Value.{alternating_of, signed_of}
use Rattle.number.specs.laws.NumberLaws.{length_some, length_few, bytes_small, bytes_below, same_read}
use Rattle.number.specs.laws.ValueLaws.{signed_alternating, alternating_signed, alternating_below, signed_fits}
use Rattle.number.specs.Stands.{Stands}
use Rattle.number.proofs.theorems.Trip.{drop_past, reads_written, written_read}
use Rattle.record.specs.declared.Entry.{Entry}
use Rattle.record.specs.declared.Entry.TheVariants.{ReadAsked, WriteAsked, Told, Done}
use Rattle.record.specs.Entry.{Found, last_client, last_cell, longest_entry, entry_bytes, up_to, fields_at, entry_at}
use Rattle.record.specs.Legal.{InRange}
use Rattle.number.specs.Below.{byte_limit, Below, Bytes}
use Rattle.record.specs.laws.EntryTrip.{Went, WasWritten}
use Rattle.refusal.specs.declared.Refusal.{Refusal}
use Rattle.refusal.specs.declared.Refusal.TheVariants.{KindAbove, FieldAbove}

-- ---- what was written is read

-- a number's bytes stand at place at, and then others: it is read, and the others stand after it
record Step (s : List ℕ) (at n : ℕ) (more : List ℕ) : Type 0 where
  place : ℕ
  is : place ≡ at + length (number_bytes n)
  gives : number_at s at ≡ Ok (n, place)
  rest : drop place s ≡ more

step : (s : List ℕ) (at n : ℕ) (more : List ℕ) → n < 2 ^ 32 → drop at s ≡ number_bytes n ++ more → Step s at n more
step s at n more h e = record {
  place = at + length (number_bytes n);
  is = refl;
  gives = reads_written s at n more h e;
  rest = drop_past s (number_bytes n) more at e;
}

-- a number within its limit
within_limit : (limit : ℕ) (refusal : Refusal) (n next : ℕ) → n ≤ limit → up_to limit refusal (Ok (n, next)) ≡ Ok (n, next)
unfolding up_to
within_limit limit refusal n next h = simp (le-ltb limit n h)

checked : {s : List ℕ} {at n : ℕ} {more : List ℕ} (limit : ℕ) (refusal : Refusal) (w : Step s at n more) → n ≤ limit → up_to limit refusal (number_at s at) ≡ Ok (n, w.place)
checked {s} {at} {n} limit refusal w h = ap (up_to limit refusal) w.gives ∙ within_limit limit refusal n w.place h

-- kind and client at place at, and then others: both are read, and the entry's fields are those that stand after them
record Head (s : List ℕ) (at kind client : ℕ) (more : List ℕ) : Type 0 where
  place : ℕ
  is : place ≡ at + (length (number_bytes kind) + length (number_bytes client))
  gives : entry_at s at ≡ fields_at s place kind client
  rest : drop place s ≡ more

head : (s : List ℕ) (at kind client : ℕ) (more : List ℕ) → kind ≤ 3 → client ≤ last_client → drop at s ≡ number_bytes kind ++ (number_bytes client ++ more)
    → Head s at kind client more
unfolding entry_at and_then
head s at kind client more hk hc e =
    let a = step s at kind (number_bytes client ++ more) (omega arith) e in
    let b = step s a.place client more (omega arith) a.rest in
    record { place = b.place; is = omega (arith, a.is, b.is); gives = simp (checked 3 KindAbove a hk, checked last_client FieldAbove b hc); rest = b.rest }

-- an entry's bytes at place at are read as the entry, whatever follows
pub reads_entry : (e : Entry) (s : List ℕ) (at : ℕ) (more : List ℕ) → InRange e → drop at s ≡ entry_bytes e ++ more → entry_at s at ≡ Ok (e, at + length (entry_bytes e))
unfolding entry_bytes fields_at and_then
reads_entry (ReadAsked client cell) s at more h e =
    let a = head s at 0 client.0 (number_bytes cell.0 ++ more) (omega arith) h.0 (e ∙ simp append_assoc) in
    let b = step s a.place cell.0 more (omega arith) a.rest in
    a.gives ∙ simp (checked last_cell FieldAbove b h.1) (ap (λ (x : ℕ). Ok (ReadAsked client cell, x)) (simp length-append (omega (arith, a.is, b.is))))
reads_entry (WriteAsked client cell v) s at more h e =
    let a = head s at 1 client.0 (number_bytes cell.0 ++ (number_bytes (alternating_of v) ++ more)) (omega arith) h.0 (e ∙ simp append_assoc) in
    let b = step s a.place cell.0 (number_bytes (alternating_of v) ++ more) (omega arith) a.rest in
    let c = step s b.place (alternating_of v) more (alternating_below v h.2) b.rest in
    a.gives
    ∙ simp (checked last_cell FieldAbove b h.1, c.gives, signed_alternating) (ap (λ (x : ℕ). Ok (WriteAsked client cell v, x)) (simp length-append (omega (arith, a.is, b.is, c.is))))
reads_entry (Told client v) s at more h e =
    let a = head s at 2 client.0 (number_bytes (alternating_of v) ++ more) (omega arith) h.0 (e ∙ simp append_assoc) in
    let b = step s a.place (alternating_of v) more (alternating_below v h.1) a.rest in
    a.gives ∙ simp (b.gives, signed_alternating) (ap (λ (x : ℕ). Ok (Told client v, x)) (simp length-append (omega (arith, a.is, b.is))))
reads_entry (Done client) s at more h e =
    let a = head s at 3 client.0 more (omega arith) h (e ∙ simp append_assoc) in
    a.gives ∙ ap (λ (x : ℕ). Ok (Done client, x)) (simp length-append (omega (arith, a.is)))

-- ---- what is read was written

pub never : {A : Type 0} {k : Refusal} {e : Entry} {next : ℕ} → ◌≡◌ {A = Found} (Err k) (Ok (e, next)) → A
never p = let z : ◌≡◌ {A = ℕ} 0 1 = cc in absurd (omega arith)

-- an entry was read, so its number was, and the rest after it
pub went : (r : Number) (go : ℕ → ℕ → Found) (e : Entry) (next : ℕ) → and_then Err r go ≡ Ok (e, next) → Went r go e next
unfolding and_then
went (Err k) go e next p = never p
went (Ok (n, m)) go e next p = record { n = n; m = m; is = refl; on = p }

-- what `up_to` let through is what was read, and not above the limit
pub passed : (limit : ℕ) (refusal : Refusal) (n next : ℕ) (r : Number) → up_to limit refusal r ≡ Ok (n, next) → (r ≡ Ok (n, next)) × (n ≤ limit)
unfolding up_to
passed limit refusal n next (Err k) p = let z : ◌≡◌ {A = ℕ} 0 1 = cc in absurd (omega arith)
passed limit refusal n next (Ok (m, k)) p = go (ltb limit m) refl p
  where
    go : (t : Bool) → ltb limit m ≡ t → cond {A = Number} t (Err refusal) (Ok (m, k)) ≡ Ok (n, next) → (◌≡◌ {A = Number} (Ok (m, k)) (Ok (n, next))) × (n ≤ limit)
    go true e q = let z : ◌≡◌ {A = ℕ} 0 1 = cc in absurd (omega arith)
    go false e q = (q, omega (arith, (same_read q).0, ltb-false limit m e))

same : {s : List ℕ} {at : ℕ} {e e' : Entry} {next next' : ℕ} → ◌≡◌ {A = Found} (Ok (e, next)) (Ok (e', next')) → WasWritten s at e next → WasWritten s at e' next'
same {s} {at} p w = subst₂ (WasWritten s at) (same_read p).0 (same_read p).1 w

fields : (s : List ℕ) (at a b kind client : ℕ) (e : Entry) (next : ℕ) → Bytes s → Stands s at kind a → Stands s a client b → client ≤ last_client → kind ≤ 3
    → fields_at s b kind client ≡ Ok (e, next) → WasWritten s at e next
unfolding fields_at entry_bytes
fields s at a b zero client e next h wk wc hc hk p =
    let w = went (up_to last_cell FieldAbove (number_at s b)) (λ cell c. Ok (ReadAsked (record { 0 = client }) (record { 0 = cell }), c)) e next p in
    let q = passed last_cell FieldAbove w.n w.m (number_at s b) w.is in
    let d = written_read s b w.n w.m h q.0 in
    same w.on (record {
      bytes = wk.here ∙ simp (wc.here, d.here, append_assoc);
      place = simp length-append (omega (arith, wk.far, wc.far, d.far));
      range = (hc, q.1);
      within = d.within;
    })
fields s at a b (suc zero) client e next h wk wc hc hk p =
    let w = went (up_to last_cell FieldAbove (number_at s b))
    (λ cell c. and_then Err (number_at s c) (λ v d. Ok (WriteAsked (record { 0 = client }) (record { 0 = cell }) (signed_of v), d))) e next p in
    let q = passed last_cell FieldAbove w.n w.m (number_at s b) w.is in
    let d = written_read s b w.n w.m h q.0 in
    let u = went (number_at s w.m) (λ v x. Ok (WriteAsked (record { 0 = client }) (record { 0 = w.n }) (signed_of v), x)) e next w.on in
    let f = written_read s w.m u.n u.m h u.is in
    same u.on (record {
      bytes = wk.here ∙ simp (wc.here, d.here, f.here, alternating_signed, append_assoc);
      place = simp (length-append, alternating_signed) (omega (arith, wk.far, wc.far, d.far, f.far));
      range = (hc, q.1, signed_fits u.n f.below);
      within = f.within;
    })
fields s at a b (suc (suc zero)) client e next h wk wc hc hk p =
    let u = went (number_at s b) (λ v x. Ok (Told (record { 0 = client }) (signed_of v), x)) e next p in
    let f = written_read s b u.n u.m h u.is in
    same u.on (record {
      bytes = wk.here ∙ simp (wc.here, f.here, alternating_signed, append_assoc);
      place = simp (length-append, alternating_signed) (omega (arith, wk.far, wc.far, f.far));
      range = (hc, signed_fits u.n f.below);
      within = f.within;
    })
fields s at a b (suc (suc (suc zero))) client e next h wk wc hc hk p =
    same p (record {
      bytes = wk.here ∙ simp (wc.here, append_assoc);
      place = simp length-append (omega (arith, wk.far, wc.far));
      range = hc;
      within = wc.within;
    })
fields s at a b (suc (suc (suc (suc k)))) client e next h wk wc hc hk p = absurd (omega arith)

-- an entry that is read is in range, and its bytes are those that writing it gives
pub written_entry : (s : List ℕ) (at : ℕ) (e : Entry) (next : ℕ) → Bytes s → entry_at s at ≡ Ok (e, next) → WasWritten s at e next
unfolding entry_at
written_entry s at e next h p =
    let w = went (up_to 3 KindAbove (number_at s at)) (λ kind a. and_then Err (up_to last_client FieldAbove (number_at s a)) (λ client b. fields_at s b kind client)) e next p in
    let q = passed 3 KindAbove w.n w.m (number_at s at) w.is in
    let u = went (up_to last_client FieldAbove (number_at s w.m)) (λ client b. fields_at s b w.n client) e next w.on in
    let r = passed last_client FieldAbove u.n u.m (number_at s w.m) u.is in
    fields s at w.m u.m w.n u.n e next h (written_read s at w.n w.m h q.0) (written_read s w.m u.n u.m h r.0) r.1 q.1 u.on

-- ---- an entry's bytes

-- an entry takes a byte at least
pub entry_some : (e : Entry) → 1 ≤ length (entry_bytes e)
unfolding entry_bytes
entry_some (ReadAsked client cell) = simp length-append (omega (arith, length_some 0))
entry_some (WriteAsked client cell v) = simp length-append (omega (arith, length_some 1))
entry_some (Told client v) = simp length-append (omega (arith, length_some 2))
entry_some (Done client) = simp length-append (omega (arith, length_some 3))

-- and 20 at most, whatever its fields: it is four numbers at most
pub entry_most : (e : Entry) → length (entry_bytes e) ≤ 20
unfolding entry_bytes
entry_most (ReadAsked client cell) = simp length-append (omega (arith, length_few 0, length_few client.0, length_few cell.0))
entry_most (WriteAsked client cell v) = simp length-append (omega (arith, length_few 1, length_few client.0, length_few cell.0, length_few (alternating_of v)))
entry_most (Told client v) = simp length-append (omega (arith, length_few 2, length_few client.0, length_few (alternating_of v)))
entry_most (Done client) = simp length-append (omega (arith, length_few 3, length_few client.0))

-- a number of one group takes one
one_byte : (n : ℕ) → n < group_size → length (number_bytes n) ≡ 1
one_byte n h = ap length (bytes_small n h)

-- an entry is no longer than the longest: three for kind, client and cell, five for the value
pub entry_few : (e : Entry) → InRange e → length (entry_bytes e) ≤ longest_entry
unfolding entry_bytes
entry_few (ReadAsked client cell) h = simp length-append (omega (arith, one_byte 0 (omega arith), one_byte client.0 (omega arith), one_byte cell.0 (omega arith)))
entry_few (WriteAsked client cell v) h =
    simp length-append (omega (arith, one_byte 1 (omega arith), one_byte client.0 (omega arith), one_byte cell.0 (omega arith), length_few (alternating_of v)))
entry_few (Told client v) h = simp length-append (omega (arith, one_byte 2 (omega arith), one_byte client.0 (omega arith), length_few (alternating_of v)))
entry_few (Done client) h = simp length-append (omega (arith, one_byte 3 (omega arith), one_byte client.0 (omega arith)))

-- what holds of each number of two lists holds of both together
pub below_none : (m : ℕ) → 0 < m → Below m []
below_none m h zero = h
below_none m h (suc i) = h

pub below_append : (m : ℕ) (xs ys : List ℕ) → Below m xs → Below m ys → Below m (xs ++ ys)
below_append m [] ys h g i = g i
below_append m (x ∷ xs) ys h g zero = h 0
below_append m (x ∷ xs) ys h g (suc i) = below_append m xs ys (λ j. h (suc j)) g i

-- a number's bytes before others
bytes_then : (n : ℕ) (xs : List ℕ) → n < 2 ^ 32 → Bytes xs → Bytes (number_bytes n ++ xs)
bytes_then n xs h g = below_append byte_limit (number_bytes n) xs (bytes_below n h) g

bytes_two : (n m : ℕ) → n < 2 ^ 32 → m < 2 ^ 32 → Bytes (number_bytes n ++ number_bytes m)
bytes_two n m h g = bytes_then n (number_bytes m) h (bytes_below m g)

bytes_three : (n m k : ℕ) → n < 2 ^ 32 → m < 2 ^ 32 → k < 2 ^ 32 → Bytes (number_bytes n ++ (number_bytes m ++ number_bytes k))
bytes_three n m k h g f = bytes_then n (number_bytes m ++ number_bytes k) h (bytes_two m k g f)

-- each byte of an entry is a byte
pub entry_bytes_lem : (e : Entry) → InRange e → Bytes (entry_bytes e)
unfolding entry_bytes
entry_bytes_lem (ReadAsked client cell) h = bytes_three 0 client.0 cell.0 (omega arith) (omega arith) (omega arith)
entry_bytes_lem (WriteAsked client cell v) h =
    bytes_then 1 (number_bytes client.0 ++ (number_bytes cell.0 ++ number_bytes (alternating_of v))) (omega arith)
    (bytes_three client.0 cell.0 (alternating_of v) (omega arith) (omega arith) (alternating_below v h.2))
entry_bytes_lem (Told client v) h = bytes_three 2 client.0 (alternating_of v) (omega arith) (omega arith) (alternating_below v h.1)
entry_bytes_lem (Done client) h = bytes_two 3 client.0 (omega arith) (omega arith)
