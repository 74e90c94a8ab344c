-- The rack of the words that a rack leaves is that rack again, whole: parts beyond the sizes too, which are neither written nor changed.
use Prim.Native.Nat.{ℕ, zero, suc, ◌+◌, ◌-◌, ◌*◌, ◌/◌, ◌%◌, ◌≤◌, ◌<◌}
use Rattle.std.specs.Prelude.{◌≡◌, Bool, List, [], ◌∷◌, ◌++◌, drop, replicate}
use Rattle.std.proofs.Math.Path.{refl, ap, sym}
use Rattle.std.proofs.Common.{◌∙◌, length-append, length-drop, get_or-append-add, get_or-drop}
use Rattle.std.proofs.Math.Bool.{true, false}
use native.Mathlib.Omega.{arith}
use Rattle.std.proofs.Math.Dec.{ltb, eqb}
use Rattle.std.proofs.Math.ListN.{length, get_or}
use Rattle.std.proofs.lemmas.List.{length-replicate}
use Rattle.std.proofs.Math.Seq.{ext_get_or}
use borrow.Author.Tests.{ltb-true, ltb-false, eqb-true, eqb-false}
use Rattle.record.specs.declared.Entry.{Entry}
use Rattle.record.specs.declared.Entry.TheVariants.{ReadAsked}
use Rattle.record.specs.Entry.{client_limit, cell_limit}
use Rattle.record.specs.Record.{entry_limit}
use Rattle.stamps.specs.Stamp.{fresh_pair}
use Rattle.rack.specs.declared.Line.{Line}
use Rattle.rack.specs.declared.Rack.{Rack}
use Rattle.rack.specs.Places.{slot_limit, pair_limit, empty, idle, blank, party_at}
use Rattle.rack.specs.Sound.{sound_of}
use Rattle.rack.specs.laws.SoundLaws.{Sound, sound_of_lem}
use Rattle.layout.specs.Layout.{party_size, work_size, pair_size, word_count, party_place, pair_place, slot_place, entry_place, word, firsts}
use Rattle.layout.specs.Reading.{pair_in, operation_in, work_in, party_in, slot_in, line_in, lines_in, entry_count, rack_of}
use Rattle.layout.specs.Writing.{written_of}
use Rattle.layout.specs.laws.Firsts.{firsts_long, firsts_at}
use Rattle.layout.specs.laws.Again.{Sayable, Again}
use Rattle.layout.proofs.theorems.Again.{head_stands, written_again}
use Rattle.lent.specs.laws.Away.{away_stays}

-- ---- parts that are read from the same words

-- the n words from place `at` on are the same in both
abbrev SameWords : List ℕ → List ℕ → ℕ → ℕ → Type 0
SameWords ws vs at n = (j : ℕ) → at ≤ j → j < at + n → word ws j ≡ word vs j

one_same : (ws vs : List ℕ) (at n o : ℕ) → SameWords ws vs at n → o < n → word ws (at + o) ≡ word vs (at + o)
one_same ws vs at n o h k = h (at + o) (omega arith) (omega arith)

pair_same : (ws vs : List ℕ) (at : ℕ) → SameWords ws vs at pair_size → pair_in ws at ≡ pair_in vs at
unfolding pair_in
pair_same ws vs at h = rw (h at (omega arith) (omega arith), one_same ws vs at pair_size 1 h (omega arith), one_same ws vs at pair_size 2 h (omega arith))

work_same : (ws vs : List ℕ) (at : ℕ) → SameWords ws vs at work_size → work_in ws at ≡ work_in vs at
unfolding work_in operation_in
work_same ws vs at h =
    let w : (o : ℕ) → o < work_size → word ws (at + o) ≡ word vs (at + o) = λ o k. one_same ws vs at work_size o h k in
    let p : pair_in ws (at + 5) ≡ pair_in vs (at + 5) = pair_same ws vs (at + 5) (λ j a b. h j (omega arith) (omega arith)) in
    rw (p, h at (omega arith) (omega arith), w 1 (omega arith), w 2 (omega arith), w 3 (omega arith), w 4 (omega arith))

party_same : (ws vs : List ℕ) (at : ℕ) → SameWords ws vs at party_size → party_in ws at ≡ party_in vs at
unfolding party_in
party_same ws vs at h =
    let w : (o : ℕ) → o < party_size → word ws (at + o) ≡ word vs (at + o) = λ o k. one_same ws vs at party_size o h k in
    let p : work_in ws (at + 2) ≡ work_in vs (at + 2) = work_same ws vs (at + 2) (λ j a b. h j (omega arith) (omega arith)) in
    rw (p, h at (omega arith) (omega arith), w 1 (omega arith), w 2 (omega arith), w 4 (omega arith))

-- ---- what a rack has beyond its sizes and its count

-- arrays are whole; beyond the sizes they have what the words ws are read as, and beyond the count what a fresh rack has
pub record Beyond (ws : List ℕ) (r : Rack) : Type 0 where
  pub parties_long : length r.parties ≡ client_limit
  pub pairs_long : length r.pairs ≡ pair_limit
  pub wire_long : length r.wire ≡ slot_limit
  pub lines_long : length r.lines ≡ entry_limit
  pub parties : (i : ℕ) → r.settings.clients ≤ i → i < client_limit → party_at r i ≡ party_in ws (party_place i)
  pub pairs : (i : ℕ) → i < pair_limit → (i < cell_limit * r.settings.replicas → r.settings.cells ≤ i % cell_limit) → get_or r.pairs i fresh_pair ≡ pair_in ws (pair_place i)
  pub lines : (i : ℕ) → r.count ≤ i → get_or r.lines i blank ≡ blank

-- within a list the default doesn't matter
any_default : {A : Type 0} (d e : A) (l : List A) (i : ℕ) → i < length l → get_or l i d ≡ get_or l i e
any_default d e [] i h = absurd (omega arith)
any_default d e (x ∷ l) zero h = refl
any_default d e (x ∷ l) (suc i) h = any_default d e l i (omega arith)

pub lines_in_long : (n : ℕ) (ws : List ℕ) → n ≤ entry_limit → length (lines_in n ws) ≡ entry_limit
unfolding lines_in
lines_in_long n ws h =
    length-append (firsts n (λ i. line_in ws (entry_place i))) (drop n (replicate entry_limit blank))
    ∙ omega (arith, firsts_long n (λ i. line_in ws (entry_place i)), length-drop n (replicate entry_limit blank), length-replicate entry_limit blank)

same_blank : (n i : ℕ) → get_or (replicate n blank) i blank ≡ blank
same_blank zero i = refl
same_blank (suc n) zero = refl
same_blank (suc n) (suc i) = same_blank n i

-- beyond its first n entries a record read from words is blank
pub lines_in_beyond : (n : ℕ) (ws : List ℕ) (i : ℕ) → n ≤ i → get_or (lines_in n ws) i blank ≡ blank
unfolding lines_in
lines_in_beyond n ws i h =
    let f : ℕ → Line = λ k. line_in ws (entry_place k) in
    let e : i ≡ length (firsts n f) + (i - n) = omega (arith, firsts_long n f) in
    ap (λ (k : ℕ). get_or (firsts n f ++ drop n (replicate entry_limit blank)) k blank) e
    ∙ get_or-append-add (firsts n f) (drop n (replicate entry_limit blank)) (i - n) blank
    ∙ get_or-drop n (replicate entry_limit blank) (i - n) blank
    ∙ same_blank entry_limit (n + (i - n))

-- ---- a rack is read again

module _ (r : Rack) (ws : List ℕ) (s : sound_of r ≡ true) (f : Sayable r) (l : length ws ≡ word_count) (b : Beyond ws r) where
  -- the words that it leaves
  abbrev left : List ℕ
  left = written_of r ws

  -- the rack that these are
  abbrev read : Rack
  read = rack_of (written_of r ws)

  again : Again r read
  again = written_again r ws s f l

  sound : Sound r
  sound = sound_of_lem r s

  -- a client beyond the sizes
  party_beyond : (i : ℕ) → r.settings.clients ≤ i → i < client_limit → party_at read i ≡ party_at r i
  unfolding rack_of
  party_beyond i h k =
      firsts_at client_limit i (λ j. party_in left (party_place j)) idle k
      ∙ party_same left ws (party_place i) (λ j m n. away_stays r ws j (record {
        head = omega arith;
        parties = λ o p q. omega arith;
        pairs = λ o p q t. omega arith;
        slots = λ o p q. omega arith;
        rows = λ o p q. omega arith;
      }))
      ∙ sym (b.parties i h k)

  -- a pair of a replica or cell beyond the sizes
  pair_beyond : (i : ℕ) → i < pair_limit → (i < cell_limit * r.settings.replicas → r.settings.cells ≤ i % cell_limit) → get_or read.pairs i fresh_pair
      ≡ get_or r.pairs i fresh_pair
  unfolding rack_of
  pair_beyond i h k =
      firsts_at pair_limit i (λ j. pair_in left (pair_place j)) fresh_pair h
      ∙ pair_same left ws (pair_place i) (λ j m n. away_stays r ws j (record {
        head = omega arith;
        parties = λ o p q. omega (arith, sound.settings.clients);
        pairs = λ o p q t. other j m n o p q t (eqb o i) refl;
        slots = λ o p q. omega arith;
        rows = λ o p q. omega arith;
      }))
      ∙ sym (b.pairs i h k)
    where
      other : (j : ℕ) → pair_place i ≤ j → j < pair_place i + pair_size → (o : ℕ) → o < cell_limit * r.settings.replicas → o % cell_limit < r.settings.cells → pair_place o ≤ j
          → (t : Bool) → eqb o i ≡ t
          → pair_place o + pair_size ≤ j
      other j m n o p q u true e =
          let w : o ≡ i = eqb-true o i e in
          let v : r.settings.cells ≤ i % cell_limit = k (omega arith) in
          absurd (let x : o % cell_limit ≡ i % cell_limit = ap (λ (y : ℕ). y % cell_limit) w in omega arith)
      other j m n o p q u false e = let w : o ≡ i → ⊥ = eqb-false o i e in omega (arith, w)

  pairs_again : read.pairs ≡ r.pairs
  unfolding rack_of
  pairs_again =
      let x : length read.pairs ≡ pair_limit = firsts_long pair_limit (λ j. pair_in left (pair_place j)) in
      ext_get_or fresh_pair read.pairs r.pairs (x
      ∙ sym b.pairs_long) (λ i h. go i (omega arith) (ltb i (cell_limit * r.settings.replicas)) refl (ltb (i % cell_limit) r.settings.cells) refl)
    where
      go : (i : ℕ) → i < pair_limit → (t : Bool) → ltb i (cell_limit * r.settings.replicas) ≡ t → (u : Bool) → ltb (i % cell_limit) r.settings.cells ≡ u
          → get_or read.pairs i fresh_pair ≡ get_or r.pairs i fresh_pair
      go i h true e true g =
          let k : ℕ = i / cell_limit in
          let x : ℕ = i % cell_limit in
          let p : i ≡ cell_limit * k + x = omega arith in
          let hk : k < r.settings.replicas = omega (arith, ltb-true i (cell_limit * r.settings.replicas) e) in
          rw p (again.pairs k x hk (ltb-true (i % cell_limit) r.settings.cells g))
      go i h true e false g = pair_beyond i h (λ p. ltb-false (i % cell_limit) r.settings.cells g)
      go i h false e u g = pair_beyond i h (λ p. absurd (omega (arith, ltb-false i (cell_limit * r.settings.replicas) e)))

  wire_again : read.wire ≡ r.wire
  unfolding rack_of
  wire_again =
      let x : length read.wire ≡ slot_limit = firsts_long slot_limit (λ j. slot_in left (slot_place j)) in
      ext_get_or empty read.wire r.wire (x ∙ sym b.wire_long) (λ i h. λ j. record { held = again.slots i (omega arith) j })

  count_few : r.count ≤ entry_limit
  count_few = omega (arith, sound.entries)

  counted : entry_count left ≡ r.count
  unfolding entry_count
  counted = let e : word left 4 ≡ r.count = head_stands r ws s l 4 (omega arith) in omega (arith, count_few)

  lines_again : read.lines ≡ r.lines
  unfolding rack_of
  lines_again =
      let x : length read.lines ≡ entry_limit = lines_in_long (entry_count left) left (omega (arith, counted, count_few)) in
      ext_get_or blank read.lines r.lines (x ∙ sym b.lines_long) (λ i h. go i (omega arith) (omega arith) (ltb i r.count) refl)
    where
      go : (i : ℕ) → i < length read.lines → i < entry_limit → (t : Bool) → ltb i r.count ≡ t → get_or read.lines i blank ≡ get_or r.lines i blank
      go i h k true e =
          let none : Line = record { entry = ReadAsked (record { 0 = 0 }) (record { 0 = 0 }) } in
          any_default blank none read.lines i h
          ∙ ap (λ (x : Entry). record { entry = x }) (again.entries i (ltb-true i r.count e))
          ∙ any_default none blank r.lines i (omega (arith, b.lines_long))
      go i h k false e =
          let m : r.count ≤ i = ltb-false i r.count e in
          lines_in_beyond (entry_count left) left i (omega (arith, counted)) ∙ sym (b.lines i m)

  parties_read_long : length read.parties ≡ client_limit
  unfolding rack_of
  parties_read_long = firsts_long client_limit (λ j. party_in left (party_place j))

  parties_again : read.parties ≡ r.parties
  parties_again =
      ext_get_or idle read.parties r.parties (parties_read_long ∙ sym b.parties_long) (λ i h. go i (omega (arith, parties_read_long)) (ltb i r.settings.clients) refl)
    where
      go : (i : ℕ) → i < client_limit → (t : Bool) → ltb i r.settings.clients ≡ t → party_at read i ≡ party_at r i
      go i h true e = again.parties i (ltb-true i r.settings.clients e)
      go i h false e = party_beyond i (ltb-false i r.settings.clients e) h

  -- the rack is read again whole
  pub whole : read ≡ r
  whole = λ j. record {
    settings = again.settings j;
    power = again.power j;
    count = again.count j;
    parties = parties_again j;
    pairs = pairs_again j;
    wire = wire_again j;
    lines = lines_again j;
  }
