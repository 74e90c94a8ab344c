-- Words where no part of a rack stands stay as they are when it is written.
use Rattle.std.specs.Prelude.{ℕ, zero, suc, ◌+◌, ◌*◌, ◌%◌, ◌≤◌, ◌<◌, ◌≡◌, refl, Bool, true, false, cond, List, [], ◌∷◌, ltb, length, get_or, set}
use Rattle.std.proofs.Common.{◌∙◌, arith, get_or-set_other, ltb-true, ltb-false}
use Rattle.std.proofs.lemmas.List.Edits.{sets}
use Rattle.rows.specs.Row.{row_of}
use Rattle.rows.specs.laws.RowLaws.{row_length}
use Rattle.stamps.specs.declared.Pair.{Pair}
use Rattle.stamps.specs.Stamp.{fresh_pair}
use Rattle.rack.specs.declared.Rack.{Rack}
use Rattle.record.specs.Entry.{cell_limit}
use Rattle.rack.specs.Places.{slot_limit, party_at, held_at}
use Rattle.layout.specs.Layout.{head_size, party_size, pair_size, slot_size, entry_size, party_place, pair_place, slot_place, entry_place, word}
use Rattle.layout.specs.Writing.{pair_words, party_words, slot_words, put_firsts, head_of, parties_put, pair_written, pairs_put, wire_put, entry_in, record_put, written_of}
use Rattle.layout.specs.laws.PlaceLaws.{sets_below}
use Rattle.layout.proofs.theorems.Trip.{party_long, pair_long, slot_long}

-- ---- one part, and parts in a row

-- place j is none of the n places from place `at` on
abbrev pub Beside : ℕ → ℕ → ℕ → Type 0
Beside at n j = at ≤ j → at + n ≤ j

sets_above : (xs d : List ℕ) (at j : ℕ) → at + length xs ≤ j → word (sets d at xs) j ≡ word d j
sets_above [] d at j h = refl
sets_above (x ∷ xs) d at j h = sets_above xs (set d at x) (suc at) j (omega arith) ∙ get_or-set_other d at j x 0 (λ e. omega arith)

sets_beside : (xs d : List ℕ) (at j : ℕ) → Beside at (length xs) j → word (sets d at xs) j ≡ word d j
sets_beside xs d at j h = go (ltb j at) refl
  where
    go : (t : Bool) → ltb j at ≡ t → word (sets d at xs) j ≡ word d j
    go true e = sets_below xs d at j (ltb-true j at e)
    go false e = sets_above xs d at j (h (ltb-false j at e))

parts_beside : (n : ℕ) (place : ℕ → ℕ) (f : ℕ → List ℕ) (d : List ℕ) (j : ℕ) → ((i : ℕ) → i < n → Beside (place i) (length (f i)) j)
    → word (put_firsts n place f d) j ≡ word d j
unfolding put_firsts
parts_beside zero place f d j h = refl
parts_beside (suc n) place f d j h =
    sets_beside (f n) (put_firsts n place f d) (place n) j (h n (omega arith)) ∙ parts_beside n place f d j (λ i l. h i (omega arith))

-- ---- a rack

-- place j is none where a part of the rack r is written
pub record Away (r : Rack) (j : ℕ) : Type 0 where
  pub head : head_size ≤ j
  pub parties : (i : ℕ) → i < r.settings.clients → Beside (party_place i) party_size j
  pub pairs : (i : ℕ) → i < cell_limit * r.settings.replicas → i % cell_limit < r.settings.cells → Beside (pair_place i) pair_size j
  pub slots : (i : ℕ) → i < slot_limit → Beside (slot_place i) slot_size j
  pub rows : (i : ℕ) → i < r.count → Beside (entry_place i) entry_size j

-- a pair that isn't written is beside every place
pair_beside : (cells i : ℕ) (p : Pair) (j : ℕ) → (i % cell_limit < cells → Beside (pair_place i) pair_size j) → Beside (pair_place i) (length (pair_written cells i p)) j
unfolding pair_written
pair_beside cells i p j h = go (ltb (i % cell_limit) cells) refl
  where
    go : (t : Bool) → ltb (i % cell_limit) cells ≡ t → Beside (pair_place i) (length (cond t (pair_words p) [])) j
    go true e k = let a = h (ltb-true (i % cell_limit) cells e) k in omega (arith, pair_long p)
    go false e k = omega arith

pub away_stays : (r : Rack) (ws : List ℕ) (j : ℕ) → Away r j → word (written_of r ws) j ≡ word ws j
unfolding written_of record_put wire_put pairs_put parties_put head_of
away_stays r ws j a =
    parts_beside r.count entry_place (λ i. row_of (entry_in r.lines i)) _ j (λ i h k. (let b = a.rows i h k in omega (arith, row_length (entry_in r.lines i))))
    ∙ parts_beside slot_limit slot_place (λ i. slot_words (held_at r i)) _ j (λ i h k. (let b = a.slots i h k in omega (arith, slot_long (held_at r i))))
    ∙ parts_beside (cell_limit * r.settings.replicas) pair_place (λ i. pair_written r.settings.cells i (get_or r.pairs i fresh_pair)) _ j
    (λ i h. pair_beside r.settings.cells i (get_or r.pairs i fresh_pair) j (a.pairs i h))
    ∙ parts_beside r.settings.clients party_place (λ i. party_words (party_at r i)) _ j (λ i h k. (let b = a.parties i h k in omega (arith, party_long (party_at r i))))
    ∙ sets_beside (r.settings.replicas ∷ r.settings.clients ∷ r.settings.cells ∷ r.power ∷ r.count ∷ []) ws 0 j (λ k. a.head)
