-- What is written over a rack of the same sizes and no more entries is all that is left of both.
use Rattle.std.specs.Prelude.{ℕ, ◌+◌, ◌-◌, ◌*◌, ◌/◌, ◌%◌, ◌≤◌, ◌<◌, ◌≡◌, Bool, List, [], ◌∷◌, ltb, length, get_or}
use Rattle.std.proofs.Math.Path.{refl, ap}
use Rattle.std.proofs.Common.{sym, ◌∙◌, arith, ext_get_or}
use Rattle.std.proofs.Math.Bool.{true, false}
use Rattle.std.proofs.Math.Dec.{eqb}
use borrow.Author.Tests.{ltb-true, ltb-false, eqb-true, eqb-false}
use Rattle.record.specs.Entry.{cell_limit}
use Rattle.rows.specs.Row.{row_of}
use Rattle.rows.specs.laws.RowLaws.{row_length}
use Rattle.stamps.specs.Stamp.{fresh_pair}
use Rattle.rack.specs.declared.Settings.{Settings}
use Rattle.rack.specs.declared.Rack.{Rack}
use Rattle.rack.specs.Places.{slot_limit, party_at, held_at}
use Rattle.rack.specs.Sound.{sound_of}
use Rattle.rack.specs.laws.SoundLaws.{sound_of_lem}
use Rattle.layout.specs.Layout.{head_size, party_size, pair_size, slot_size, entry_size, word_count, party_place, pair_place, slot_place, entry_place, word}
use Rattle.layout.specs.Writing.{party_words, slot_words, pair_written, entry_in, written_of}
use Rattle.layout.specs.laws.PlaceLaws.{Stands}
use Rattle.layout.proofs.theorems.Trip.{party_long, pair_long, slot_long}
use Rattle.layout.proofs.theorems.Again.{head_stands, party_stands, pair_stands, slot_stands, row_stands}
use Rattle.lent.specs.laws.Away.{Away, away_stays}
use Rattle.lent.proofs.theorems.Calls.{written_long}

-- ---- each word

-- what stands at a place in two lists is the same there
both_stand : (a b xs : List ℕ) (at o j : ℕ) → j ≡ at + o → o < length xs → Stands a at xs → Stands b at xs → word a j ≡ word b j
both_stand a b xs at o j e h sa sb = rw e (sa o h ∙ sym (sb o h))

module _ (r q : Rack) (ws : List ℕ) (s : sound_of q ≡ true) (l : length ws ≡ word_count) (z : r.settings ≡ q.settings) (few : r.count ≤ q.count) where
  -- the words with r written, and q over it
  abbrev over : List ℕ
  over = written_of q (written_of r ws)

  -- the words with q alone written
  abbrev alone : List ℕ
  alone = written_of q ws

  long : length (written_of r ws) ≡ word_count
  long = written_long r ws ∙ l

  away : (j : ℕ) → Away q j → word over j ≡ word alone j
  away j a =
      away_stays q (written_of r ws) j a
      ∙ away_stays r ws j (record {
        head = a.head;
        parties = λ i h. a.parties i (omega (arith, ap (λ (x : Settings). x.clients) z));
        pairs = λ i h k. a.pairs i (omega (arith, ap (λ (x : Settings). x.replicas) z)) (omega (arith, ap (λ (x : Settings). x.cells) z));
        slots = a.slots;
        rows = λ i h. a.rows i (omega arith);
      })
      ∙ sym (away_stays q ws j a)

  in_head : (j : ℕ) → j < head_size → word over j ≡ word alone j
  in_head j h =
      both_stand over alone (q.settings.replicas ∷ q.settings.clients ∷ q.settings.cells ∷ q.power ∷ q.count ∷ []) 0 j j (omega arith) h
      (head_stands q (written_of r ws) s long) (head_stands q ws s l)

  in_parties : (j : ℕ) → head_size ≤ j → j < pair_place 0 → word over j ≡ word alone j
  in_parties j h k = go (ltb ((j - head_size) / party_size) q.settings.clients) refl
    where
      go : (t : Bool) → ltb ((j - head_size) / party_size) q.settings.clients ≡ t → word over j ≡ word alone j
      go true e =
          let i : ℕ = (j - head_size) / party_size in
          let u : i < q.settings.clients = ltb-true ((j - head_size) / party_size) q.settings.clients e in
          both_stand over alone (party_words (party_at q i)) (party_place i) ((j - head_size) % party_size) j (omega arith) (omega (arith, party_long (party_at q i)))
          (party_stands q (written_of r ws) s long i u) (party_stands q ws s l i u)
      go false e =
          let u : q.settings.clients ≤ (j - head_size) / party_size = ltb-false ((j - head_size) / party_size) q.settings.clients e in
          away j (record {
            head = h;
            parties = λ i m n. omega arith;
            pairs = λ i m n o. omega arith;
            slots = λ i m n. omega arith;
            rows = λ i m n. omega arith;
          })

  in_pairs : (j : ℕ) → pair_place 0 ≤ j → j < slot_place 0 → word over j ≡ word alone j
  unfolding pair_written
  in_pairs j h k = go (ltb ((j - pair_place 0) / pair_size) (cell_limit * q.settings.replicas)) refl (ltb ((j - pair_place 0) / pair_size % cell_limit) q.settings.cells) refl
    where
      aside : ((j - pair_place 0) / pair_size < cell_limit * q.settings.replicas → q.settings.cells ≤ (j - pair_place 0) / pair_size % cell_limit) → word over j ≡ word alone j
      aside f = away j (record {
        head = omega arith;
        parties = λ i m n. omega (arith, (sound_of_lem q s).settings.clients);
        pairs = λ i m n o. apart i m n o (eqb i ((j - pair_place 0) / pair_size)) refl;
        slots = λ i m n. omega arith;
        rows = λ i m n. omega arith;
      })
        where
          apart : (i : ℕ) → i < cell_limit * q.settings.replicas → i % cell_limit < q.settings.cells → pair_place i ≤ j → (t : Bool) → eqb i ((j - pair_place 0) / pair_size)
              ≡ t → pair_place i + pair_size ≤ j
          apart i m n o true e =
              let a : i ≡ (j - pair_place 0) / pair_size = eqb-true i ((j - pair_place 0) / pair_size) e in
              let b : q.settings.cells ≤ (j - pair_place 0) / pair_size % cell_limit = f (omega arith) in
              absurd (let c : i % cell_limit ≡ (j - pair_place 0) / pair_size % cell_limit = ap (λ (y : ℕ). y % cell_limit) a in omega arith)
          apart i m n o false e = let a : i ≡ (j - pair_place 0) / pair_size → ⊥ = eqb-false i ((j - pair_place 0) / pair_size) e in omega (arith, a)

      go : (t : Bool) → ltb ((j - pair_place 0) / pair_size) (cell_limit * q.settings.replicas) ≡ t → (v : Bool)
          → ltb ((j - pair_place 0) / pair_size % cell_limit) q.settings.cells ≡ v → word over j ≡ word alone j
      go true e true f =
          let i : ℕ = (j - pair_place 0) / pair_size in
          let u : i < cell_limit * q.settings.replicas = ltb-true ((j - pair_place 0) / pair_size) (cell_limit * q.settings.replicas) e in
          let w : length (pair_written q.settings.cells i (get_or q.pairs i fresh_pair)) ≡ pair_size = rw f (pair_long (get_or q.pairs i fresh_pair)) in
          both_stand over alone (pair_written q.settings.cells i (get_or q.pairs i fresh_pair)) (pair_place i) ((j - pair_place 0) % pair_size) j (omega arith) (omega arith)
          (pair_stands q (written_of r ws) s long i u) (pair_stands q ws s l i u)
      go true e false f = aside (λ m. ltb-false ((j - pair_place 0) / pair_size % cell_limit) q.settings.cells f)
      go false e v f = aside (λ m. absurd (omega (arith, ltb-false ((j - pair_place 0) / pair_size) (cell_limit * q.settings.replicas) e)))

  in_slots : (j : ℕ) → slot_place 0 ≤ j → j < entry_place 0 → word over j ≡ word alone j
  in_slots j h k =
      let i : ℕ = (j - slot_place 0) / slot_size in
      let u : i < slot_limit = omega arith in
      both_stand over alone (slot_words (held_at q i)) (slot_place i) ((j - slot_place 0) % slot_size) j (omega arith) (omega (arith, slot_long (held_at q i)))
      (slot_stands q (written_of r ws) s long i u) (slot_stands q ws s l i u)

  in_rows : (j : ℕ) → entry_place 0 ≤ j → word over j ≡ word alone j
  in_rows j h = go (ltb ((j - entry_place 0) / entry_size) q.count) refl
    where
      go : (t : Bool) → ltb ((j - entry_place 0) / entry_size) q.count ≡ t → word over j ≡ word alone j
      go true e =
          let i : ℕ = (j - entry_place 0) / entry_size in
          let u : i < q.count = ltb-true ((j - entry_place 0) / entry_size) q.count e in
          both_stand over alone (row_of (entry_in q.lines i)) (entry_place i) ((j - entry_place 0) % entry_size) j (omega arith) (omega (arith, row_length (entry_in q.lines i)))
          (row_stands q (written_of r ws) s long i u) (row_stands q ws s l i u)
      go false e =
          let u : q.count ≤ (j - entry_place 0) / entry_size = ltb-false ((j - entry_place 0) / entry_size) q.count e in
          away j (record {
            head = omega arith;
            parties = λ i m n. omega (arith, (sound_of_lem q s).settings.clients);
            pairs = λ i m n o. omega (arith, (sound_of_lem q s).settings.replicas);
            slots = λ i m n. omega arith;
            rows = λ i m n. omega arith;
          })

  each_word : (j : ℕ) → word over j ≡ word alone j
  each_word j = go (ltb j head_size) refl (ltb j (pair_place 0)) refl (ltb j (slot_place 0)) refl (ltb j (entry_place 0)) refl
    where
      go : (a : Bool) → ltb j head_size ≡ a → (b : Bool) → ltb j (pair_place 0) ≡ b → (c : Bool) → ltb j (slot_place 0) ≡ c → (d : Bool) → ltb j (entry_place 0) ≡ d
          → word over j ≡ word alone j
      go true e b f c g d h = in_head j (ltb-true j head_size e)
      go false e true f c g d h = in_parties j (ltb-false j head_size e) (ltb-true j (pair_place 0) f)
      go false e false f true g d h = in_pairs j (ltb-false j (pair_place 0) f) (ltb-true j (slot_place 0) g)
      go false e false f false g true h = in_slots j (ltb-false j (slot_place 0) g) (ltb-true j (entry_place 0) h)
      go false e false f false g false h = in_rows j (ltb-false j (entry_place 0) h)

  pub written_over : written_of q (written_of r ws) ≡ written_of q ws
  written_over = ext_get_or 0 over alone (written_long q (written_of r ws) ∙ written_long r ws ∙ sym (written_long q ws)) (λ j h. each_word j)
