-- The rack of the words that a rack leaves has that rack's parts again, within its sizes.
use Prim.Native.Nat.{ℕ, suc, ◌+◌, ◌*◌, ◌%◌, ◌≤◌, ◌<◌}
use Rattle.std.specs.Prelude.{◌≡◌, Bool, false, cond, List, [], ◌∷◌, length, get_or, drop, replicate}
use Rattle.std.proofs.Math.Path.{ap}
use Rattle.std.proofs.Common.{◌∙◌, arith}
use Rattle.std.proofs.Math.Bool.{true}
use Rattle.std.proofs.Math.Dec.{ltb}
use Rattle.std.proofs.Math.ListN.{get_or-append}
use Rattle.std.proofs.Math.Seq.{length-sets}
use borrow.Author.Tests.{lt-ltb, le-ltb}
use Rattle.record.specs.declared.Entry.TheVariants.{ReadAsked}
use Rattle.record.specs.Entry.{client_limit, cell_limit}
use Rattle.record.specs.Record.{entry_limit}
use Rattle.rows.specs.Row.{row_of}
use Rattle.rows.specs.laws.RowLaws.{row_length}
use Rattle.rack.specs.declared.Line.{Line}
use Rattle.stamps.specs.declared.Pair.{Pair}
use Rattle.rack.specs.declared.Rack.{Rack}
use Rattle.rack.specs.declared.Slot.{Slot}
use Rattle.stamps.specs.Stamp.{fresh_pair}
use Rattle.rack.specs.Places.{slot_limit, pair_limit, pair_place as place_of, empty, idle, blank, party_at, pair_at, held_at}
use Rattle.rack.specs.Sound.{all_below, sound_of}
use Rattle.rack.specs.laws.SoundLaws.{Sound, sound_of_lem}
use Rattle.rack.specs.laws.Tests.{all_of}
use Rattle.layout.specs.Layout.{word_count, pair_size, party_place, pair_place, slot_place, entry_place, byte_limit, power_limit, word, firsts}
use Rattle.layout.specs.Reading.{byte_of, pair_in, party_in, slot_in, line_in, line_known, lines_in, entry_count, count_in, power_of, settings_in, rack_of}
use Rattle.layout.specs.Writing.{pair_words, party_words, slot_words, head_of, parties_put, pair_written, pairs_put, wire_put, entry_in, record_put, written_of}
use Rattle.layout.specs.laws.Firsts.{firsts_long, firsts_at}
use Rattle.layout.specs.laws.PlaceLaws.{Stands, sets_stand, first_long, parts_below, parts_stand}
use Rattle.layout.proofs.theorems.Trip.{line_known_lem, line_again, pair_long, pair_again, slot_long, slot_again, party_long, party_again}
use Rattle.layout.proofs.theorems.AsTold.{sound_as_told}
use Rattle.layout.specs.laws.Small.{rank_small, slot_small, work_small_lem}
use Rattle.layout.specs.laws.Again.{Sayable, Again}

written_long : (cells i : ℕ) (p : Pair) → length (pair_written cells i p) ≤ pair_size
unfolding pair_written
written_long cells i p = go (ltb (i % cell_limit) cells)
  where
    go : (t : Bool) → length (cond t (pair_words p) []) ≤ pair_size
    go true = omega (arith, pair_long p)
    go false = omega arith

-- ---- where the parts of one rack stand

module _ (r : Rack) (ws : List ℕ) (s : sound_of r ≡ true) (l : length ws ≡ word_count) where
  sound : Sound r
  sound = sound_of_lem r s

  -- its first five words
  abbrev head : List ℕ
  head = r.settings.replicas ∷ r.settings.clients ∷ r.settings.cells ∷ r.power ∷ r.count ∷ []

  -- the words of client i
  abbrev parties : ℕ → List ℕ
  parties i = party_words (party_at r i)

  -- the words of the pair at place i, if the rack has it
  abbrev pairs : ℕ → List ℕ
  pairs i = pair_written r.settings.cells i (get_or r.pairs i fresh_pair)

  -- the words of slot i
  abbrev slots : ℕ → List ℕ
  slots i = slot_words (held_at r i)

  -- the words of entry i
  abbrev rows : ℕ → List ℕ
  rows i = row_of (entry_in r.lines i)

  parties_apart : (i : ℕ) → party_place i + length (parties i) ≤ party_place (suc i)
  parties_apart i = omega (arith, party_long (party_at r i))

  pairs_apart : (i : ℕ) → pair_place i + length (pairs i) ≤ pair_place (suc i)
  pairs_apart i = omega (arith, written_long r.settings.cells i (get_or r.pairs i fresh_pair))

  slots_apart : (i : ℕ) → slot_place i + length (slots i) ≤ slot_place (suc i)
  slots_apart i = omega (arith, slot_long (held_at r i))

  rows_apart : (i : ℕ) → entry_place i + length (rows i) ≤ entry_place (suc i)
  rows_apart i = omega (arith, row_length (entry_in r.lines i))

  long_0 : length (head_of r ws) ≡ word_count
  unfolding head_of
  long_0 = length-sets ws 0 head ∙ l

  long_1 : length (parties_put r (head_of r ws)) ≡ word_count
  unfolding parties_put
  long_1 = first_long r.settings.clients party_place parties (head_of r ws) ∙ long_0

  long_2 : length (pairs_put r (parties_put r (head_of r ws))) ≡ word_count
  unfolding pairs_put
  long_2 = first_long (cell_limit * r.settings.replicas) pair_place pairs (parties_put r (head_of r ws)) ∙ long_1

  long_3 : length (wire_put r (pairs_put r (parties_put r (head_of r ws)))) ≡ word_count
  unfolding wire_put
  long_3 = first_long slot_limit slot_place slots (pairs_put r (parties_put r (head_of r ws))) ∙ long_2

  before_rows : (j : ℕ) → j < entry_place 0 → word (written_of r ws) j ≡ word (wire_put r (pairs_put r (parties_put r (head_of r ws)))) j
  unfolding written_of record_put
  before_rows j h = parts_below entry_place rows rows_apart r.count (wire_put r (pairs_put r (parties_put r (head_of r ws)))) j (omega arith)

  before_slots : (j : ℕ) → j < slot_place 0 → word (written_of r ws) j ≡ word (pairs_put r (parties_put r (head_of r ws))) j
  unfolding wire_put
  before_slots j h = before_rows j (omega arith) ∙ parts_below slot_place slots slots_apart slot_limit (pairs_put r (parties_put r (head_of r ws))) j (omega arith)

  before_pairs : (j : ℕ) → j < pair_place 0 → word (written_of r ws) j ≡ word (parties_put r (head_of r ws)) j
  unfolding pairs_put
  before_pairs j h =
      before_slots j (omega arith) ∙ parts_below pair_place pairs pairs_apart (cell_limit * r.settings.replicas) (parties_put r (head_of r ws)) j (omega arith)

  pub head_stands : Stands (written_of r ws) 0 head
  unfolding parties_put head_of
  head_stands o h =
      before_pairs (0 + o) (omega arith) ∙ parts_below party_place parties parties_apart r.settings.clients (head_of r ws) (0 + o) (omega arith)
      ∙ sets_stand head ws 0 (omega (arith, l)) o h

  pub party_stands : (i : ℕ) → i < r.settings.clients → Stands (written_of r ws) (party_place i) (parties i)
  unfolding parties_put
  party_stands i h o k =
      before_pairs (party_place i + o) (omega (arith, party_long (party_at r i), sound.settings.clients))
      ∙ parts_stand party_place parties parties_apart r.settings.clients i (head_of r ws) h (omega (arith, long_0, sound.settings.clients)) o k

  pub pair_stands : (i : ℕ) → i < cell_limit * r.settings.replicas → Stands (written_of r ws) (pair_place i) (pairs i)
  unfolding pairs_put
  pair_stands i h o k =
      before_slots (pair_place i + o) (omega (arith, written_long r.settings.cells i (get_or r.pairs i fresh_pair), sound.settings.replicas))
      ∙ parts_stand pair_place pairs pairs_apart (cell_limit * r.settings.replicas) i (parties_put r (head_of r ws)) h (omega (arith, long_1, sound.settings.replicas)) o k

  pub slot_stands : (i : ℕ) → i < slot_limit → Stands (written_of r ws) (slot_place i) (slots i)
  unfolding wire_put
  slot_stands i h o k =
      before_rows (slot_place i + o) (omega (arith, slot_long (held_at r i)))
      ∙ parts_stand slot_place slots slots_apart slot_limit i (pairs_put r (parties_put r (head_of r ws))) h (omega (arith, long_2)) o k

  pub row_stands : (i : ℕ) → i < r.count → Stands (written_of r ws) (entry_place i) (rows i)
  unfolding written_of record_put
  row_stands i h = parts_stand entry_place rows rows_apart r.count i (wire_put r (pairs_put r (parties_put r (head_of r ws)))) h (omega (arith, long_3, sound.entries))

-- ---- and so they are read again

module _ (r : Rack) (ws : List ℕ) (s : sound_of r ≡ true) (f : Sayable r) (l : length ws ≡ word_count) where
  again_power : word (written_of r ws) 3 ≡ r.power
  again_power = head_stands r ws s l 3 (omega arith)

  again_settings : (rack_of (written_of r ws)).settings ≡ r.settings
  unfolding rack_of settings_in byte_of
  again_settings =
      let z = (sound_of_lem r s).settings in
      let a : word (written_of r ws) 0 ≡ r.settings.replicas = head_stands r ws s l 0 (omega arith) in
      let b : word (written_of r ws) 1 ≡ r.settings.clients = head_stands r ws s l 1 (omega arith) in
      let c : word (written_of r ws) 2 ≡ r.settings.cells = head_stands r ws s l 2 (omega arith) in
      rw (
        a,
        b,
        c,
        again_power,
        lt-ltb r.power power_limit f.power,
        lt-ltb r.settings.replicas byte_limit (omega (arith, z.replicas)),
        lt-ltb r.settings.clients byte_limit (omega (arith, z.clients)),
        lt-ltb r.settings.cells byte_limit (omega (arith, z.cells)),
      )

  again_count : word (written_of r ws) 4 ≡ r.count
  again_count = head_stands r ws s l 4 (omega arith)

  count_few : r.count ≤ entry_limit
  count_few = omega (arith, (sound_of_lem r s).entries)

  again_counted : entry_count (written_of r ws) ≡ r.count
  unfolding entry_count
  again_counted = omega (arith, again_count, count_few)

  rows_known : all_below (entry_count (written_of r ws)) (λ i. line_known (written_of r ws) (entry_place i)) ≡ true
  rows_known = all_of (entry_count (written_of r ws)) (λ i. line_known (written_of r ws) (entry_place i))
      (λ i h. (let k : i < r.count = omega (arith, again_counted) in line_known_lem (written_of r ws) (entry_place i) (entry_in r.lines i) (f.entries i k) (row_stands r ws s l i k)))

  count_again : count_in (written_of r ws) ≡ r.count
  unfolding count_in
  count_again = rw (rows_known, again_count, le-ltb entry_limit r.count count_few)

  line_at : (i : ℕ) → i < r.count → entry_in (rack_of (written_of r ws)).lines i ≡ entry_in r.lines i
  unfolding rack_of lines_in
  line_at i h =
      let none : Line = record { entry = ReadAsked (record { 0 = 0 }) (record { 0 = 0 }) } in
      let g : (j : ℕ) → Line = λ j. line_in (written_of r ws) (entry_place j) in
      let c : i < entry_count (written_of r ws) = omega (arith, again_counted) in
      let a = get_or-append (firsts (entry_count (written_of r ws)) g) (drop (entry_count (written_of r ws)) (replicate entry_limit blank)) none i
      (omega (arith, firsts_long (entry_count (written_of r ws)) g)) in
      ap (λ (x : Line). x.entry) (a ∙ firsts_at (entry_count (written_of r ws)) i g none c
      ∙ line_again (written_of r ws) (entry_place i) (entry_in r.lines i) (f.entries i h) (row_stands r ws s l i h))

  party_at_lem : (i : ℕ) → i < r.settings.clients → party_at (rack_of (written_of r ws)) i ≡ party_at r i
  unfolding rack_of
  party_at_lem i h =
      let q = sound_of_lem r s in
      let w = q.parties i h in
      firsts_at client_limit i (λ j. party_in (written_of r ws) (party_place j)) idle (omega (arith, q.settings.clients))
      ∙ party_again (written_of r ws) (party_place i) (party_at r i) (f.ops i h) (work_small_lem r.settings (party_at r i).work q.settings w)
      (sound_as_told r.settings (party_at r i).work w) (party_stands r ws s l i h)

  pair_at_lem : (k x : ℕ) → k < r.settings.replicas → x < r.settings.cells → pair_at (rack_of (written_of r ws)) k x ≡ pair_at r k x
  unfolding rack_of pair_written
  pair_at_lem k x hk hx =
      let z = (sound_of_lem r s).settings in
      let i : ℕ = place_of k x in
      let m : place_of k x % cell_limit ≡ x = omega (arith, z.cells) in
      let t : ltb (i % cell_limit) r.settings.cells ≡ true = rw m (lt-ltb x r.settings.cells hx) in
      let p : pair_written r.settings.cells i (pair_at r k x) ≡ pair_words (pair_at r k x) = rw t in
      let q : Stands (written_of r ws) (pair_place i) (pair_words (pair_at r k x)) = rw (← p) (pair_stands r ws s l i (omega (arith, z.cells))) in
      firsts_at pair_limit i (λ j. pair_in (written_of r ws) (pair_place j)) fresh_pair (omega (arith, z.replicas, z.cells))
      ∙ pair_again (written_of r ws) (pair_place i) (pair_at r k x) (rank_small r.settings (pair_at r k x) z ((sound_of_lem r s).pairs k x hk hx)) q

  slot_at : (i : ℕ) → i < slot_limit → held_at (rack_of (written_of r ws)) i ≡ held_at r i
  unfolding rack_of slot_in
  slot_at i h =
      ap (λ (x : Slot). x.held) (firsts_at slot_limit i (λ j. slot_in (written_of r ws) (slot_place j)) empty h)
      ∙ slot_again (written_of r ws) (slot_place i) (held_at r i)
      (slot_small r.settings (held_at r i) (sound_of_lem r s).settings ((sound_of_lem r s).slots i h) (f.tags i h)) (slot_stands r ws s l i h)

  power_again : (rack_of (written_of r ws)).power ≡ r.power
  unfolding rack_of power_of
  power_again = rw (again_power, lt-ltb r.power power_limit f.power)

  counted : (rack_of (written_of r ws)).count ≡ r.count
  unfolding rack_of
  counted = count_again

  pub written_again : Again r (rack_of (written_of r ws))
  written_again = record { settings = again_settings; power = power_again; count = counted; parties = party_at_lem; pairs = pair_at_lem; slots = slot_at; entries = line_at }
