-- The sound rack of any words, and the fresh rack where every word is 0, can be written into these words and read again.
use Prim.Native.Nat.{ℕ, zero, suc, ◌+◌, ◌≤◌, ◌<◌}
use Rattle.std.specs.Prelude.{◌≡◌, refl, Bool, false, cond, not, ◌&&◌, ◌||◌, List, ltb, eqb, replicate, drop, None}
use Rattle.std.proofs.Common.{sym, ◌∙◌, arith, pow_mono}
use Rattle.std.proofs.Math.Path.{subst}
use Rattle.std.proofs.Math.Bool.{true}
use Rattle.std.proofs.Math.ListN.{get_or, get_or-append, get_or-eq_default}
use Rattle.std.proofs.lemmas.List.{length-replicate}
use borrow.Author.Tests.{ltb-true, ltb-false, le-ltb, lt-ltb, eqb-true}
use Rattle.number.specs.Value.{signed_of}
use Rattle.record.specs.declared.Entry.TheVariants.{ReadAsked, WriteAsked, Told, Done}
use Rattle.record.specs.Entry.{client_limit, cell_limit}
use Rattle.record.specs.Record.{entry_limit}
use Rattle.rows.specs.Row.{entry_of}
use Rattle.quorum.specs.Sets.{set_bits, every_replica}
use Rattle.quorum.proofs.theorems.SetLaws.{every_below}
use Rattle.stamps.specs.Stamp.{fresh_pair}
use Rattle.method.specs.declared.Party.{Party}
use Rattle.method.specs.laws.Tests.{and_left, and_right}
use Rattle.rack.specs.declared.Line.{Line}
use Rattle.rack.specs.declared.Slot.{Slot}
use Rattle.rack.specs.declared.Rack.{Rack}
use Rattle.rack.specs.declared.Made.{Made}
use Rattle.rack.specs.Places.{of_sizes, slot_limit, replica_limit, pair_limit, empty, blank, idle}
use Rattle.rack.specs.Sound.{all_below, settings_fit, sound_of}
use Rattle.rack.specs.Run.{fresh_rack, made_of}
use Rattle.rack.specs.laws.Tests.{all_of}
use Rattle.layout.specs.Layout.{byte_limit, stray_number, op_limit, power_limit, party_place, pair_place, slot_place, entry_place, word, firsts}
use Rattle.layout.specs.Reading.{byte_of, pair_in, work_in, party_known, stray_party, party_in, message_known, stray_held, full_in, held_of, slot_in, entry_known}
use Rattle.layout.specs.Reading.{line_known, line_in, lines_in, entry_count, count_in, power_of, rack_of}
use Rattle.layout.specs.Writing.{entry_in}
use Rattle.layout.specs.laws.Firsts.{firsts_long, firsts_at}
use Rattle.layout.specs.State.{State}
use Rattle.layout.proofs.theorems.StateLaws.{state_of}
use Rattle.layout.specs.laws.Trip.{entry_fits}
use Rattle.layout.specs.laws.Small.{TagSmall}
use Rattle.lent.specs.laws.Whole.{Beyond, lines_in_long, lines_in_beyond}
use Rattle.lent.specs.laws.Stays.{Writable}

-- ---- what is read from words is small

-- what holds of each element and of the default holds at every place
firsts_each : {A : Type 0} (P : A → Type 0) (n : ℕ) (f : ℕ → A) (d : A) → P d → ((i : ℕ) → P (f i)) → (i : ℕ) → P (get_or (firsts n f) i d)
firsts_each P n f d hd hf i = go (ltb i n) refl
  where
    go : (t : Bool) → ltb i n ≡ t → P (get_or (firsts n f) i d)
    go true e = rw (firsts_at n i f d (ltb-true i n e)) (hf i)
    go false e = rw (get_or-eq_default (firsts n f) d {n = i} (omega (arith, firsts_long n f, ltb-false i n e))) hd

byte_below : (w : ℕ) → byte_of w < byte_limit
unfolding byte_of
byte_below w = go (ltb w byte_limit) refl
  where
    go : (t : Bool) → ltb w byte_limit ≡ t → cond t w stray_number < byte_limit
    go true e = ltb-true w byte_limit e
    go false e = omega arith

power_below : (w : ℕ) → power_of w < power_limit
unfolding power_of
power_below w = go (ltb w power_limit) refl
  where
    go : (t : Bool) → ltb w power_limit ≡ t → cond t w 0 < power_limit
    go true e = ltb-true w power_limit e
    go false e = omega arith

party_op : (ws : List ℕ) (at : ℕ) → (party_in ws at).op < op_limit
unfolding party_in party_known
party_op ws at = go (party_known (word ws at) (word ws (at + 1)) (word ws (at + 2)) (word ws (at + 4))) refl
  where
    go : (t : Bool) → party_known (word ws at) (word ws (at + 1)) (word ws (at + 2)) (word ws (at + 4)) ≡ t
        → (cond {A = Party} t (record { stopped = eqb (word ws at) 1; op = word ws (at + 1); work = work_in ws (at + 2) }) stray_party).op < op_limit
    go true e = ltb-true _ _ (and_right (ltb (word ws at) 2) (ltb (word ws (at + 1)) op_limit) (and_left _ _ e))
    go false e = omega arith

held_op : (ws : List ℕ) (at : ℕ) → TagSmall (held_of ws at)
unfolding held_of full_in message_known
held_op ws at = go (eqb (word ws at) 0) (message_known (word ws at) (word ws (at + 1)) (word ws (at + 5))) refl
  where
    go : (t u : Bool) → message_known (word ws at) (word ws (at + 1)) (word ws (at + 5)) ≡ u → TagSmall (cond t None (cond u (full_in ws at) stray_held))
    go true u e = tt
    go false true e = ltb-true _ _ (and_right (ltb (word ws (at + 1)) 4) (ltb (word ws (at + 5)) op_limit) (and_right (eqb (word ws at) 1) _ e))
    go false false e = omega arith

-- ---- the entries of words that are a state

byte_least : (w n : ℕ) → n ≤ stray_number → w < n → byte_of w < n
unfolding byte_of
byte_least w n h l = rw (lt-ltb w byte_limit (omega arith)) l

entry_fits_lem : (kind client cell value : ℕ) → entry_known kind client cell ≡ true → entry_fits (entry_of kind (byte_of client) (byte_of cell) value)
unfolding entry_known entry_of
entry_fits_lem kind client cell value h = go (eqb kind 0) refl (eqb kind 1) refl (eqb kind 2)
  where
    rest : (ltb client client_limit && (not (ltb kind 2) || ltb cell cell_limit)) ≡ true
    rest = and_right (ltb kind 4) (ltb client client_limit && (not (ltb kind 2) || ltb cell cell_limit)) h

    who : byte_of client < client_limit
    who = byte_least client client_limit (omega arith) (ltb-true client client_limit (and_left (ltb client client_limit) (not (ltb kind 2) || ltb cell cell_limit) rest))

    where_to : kind < 2 → byte_of cell < cell_limit
    where_to k =
        let a : (not (ltb kind 2) || ltb cell cell_limit) ≡ true = and_right (ltb client client_limit) (not (ltb kind 2) || ltb cell cell_limit) rest in
        byte_least cell cell_limit (omega arith) (ltb-true cell cell_limit (rw (lt-ltb kind 2 k) at a))

    go : (a : Bool) → eqb kind 0 ≡ a → (b : Bool) → eqb kind 1 ≡ b → (c : Bool)
        → entry_fits (cond a (ReadAsked (record { 0 = byte_of client }) (record { 0 = byte_of cell }))
        (cond b (WriteAsked (record { 0 = byte_of client }) (record { 0 = byte_of cell }) (signed_of value))
        (cond c (Told (record { 0 = byte_of client }) (signed_of value))
        (Done (record { 0 = byte_of client })))))
    go true e b f c = (who, where_to (omega (arith, eqb-true kind 0 e)))
    go false e true f c = (who, where_to (omega (arith, eqb-true kind 1 f)))
    go false e false f true = who
    go false e false f false = who

-- ---- the rack of words

module _ (ws : List ℕ) (s : sound_of (rack_of ws) ≡ true) where
  state : State ws
  state = state_of ws s

  pub count_is : count_in ws ≡ word ws 4
  unfolding count_in entry_count
  count_is =
      let k : all_below (entry_count ws) (λ i. line_known ws (entry_place i)) ≡ true =
      all_of (entry_count ws) (λ i. line_known ws (entry_place i)) (λ i l. state.entries i (omega arith)) in
      rw (k, le-ltb entry_limit (word ws 4) state.count)

  looked_at : entry_count ws ≡ word ws 4
  unfolding entry_count
  looked_at = omega (arith, state.count)

  lines_fit : (i : ℕ) → i < count_in ws → entry_fits (entry_in (lines_in (entry_count ws) ws) i)
  unfolding lines_in line_in line_known
  lines_fit i h =
      let f : ℕ → Line = λ j. line_in ws (entry_place j) in
      let none : Line = record { entry = ReadAsked (record { 0 = 0 }) (record { 0 = 0 }) } in
      let k : i < word ws 4 = omega (arith, count_is) in
      let l : i < entry_count ws = omega (arith, looked_at) in
      let e : get_or (lines_in (entry_count ws) ws) i none ≡ f i =
      get_or-append (firsts (entry_count ws) f) (drop (entry_count ws) (replicate entry_limit blank)) none i (omega (arith, firsts_long (entry_count ws) f))
      ∙ firsts_at (entry_count ws) i f none l in
      subst (λ (x : Line). entry_fits x.entry) (sym e)
      (entry_fits_lem (word ws (entry_place i)) (word ws (entry_place i + 1)) (word ws (entry_place i + 2)) (word ws (entry_place i + 3)) (state.entries i k))

  read_beyond : Beyond ws (rack_of ws)
  unfolding rack_of
  read_beyond =
      record {
        parties_long = firsts_long client_limit (λ i. party_in ws (party_place i));
        pairs_long = firsts_long pair_limit (λ i. pair_in ws (pair_place i));
        wire_long = firsts_long slot_limit (λ i. slot_in ws (slot_place i));
        lines_long = lines_in_long (entry_count ws) ws (omega (arith, looked_at, state.count));
        parties = λ i h l. firsts_at client_limit i (λ j. party_in ws (party_place j)) idle l;
        pairs = λ i h l. firsts_at pair_limit i (λ j. pair_in ws (pair_place j)) fresh_pair h;
        lines = λ i h. lines_in_beyond (entry_count ws) ws i (omega (arith, looked_at, count_is));
      }

  pub read_writable : Writable ws (rack_of ws)
  unfolding rack_of slot_in
  read_writable =
      record {
        beyond = read_beyond;
        power = power_below (word ws 3);
        ops = firsts_each (λ (p : Party). p.op < op_limit) client_limit (λ j. party_in ws (party_place j)) idle (omega arith) (λ i. party_op ws (party_place i));
        messages = firsts_each (λ (x : Slot). TagSmall x.held) slot_limit (λ j. slot_in ws (slot_place j)) empty tt (λ i. held_op ws (slot_place i));
        entries = lines_fit;
      }

-- ---- a fresh rack, where every word is 0

zero_pair_lem : (ws : List ℕ) (at : ℕ) → ((j : ℕ) → word ws j ≡ 0) → pair_in ws at ≡ fresh_pair
unfolding pair_in byte_of signed_of
zero_pair_lem ws at h = rw (h at, h (at + 1), h (at + 2))

zero_party : (ws : List ℕ) (at : ℕ) → ((j : ℕ) → word ws j ≡ 0) → party_in ws at ≡ idle
unfolding party_in party_known work_in
zero_party ws at h = rw (h at, h (at + 1), h (at + 2))

-- one thing and nothing else, at every place
repeated : {A : Type 0} (n i : ℕ) (a : A) → get_or (replicate n a) i a ≡ a
repeated zero i a = refl
repeated (suc n) zero a = refl
repeated (suc n) (suc i) a = repeated n i a

every_small : (n : ℕ) → n ≤ replica_limit → every_replica n < power_limit
unfolding set_bits
every_small n h = let l : n ≤ replica_limit = h in omega (arith, every_below n (omega arith), pow_mono {i = n} {j = replica_limit} l)

pub fresh_writable : (ws : List ℕ) → ((j : ℕ) → word ws j ≡ 0) → (replicas clients cells : ℕ) → replicas ≤ replica_limit → Writable ws (fresh_rack (of_sizes replicas clients cells))
unfolding fresh_rack
fresh_writable ws h replicas clients cells n =
    record {
      beyond = record {
        parties_long = length-replicate client_limit idle;
        pairs_long = length-replicate pair_limit fresh_pair;
        wire_long = length-replicate slot_limit empty;
        lines_long = length-replicate entry_limit blank;
        parties = λ i l u. repeated client_limit i idle ∙ sym (zero_party ws (party_place i) h);
        pairs = λ i l u. repeated pair_limit i fresh_pair ∙ sym (zero_pair_lem ws (pair_place i) h);
        lines = λ i l. repeated entry_limit i blank;
      };
      power = every_small replicas n;
      ops = λ i. rw (repeated client_limit i idle) (omega arith);
      messages = λ i. rw (repeated slot_limit i empty) tt;
      entries = λ i l. absurd (omega arith);
    }

-- what holds of every fresh rack holds of what the maker gives
pub made_fresh : (P : Rack → Type 0) (replicas clients cells : ℕ)
    → (settings_fit (of_sizes replicas clients cells) ≡ true → P (fresh_rack (of_sizes replicas clients cells))) → P (fresh_rack (of_sizes 1 1 1))
    → P (made_of (of_sizes replicas clients cells)).rack
unfolding made_of
made_fresh P replicas clients cells h k = go (settings_fit (of_sizes replicas clients cells)) refl
  where
    go : (t : Bool) → settings_fit (of_sizes replicas clients cells) ≡ t
        → P (cond {A = Made} t (record { refusal = 0; rack = fresh_rack (of_sizes replicas clients cells) }) (record { refusal = 1; rack = fresh_rack (of_sizes 1 1 1) })).rack
    go true e = h e
    go false e = k
