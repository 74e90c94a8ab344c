-- What the walks over the words need, at the wire's number of words.
use Prim.Native.Nat.{ℕ, zero, suc, ◌+◌, ◌-◌, ◌*◌, ◌/◌, ◌%◌, ◌^◌, ◌≤◌, ◌<◌}
use mathlib.Core.Path.{◌≡◌, refl, sym, ap, ◌∙◌}
use mathlib.Core.Bool.{Bool, true, false, cond}
use mathlib.Core.List.{List}
use native.Mathlib.Omega.{arith}
use native.Mathlib.Nat.{one-mul}
use lib.ListN.{length, get_or, set, take}
use lib.Bits.{bit_or}
use lib.Dec.{ltb}
use lib.Count.{ones, ones-le, count_trailing_zeros}
use lib.Pow.{shl_exact}
use Rattle.std.specs.Prelude.{Some, None}
use Rattle.std.specs.List.{position, position_or_len, sum_by}
use Rattle.std.proofs.lemmas.Bool.{ltb-true, ltb-false}
use Rattle.std.proofs.lemmas.List.{take_all}
use Rattle.std.proofs.lemmas.List.Elements.{All-from_get_or}
use Rattle.std.proofs.lemmas.List.Quantifiers.{position-Some}
use Rattle.std.proofs.lemmas.List.Sums.{fails_before_first, sum_by_more, sum_by-le}
use Rattle.slots.specs.Free.{word_bits, map_words, slot_count, first_free, count_from, count_free, given_at, marked_at}
use Rattle.slots.specs.Words.{Maps, Took}
use Rattle.slots.specs.laws.Finding.{Passed, Here, here_of, pass_none, pass_one, pass_all, tied_taken, tied_given, taken_past, count_word}

pub one_shl : (k : ℕ) → k < word_bits → 1 * 2 ^ k % 2 ^ word_bits ≡ 2 ^ k
one_shl k h = shl_exact {a = 1} 1 k word_bits (omega arith) (omega arith) ∙ one-mul _

-- words that are 0 have no slot that is free
passed : (f : ℕ → Bool) (ws : List ℕ) → Maps f ws → (j : ℕ) → j ≤ map_words → ((i : ℕ) → i < j → ltb 0 (get_or ws i 0) ≡ false) → Passed map_words f j
passed f ws t zero h z = pass_none map_words f
passed f ws t (suc j) h z =
    let below : Passed map_words f j = passed f ws t j (omega arith) (λ i l. z i (omega arith)) in
    let here : get_or ws j 0 ≡ 0 = omega (arith, ltb-false 0 (get_or ws j 0) (z j (omega arith))) in
    let next : j + 1 ≡ suc j = omega arith in
    rw next at (pass_one map_words f ws j t below (omega arith) here)

-- word j is the first that is not 0, and bit k its lowest
module _ (f : ℕ → Bool) (ws : List ℕ) (j k : ℕ) (t : Maps f ws) (p : position (ltb 0) ws ≡ Some j) (e : k ≡ count_trailing_zeros word_bits (get_or ws j 0)) where
  within : j < map_words
  within = omega (arith, t.size, (position-Some (ltb 0) ws j 0 p).0)

  here : Here map_words f j k
  here =
      let w = position-Some (ltb 0) ws j 0 p in
      let some : 0 < get_or ws j 0 = ltb-true 0 (get_or ws j 0) w.1 in
      rw e (here_of map_words f ws j t (passed f ws t j (omega (arith, within)) w.2) within (λ z. omega arith))

  pub found_here : word_bits * j + k ≡ first_free f
  found_here = here.first

  pub took_here : (y : ℕ) → y ≡ get_or ws j 0 - 2 ^ count_trailing_zeros word_bits (get_or ws j 0) → Took f (set ws j y) (word_bits * j + k)
  took_here y q = record { slot = here.first; left = rw (q, ← e) (tied_taken map_words f ws j k t within here.small here.free) }

-- every word is 0
none_set : (ws : List ℕ) → position (ltb 0) ws ≡ None → (i : ℕ) → i < length ws → ltb 0 (get_or ws i 0) ≡ false
none_set ws p i h = go (ltb (position_or_len (ltb 0) ws) (length ws)) refl p
  where
    go : (b : Bool) → ltb (position_or_len (ltb 0) ws) (length ws) ≡ b → cond b (Some (position_or_len (ltb 0) ws)) None ≡ None → ltb 0 (get_or ws i 0) ≡ false
    go true q r = cc
    go false q r = fails_before_first (ltb 0) ws i 0 (omega (arith, ltb-false (position_or_len (ltb 0) ws) (length ws) q))

module _ (f : ℕ → Bool) (ws : List ℕ) (t : Maps f ws) (p : position (ltb 0) ws ≡ None) where
  pub found_none : slot_count ≡ first_free f
  found_none = sym (pass_all map_words f map_words (passed f ws t map_words (omega arith) (λ i h. none_set ws p i (omega (arith, t.size)))) (omega arith))

  pub took_nothing : Took f ws slot_count
  took_nothing = record { slot = found_none; left = taken_past map_words f ws slot_count (omega arith) t }

pub gave : (f : ℕ → Bool) (ws : List ℕ) (i : ℕ) → i < slot_count → Maps f ws
    → Maps (given_at f i) (set ws (i / word_bits) (bit_or (get_or ws (i / word_bits) 0) (1 * 2 ^ (i % word_bits) % 2 ^ word_bits)))
gave f ws i h t =
    let q : word_bits * (i / word_bits) + i % word_bits ≡ i = omega arith in
    let g = tied_given map_words f ws (i / word_bits) (i % word_bits) t (omega arith) (omega arith) in
    rw (one_shl (i % word_bits) (omega arith)) (rw q at g)

-- no word has more ones than bits
pub ones_fit : (ws : List ℕ) → length ws ≡ map_words → ((i : ℕ) → get_or ws i 0 < 2 ^ word_bits) → sum_by ones ws ≤ slot_count
ones_fit ws e h =
    rw e at (sum_by-le ones word_bits ws (All-from_get_or (λ x. ones x ≤ word_bits) ws 0 (λ i l. ones-le word_bits (get_or ws i 0) (h i))))

-- the words' ones are the free slots
counted_to : (f : ℕ → Bool) (ws : List ℕ) → Maps f ws → (j : ℕ) → j ≤ map_words → sum_by ones (take j ws) ≡ count_from (word_bits * j) 0 f
unfolding count_from
counted_to f ws t zero h = refl
counted_to f ws t (suc j) h =
    let next : j + 1 ≡ suc j = omega arith in
    rw (← next) (sum_by_more ones ws j 0 (omega (arith, t.size)) ∙ ap (λ n. n + ones (get_or ws j 0)) (counted_to f ws t j (omega arith)) ∙ sym (count_word map_words f ws j t (omega arith)))

pub counted : (f : ℕ → Bool) (ws : List ℕ) → Maps f ws → sum_by ones ws ≡ count_free f
counted f ws t = let e : take map_words ws ≡ ws = take_all map_words ws (omega (arith, t.size)) in rw e at (counted_to f ws t map_words (omega arith))

-- a slot marked
pub marked_yes : (f : ℕ → Bool) (ws : List ℕ) (i : ℕ) (clear : Bool) → clear ≡ true → Maps (given_at f i) ws → Maps (marked_at clear f i) ws
marked_yes f ws i true e t = t
marked_yes f ws i false e t = absurd (let z : ◌≡◌ {A = ℕ} 0 1 = cc in omega arith)

pub marked_no : (f : ℕ → Bool) (ws : List ℕ) (i : ℕ) (clear : Bool) → clear ≡ false → Maps f ws → Maps (marked_at clear f i) ws
marked_no f ws i true e t = absurd (let z : ◌≡◌ {A = ℕ} 0 1 = cc in omega arith)
marked_no f ws i false e t = t
