-- What holds of w words that say which of 64 w slots are free: the lowest free slot is found, taken and given back, and the free ones are counted.
use Rattle.std.specs.Prelude.{ℕ, ◌+◌, ◌-◌, ◌*◌, ◌/◌, ◌%◌, ◌^◌, ◌≤◌, ◌<◌, ◌≡◌, refl, Bool, true, false, List, length, get_or, set, eqb}
use Rattle.std.proofs.Common.{ap, sym, ◌∙◌, arith, length-set, get_or-set_same, get_or-set_other, ext_get_or, eqb-true}
use Rattle.std.specs.Int.Bits.{bit_or}
use Rattle.std.specs.Int.Count.{ones, count_trailing_zeros}
use Rattle.std.proofs.lemmas.Bool.{eqb-false}
use Rattle.slots.specs.Free.{word_bits, first_from, count_from, taken_at, given_at}
use Rattle.slots.specs.Words.{bits_from, MapsIn, bit_at, free_in}
use Rattle.slots.specs.laws.FreeLaws.{first_free_lem, first_count, count_cat, taken_else, taken_fills, given_here, given_else}
use Rattle.slots.specs.laws.Bits.{trailing, ones_bits, bits_count, first_here, first_there, bits_same, bits_filled, bits_freed, bits_of}

-- ---- which words

-- words that are tied to some slots are tied to all that are free alike
pub tied_same : (w : ℕ) (f g : ℕ → Bool) (ws : List ℕ) → MapsIn w f ws → ((k : ℕ) → k < word_bits * w → g k ≡ f k) → MapsIn w g ws
tied_same w f g ws t h =
    record { size = t.size; words = λ j l. t.words j l ∙ sym (bits_same word_bits (word_bits * j) f g (λ k a b. h k (omega arith))) }

-- no other words are tied to the same slots
pub tied_only : (w : ℕ) (f : ℕ → Bool) (ws vs : List ℕ) → MapsIn w f ws → MapsIn w f vs → ws ≡ vs
tied_only w f ws vs t u = ext_get_or 0 ws vs (t.size ∙ sym u.size) (λ i h. t.words i (omega (arith, t.size)) ∙ sym (u.words i (omega (arith, t.size))))

-- any words of 64 bits are tied to some slots
pub tied_some : (w : ℕ) (ws : List ℕ) → length ws ≡ w → ((j : ℕ) → j < w → get_or ws j 0 < 2 ^ word_bits) → MapsIn w (free_in ws) ws
unfolding free_in
tied_some w ws e h = record { size = e; words = λ j l. sym (bits_of word_bits (word_bits * j) (get_or ws j 0) (free_in ws) (h j l) (at j)) }
  where
    at : (j k : ℕ) → k < word_bits → free_in ws (word_bits * j + k) ≡ bit_at (get_or ws j 0) k
    at j k l =
        let q : (word_bits * j + k) / word_bits ≡ j = omega arith in
        let r : (word_bits * j + k) % word_bits ≡ k = omega arith in
        rw (q, r)

-- ---- one word changed

-- word j speaks anew of its slots, and the others are as they were
tied_set : (w : ℕ) (f g : ℕ → Bool) (ws : List ℕ) (j y : ℕ) → MapsIn w f ws → j < w → y ≡ bits_from word_bits (word_bits * j) g
    → ((i : ℕ) → (i ≡ j → ⊥) → bits_from word_bits (word_bits * i) g ≡ bits_from word_bits (word_bits * i) f) → MapsIn w g (set ws j y)
tied_set w f g ws j y t h e d = record { size = length-set ws j y ∙ t.size; words = λ i l. pick i l (eqb i j) refl }
  where
    pick : (i : ℕ) → i < w → (b : Bool) → eqb i j ≡ b → get_or (set ws j y) i 0 ≡ bits_from word_bits (word_bits * i) g
    pick i l true q = let p : i ≡ j = eqb-true i j q in rw p (get_or-set_same ws j y 0 (omega (arith, t.size)) ∙ e)
    pick i l false q = get_or-set_other ws j i y 0 (eqb-false i j q) ∙ t.words i l ∙ sym (d i (eqb-false i j q))

-- a free slot is taken: its bit is taken away
pub tied_taken : (w : ℕ) (f : ℕ → Bool) (ws : List ℕ) (j k : ℕ) → MapsIn w f ws → j < w → k < word_bits → f (word_bits * j + k) ≡ true
    → MapsIn w (taken_at f (word_bits * j + k)) (set ws j (get_or ws j 0 - 2 ^ k))
tied_taken w f ws j k t h l e =
    tied_set w f (taken_at f (word_bits * j + k)) ws j (get_or ws j 0 - 2 ^ k) t h
    (omega (arith, t.words j h, bits_filled word_bits (word_bits * j) k f (taken_at f (word_bits * j + k)) l (taken_fills f (word_bits * j + k) e)))
    (λ i n. bits_same word_bits (word_bits * i) f (taken_at f (word_bits * j + k)) (λ p a b. taken_else f (word_bits * j + k) p (λ q. n (omega arith))))

-- a slot is given back: its bit is set
pub tied_given : (w : ℕ) (f : ℕ → Bool) (ws : List ℕ) (j k : ℕ) → MapsIn w f ws → j < w → k < word_bits
    → MapsIn w (given_at f (word_bits * j + k)) (set ws j (bit_or (get_or ws j 0) (2 ^ k)))
tied_given w f ws j k t h l =
    tied_set w f (given_at f (word_bits * j + k)) ws j (bit_or (get_or ws j 0) (2 ^ k)) t h
    (ap (λ (x : ℕ). bit_or x (2 ^ k)) (t.words j h)
    ∙ bits_freed word_bits (word_bits * j) k f (given_at f (word_bits * j + k)) l (given_here f (word_bits * j + k)) (given_else f (word_bits * j + k)))
    (λ i n. bits_same word_bits (word_bits * i) f (given_at f (word_bits * j + k)) (λ p a b. given_else f (word_bits * j + k) p (λ q. n (omega arith))))

-- a slot past the end is in no word
pub taken_past : (w : ℕ) (f : ℕ → Bool) (ws : List ℕ) (i : ℕ) → word_bits * w ≤ i → MapsIn w f ws → MapsIn w (taken_at f i) ws
taken_past w f ws i h t = tied_same w f (taken_at f i) ws t (λ k l. taken_else f i k (λ e. omega arith))

pub given_past : (w : ℕ) (f : ℕ → Bool) (ws : List ℕ) (i : ℕ) → word_bits * w ≤ i → MapsIn w f ws → MapsIn w (given_at f i) ws
given_past w f ws i h t = tied_same w f (given_at f i) ws t (λ k l. given_else f i k (λ e. omega arith))

-- ---- word after word

-- no slot of the first j words is free
pub record Passed (w : ℕ) (f : ℕ → Bool) (j : ℕ) : Type 0 where
  pub within : j ≤ w
  pub left : first_from (word_bits * w) 0 f ≡ first_from (word_bits * w - word_bits * j) (word_bits * j) f

pub pass_none : (w : ℕ) (f : ℕ → Bool) → Passed w f 0
pass_none w f =
    let e : word_bits * w ≡ word_bits * w - word_bits * 0 = omega arith in
    record { within = omega arith; left = ap (λ (n : ℕ). first_from n 0 f) e }

pub pass_one : (w : ℕ) (f : ℕ → Bool) (ws : List ℕ) (j : ℕ) → MapsIn w f ws → Passed w f j → j < w → get_or ws j 0 ≡ 0 → Passed w f (j + 1)
pass_one w f ws j t p h z =
    let e : word_bits * w - word_bits * j ≡ word_bits + (word_bits * w - word_bits * (j + 1)) = omega arith in
    let d : word_bits * j + word_bits ≡ word_bits * (j + 1) = omega arith in
    let q : bits_from word_bits (word_bits * j) f ≡ 0 = sym (t.words j h) ∙ z in
    record {
      within = omega arith;
      left = p.left ∙ ap (λ (n : ℕ). first_from n (word_bits * j) f) e ∙ first_there word_bits (word_bits * w - word_bits * (j + 1)) (word_bits * j) f q
          ∙ ap (λ (b : ℕ). first_from (word_bits * w - word_bits * (j + 1)) b f) d;
    }

-- no word has a slot that is free
pub pass_all : (w : ℕ) (f : ℕ → Bool) (j : ℕ) → Passed w f j → w ≤ j → first_from (word_bits * w) 0 f ≡ word_bits * w
unfolding first_from
pass_all w f j p h =
    let e : word_bits * w - word_bits * j ≡ 0 = omega arith in
    let d : word_bits * j ≡ word_bits * w = omega (arith, p.within) in
    p.left ∙ ap (λ (n : ℕ). first_from n (word_bits * j) f) e ∙ d

-- word j is the first that is not 0, and bit k its lowest
pub record Here (w : ℕ) (f : ℕ → Bool) (j k : ℕ) : Type 0 where
  pub first : word_bits * j + k ≡ first_from (word_bits * w) 0 f
  pub small : k < word_bits
  pub free : f (word_bits * j + k) ≡ true

pub here_of : (w : ℕ) (f : ℕ → Bool) (ws : List ℕ) (j : ℕ) → MapsIn w f ws → Passed w f j → j < w → (get_or ws j 0 ≡ 0 → ⊥)
    → Here w f j (count_trailing_zeros word_bits (get_or ws j 0))
here_of w f ws j t p h n =
    let v : get_or ws j 0 ≡ bits_from word_bits (word_bits * j) f = t.words j h in
    let lo : first_from word_bits (word_bits * j) f < word_bits * j + word_bits = first_count word_bits (word_bits * j) f (bits_count word_bits (word_bits * j) f (λ z. n (v ∙ z))) in
    let tr : word_bits * j + count_trailing_zeros word_bits (get_or ws j 0) ≡ first_from word_bits (word_bits * j) f = rw v (trailing word_bits (word_bits * j) f) in
    let e : word_bits * w - word_bits * j ≡ word_bits + (word_bits * w - word_bits * (j + 1)) = omega arith in
    record {
      first = tr ∙ sym (p.left ∙ ap (λ (n : ℕ). first_from n (word_bits * j) f) e ∙ first_here word_bits (word_bits * w - word_bits * (j + 1)) (word_bits * j) f lo);
      small = omega arith;
      free = ap f tr ∙ first_free_lem word_bits (word_bits * j) f lo;
    }

-- the free slots of one word more
pub count_word : (w : ℕ) (f : ℕ → Bool) (ws : List ℕ) (j : ℕ) → MapsIn w f ws → j < w → count_from (word_bits * (j + 1)) 0 f ≡ count_from (word_bits * j) 0 f + ones (get_or ws j 0)
count_word w f ws j t h =
    let e : word_bits * (j + 1) ≡ word_bits * j + word_bits = omega arith in
    let z : 0 + word_bits * j ≡ word_bits * j = omega arith in
    let o : ones (get_or ws j 0) ≡ count_from word_bits (0 + word_bits * j) f = ap ones (t.words j h) ∙ ones_bits word_bits (word_bits * j) f
    ∙ ap (λ (b : ℕ). count_from word_bits b f) (sym z) in
    rw e (omega (arith, count_cat (word_bits * j) word_bits 0 f))
