-- A word's bits and the slots that they say are free, for any number of bits.
use Rattle.std.specs.Prelude.{ℕ, zero, suc, ◌+◌, ◌*◌, ◌/◌, ◌%◌, ◌^◌, ◌≤◌, ◌<◌, ◌≡◌, refl, Bool, true, false, cond, eqb}
use Rattle.std.proofs.Common.{ap, sym, ◌∙◌, arith, pow-suc, shr-shr, eqb-true}
use Rattle.std.specs.Int.Bits.{bit_or, or_step, or_zero_r}
use Rattle.std.specs.Int.Count.{ones, ones_step, count_trailing_zeros, under}
use Rattle.std.proofs.lemmas.Bool.{eqb-false}
use Rattle.slots.specs.Free.{digit, first_from, count_from}
use Rattle.slots.specs.Words.{bits_from, bit_at}
use Rattle.slots.specs.laws.FreeLaws.{Filled}

-- the zeros below the lowest bit that is set are the slots below the lowest free one
pub trailing : (n b : ℕ) (f : ℕ → Bool) → b + count_trailing_zeros n (bits_from n b f) ≡ first_from n b f
unfolding first_from bits_from count_trailing_zeros
trailing zero b f = omega arith
trailing (suc n) b f = go (f b) (trailing n (b + 1) f)
  where
    go : (t : Bool) → b + 1 + count_trailing_zeros n (bits_from n (b + 1) f) ≡ first_from n (b + 1) f
        → b + under ((digit t + 2 * bits_from n (b + 1) f) % 2) (count_trailing_zeros n ((digit t + 2 * bits_from n (b + 1) f) / 2)) ≡ cond t b (first_from n (b + 1) f)
    go true ih =
        let e : (1 + 2 * bits_from n (b + 1) f) % 2 ≡ 1 = omega arith in
        rw e (omega arith)
    go false ih =
        let e : (0 + 2 * bits_from n (b + 1) f) % 2 ≡ 0 = omega arith in
        let d : (0 + 2 * bits_from n (b + 1) f) / 2 ≡ bits_from n (b + 1) f = omega arith in
        rw (e, d) (omega arith)

-- the ones are the free slots
pub ones_bits : (n b : ℕ) (f : ℕ → Bool) → ones (bits_from n b f) ≡ count_from n b f
unfolding count_from bits_from ones
ones_bits zero b f = refl
ones_bits (suc n) b f = go (f b) (ones_bits n (b + 1) f)
  where
    go : (t : Bool) → ones (bits_from n (b + 1) f) ≡ count_from n (b + 1) f → ones (digit t + 2 * bits_from n (b + 1) f) ≡ digit t + count_from n (b + 1) f
    go true ih =
        let d : (1 + 2 * bits_from n (b + 1) f) / 2 ≡ bits_from n (b + 1) f = omega arith in
        omega (arith, ones_step (1 + 2 * bits_from n (b + 1) f), ap ones d)
    go false ih =
        let d : (0 + 2 * bits_from n (b + 1) f) / 2 ≡ bits_from n (b + 1) f = omega arith in
        omega (arith, ones_step (0 + 2 * bits_from n (b + 1) f), ap ones d)

pub bits_lt : (n b : ℕ) (f : ℕ → Bool) → bits_from n b f < 2 ^ n
unfolding bits_from
bits_lt zero b f = omega arith
bits_lt (suc n) b f = go (f b) (bits_lt n (b + 1) f)
  where
    go : (t : Bool) → bits_from n (b + 1) f < 2 ^ n → digit t + 2 * bits_from n (b + 1) f < 2 ^ suc n
    go true ih = omega (arith, pow-suc 2 n)
    go false ih = omega (arith, pow-suc 2 n)

-- where a bit is set a slot is free
pub bits_count : (n b : ℕ) (f : ℕ → Bool) → (bits_from n b f ≡ 0 → ⊥) → 0 < count_from n b f
unfolding bits_from count_from
bits_count zero b f h = absurd (h refl)
bits_count (suc n) b f h = go (f b) h (bits_count n (b + 1) f)
  where
    go : (t : Bool) → (digit t + 2 * bits_from n (b + 1) f ≡ 0 → ⊥) → ((bits_from n (b + 1) f ≡ 0 → ⊥) → 0 < count_from n (b + 1) f) → 0 < digit t + count_from n (b + 1) f
    go true h ih = omega arith
    go false h ih = let k : 0 < count_from n (b + 1) f = ih (λ e. h (omega arith)) in omega arith

-- the lowest of n + m slots is that of the first n, or of the others
pub first_here : (n m b : ℕ) (f : ℕ → Bool) → first_from n b f < b + n → first_from (n + m) b f ≡ first_from n b f
unfolding first_from
first_here zero m b f h = absurd (omega arith)
first_here (suc n) m b f h = let e : suc n + m ≡ suc (n + m) = omega arith in rw e (go (f b) h (first_here n m (b + 1) f))
  where
    go : (t : Bool) → cond t b (first_from n (b + 1) f) < b + suc n → (first_from n (b + 1) f < b + 1 + n → first_from (n + m) (b + 1) f ≡ first_from n (b + 1) f)
        → cond t b (first_from (n + m) (b + 1) f) ≡ cond t b (first_from n (b + 1) f)
    go true h ih = refl
    go false h ih = ih (omega arith)

pub first_there : (n m b : ℕ) (f : ℕ → Bool) → bits_from n b f ≡ 0 → first_from (n + m) b f ≡ first_from m (b + n) f
unfolding first_from bits_from
first_there zero m b f h = let e : 0 + m ≡ m = omega arith in let d : b + 0 ≡ b = omega arith in rw (e, d)
first_there (suc n) m b f h =
    let e : suc n + m ≡ suc (n + m) = omega arith in
    let d : b + suc n ≡ b + 1 + n = omega arith in
    rw (e, d) (go (f b) h (first_there n m (b + 1) f))
  where
    go : (t : Bool) → digit t + 2 * bits_from n (b + 1) f ≡ 0 → (bits_from n (b + 1) f ≡ 0 → first_from (n + m) (b + 1) f ≡ first_from m (b + 1 + n) f)
        → cond t b (first_from (n + m) (b + 1) f) ≡ first_from m (b + 1 + n) f
    go true h ih = absurd (omega arith)
    go false h ih = ih (omega arith)

-- a word speaks only of its own slots
pub bits_same : (n b : ℕ) (f g : ℕ → Bool) → ((j : ℕ) → b ≤ j → j < b + n → g j ≡ f j) → bits_from n b g ≡ bits_from n b f
unfolding bits_from
bits_same zero b f g h = refl
bits_same (suc n) b f g h = rw (h b (omega arith) (omega arith), bits_same n (b + 1) f g (λ j l u. h j (omega arith) (omega arith)))

-- one slot less is free: its bit is taken away
pub bits_filled : (n b k : ℕ) (f g : ℕ → Bool) → k < n → Filled f g (b + k) → bits_from n b g + 2 ^ k ≡ bits_from n b f
unfolding bits_from
bits_filled zero b k f g h d = absurd (omega arith)
bits_filled (suc n) b zero f g h d =
    let z : b + 0 ≡ b = omega arith in
    let s : bits_from n (b + 1) g ≡ bits_from n (b + 1) f = bits_same n (b + 1) f g (λ j l u. d.else j (λ e. omega arith)) in
    let p : f b ≡ true = ap f (sym z) ∙ d.was in
    let q : g b ≡ false = ap g (sym z) ∙ d.is in
    rw (p, q) (omega arith)
bits_filled (suc n) b (suc k) f g h d =
    let z : b + 1 + k ≡ b + suc k = omega arith in
    let d2 : Filled f g (b + 1 + k) = rw z d in
    let s : bits_from n (b + 1) g + 2 ^ k ≡ bits_from n (b + 1) f = bits_filled n (b + 1) k f g (omega arith) d2 in
    let p : g b ≡ f b = d.else b (λ e. omega arith) in
    rw p (omega (arith, pow-suc 2 k))

-- a slot is free, as it was or not: its bit is set
pub bits_freed : (n b k : ℕ) (f g : ℕ → Bool) → k < n → g (b + k) ≡ true → ((j : ℕ) → (j ≡ b + k → ⊥) → g j ≡ f j) → bit_or (bits_from n b f) (2 ^ k) ≡ bits_from n b g
unfolding bits_from
bits_freed zero b k f g h e d = absurd (omega arith)
bits_freed (suc n) b zero f g h e d =
    let z : b + 0 ≡ b = omega arith in
    let s : bits_from n (b + 1) g ≡ bits_from n (b + 1) f = bits_same n (b + 1) f g (λ j l u. d j (λ e. omega arith)) in
    let q : g b ≡ true = ap g (sym z) ∙ e in
    rw (q, s) (go (f b))
  where
    go : (t : Bool) → bit_or (digit t + 2 * bits_from n (b + 1) f) 1 ≡ 1 + 2 * bits_from n (b + 1) f
    go true =
        let x : (1 + 2 * bits_from n (b + 1) f) / 2 ≡ bits_from n (b + 1) f = omega arith in
        omega (arith, or_step (1 + 2 * bits_from n (b + 1) f) 1, or_zero_r ((1 + 2 * bits_from n (b + 1) f) / 2))
    go false = omega (arith, or_step (0 + 2 * bits_from n (b + 1) f) 1, or_zero_r ((0 + 2 * bits_from n (b + 1) f) / 2))
bits_freed (suc n) b (suc k) f g h e d =
    let z : b + 1 + k ≡ b + suc k = omega arith in
    let s : bit_or (bits_from n (b + 1) f) (2 ^ k) ≡ bits_from n (b + 1) g = bits_freed n (b + 1) k f g (omega arith) (rw z e) (λ j q. d j (λ r. q (omega arith))) in
    let p : g b ≡ f b = d b (λ r. omega arith) in
    rw p (go (f b) s)
  where
    go : (t : Bool) → bit_or (bits_from n (b + 1) f) (2 ^ k) ≡ bits_from n (b + 1) g → bit_or (digit t + 2 * bits_from n (b + 1) f) (2 ^ suc k) ≡ digit t + 2 * bits_from n (b + 1) g
    go true s =
        let x : (1 + 2 * bits_from n (b + 1) f) / 2 ≡ bits_from n (b + 1) f = omega arith in
        let y : 2 ^ suc k / 2 ≡ 2 ^ k = omega (arith, pow-suc 2 k) in
        let r : bit_or ((1 + 2 * bits_from n (b + 1) f) / 2) (2 ^ suc k / 2) ≡ bits_from n (b + 1) g = rw (x, y) s in
        omega (arith, or_step (1 + 2 * bits_from n (b + 1) f) (2 ^ suc k), pow-suc 2 k)
    go false s =
        let x : (0 + 2 * bits_from n (b + 1) f) / 2 ≡ bits_from n (b + 1) f = omega arith in
        let y : 2 ^ suc k / 2 ≡ 2 ^ k = omega (arith, pow-suc 2 k) in
        let r : bit_or ((0 + 2 * bits_from n (b + 1) f) / 2) (2 ^ suc k / 2) ≡ bits_from n (b + 1) g = rw (x, y) s in
        omega (arith, or_step (0 + 2 * bits_from n (b + 1) f) (2 ^ suc k), pow-suc 2 k)

bit_next : (x k : ℕ) → bit_at x (suc k) ≡ bit_at (x / 2) k
unfolding bit_at
bit_next x k =
    let e : suc k ≡ 1 + k = omega arith in
    ap (λ (n : ℕ). eqb (x / 2 ^ n % 2) 1) e ∙ ap (λ (y : ℕ). eqb (y % 2) 1) (sym (shr-shr x 1 k))

digit_low : (x : ℕ) → digit (bit_at x 0) ≡ x % 2
unfolding bit_at
digit_low x = let e : x / 2 ^ 0 ≡ x = omega arith in rw e (go (eqb (x % 2) 1) refl)
  where
    go : (t : Bool) → eqb (x % 2) 1 ≡ t → digit t ≡ x % 2
    go true q = omega (arith, eqb-true (x % 2) 1 q)
    go false q = omega (arith, eqb-false (x % 2) 1 q)

-- every number of n bits says of n slots which are free
pub bits_of : (n b x : ℕ) (f : ℕ → Bool) → x < 2 ^ n → ((k : ℕ) → k < n → f (b + k) ≡ bit_at x k) → bits_from n b f ≡ x
unfolding bits_from
bits_of zero b x f h d = omega arith
bits_of (suc n) b x f h d =
    let z : b + 0 ≡ b = omega arith in
    let q : f b ≡ bit_at x 0 = ap f (sym z) ∙ d 0 (omega arith) in
    let ih : bits_from n (b + 1) f ≡ x / 2 = bits_of n (b + 1) (x / 2) f (omega (arith, pow-suc 2 n)) (λ k l. next k l) in
    rw (q, ih, digit_low x) (omega arith)
  where
    next : (k : ℕ) → k < n → f (b + 1 + k) ≡ bit_at (x / 2) k
    next k l = let e : b + 1 + k ≡ b + suc k = omega arith in ap f e ∙ d (suc k) (omega arith) ∙ bit_next x k

-- a number that is not 0 has a bit that is set, and room to take it away
pub trailing_lt : (n x : ℕ) → x < 2 ^ n → 0 < x → count_trailing_zeros n x < n
unfolding count_trailing_zeros
trailing_lt zero x h l = absurd (omega arith)
trailing_lt (suc n) x h l = go (x % 2) refl (trailing_lt n (x / 2))
  where
    go : (d : ℕ) → x % 2 ≡ d → (x / 2 < 2 ^ n → 0 < x / 2 → count_trailing_zeros n (x / 2) < n) → under d (count_trailing_zeros n (x / 2)) < suc n
    go zero e ih = let k : count_trailing_zeros n (x / 2) < n = ih (omega (arith, pow-suc 2 n)) (omega arith) in omega arith
    go (suc d) e ih = omega arith

pub trailing_room : (n x : ℕ) → 0 < x → 2 ^ count_trailing_zeros n x ≤ x
unfolding count_trailing_zeros
trailing_room zero x l = omega arith
trailing_room (suc n) x l = go (x % 2) refl (trailing_room n (x / 2))
  where
    go : (d : ℕ) → x % 2 ≡ d → (0 < x / 2 → 2 ^ count_trailing_zeros n (x / 2) ≤ x / 2) → 2 ^ under d (count_trailing_zeros n (x / 2)) ≤ x
    go zero e ih = let k : 2 ^ count_trailing_zeros n (x / 2) ≤ x / 2 = ih (omega arith) in omega (arith, pow-suc 2 (count_trailing_zeros n (x / 2)))
    go (suc d) e ih = omega arith
