-- Reading byte by byte, as code does, gives what the definition says of all the bytes taken.
use Rattle.std.specs.Prelude.{ℕ, zero, suc, ◌+◌, ◌*◌, ◌%◌, ◌<◌, ◌≤◌, List, [], ◌∷◌, ◌≡◌, refl, Bool, true, false, cond, ◌&&◌, length, drop, ltb, leb, eqb, Ok, Err}
use Rattle.std.proofs.Common.{ap, ◌∙◌, sym, arith}
use borrow.Author.Tests.{lt-ltb, le-ltb, le-leb, lt-leb, eq-eqb, ne_eqb, ltb-true, ltb-false, leb-true, leb-false, eqb-true, eqb-false}
use Rattle.number.specs.Number.{group_size, fifth_most, taken, last_of, value_of, number_of, number_at}
use Rattle.number.specs.Number.{Number}
use Rattle.refusal.specs.declared.Refusal.{Refusal}
use Rattle.refusal.specs.declared.Refusal.TheVariants.{EndsFirst, LastIsZero, FifthAbove}

-- a byte of 128 or more before what was read: its seven bits are the lowest, and what follows is not 0
unfoldable pub push : ℕ → Number → Number
push b (Err e) = Err e
push b (Ok (m, next)) = cond (eqb m 0) (Err LastIsZero) (Ok (b % group_size + group_size * m, next))

-- what reading finds in bytes that stand from place at on, where at most f + 1 bytes are left of the number
unfoldable pub read_go : ℕ → ℕ → List ℕ → Number
read_go zero at [] = Err EndsFirst
read_go zero at (b ∷ bs) = cond (ltb fifth_most b) (Err FifthAbove) (Ok (b, at + 1))
read_go (suc f) at [] = Err EndsFirst
read_go (suc f) at (b ∷ bs) = cond (ltb b group_size) (Ok (b, at + 1)) (push b (read_go f (at + 1) bs))

-- what k bytes with the last byte l and the value v give, where f + 1 bytes may be taken: `number_of` has f = 4
unfoldable verdict : ℕ → ℕ → ℕ → ℕ → ℕ → Number
verdict f at k l v =
    cond (ltb k (suc f) && leb group_size l) (Err EndsFirst)
    (cond (ltb 1 k && eqb l 0) (Err LastIsZero)
    (cond (eqb k (suc f) && ltb fifth_most l) (Err FifthAbove)
    (Ok (v, at + k))))

module _ (f at k l v : ℕ) where
  gives_21 : k < suc f → group_size ≤ l → verdict f at k l v ≡ Err EndsFirst
  unfolding verdict
  gives_21 h g = simp (lt-ltb k (suc f) h, le-leb group_size l g)

  -- no 21 where all the bytes are there, or the last is below 128
  whole : (k < suc f → l < group_size) → (ltb k (suc f) && leb group_size l) ≡ false
  whole h = go (ltb k (suc f)) refl
    where
      go : (t : Bool) → ltb k (suc f) ≡ t → (t && leb group_size l) ≡ false
      go true e = lt-leb group_size l (h (ltb-true k (suc f) e))
      go false e = refl

  gives_22 : l ≡ 0 → 1 < k → verdict f at k l v ≡ Err LastIsZero
  unfolding verdict
  gives_22 z h = simp (whole (λ x. omega arith), lt-ltb 1 k h, eq-eqb l 0 z)

  -- no 22 where there is one byte, or the last is not 0
  ended : (1 < k → l ≡ 0 → ⊥) → (ltb 1 k && eqb l 0) ≡ false
  ended h = go (ltb 1 k) refl
    where
      go : (t : Bool) → ltb 1 k ≡ t → (t && eqb l 0) ≡ false
      go true e = ne_eqb l 0 (h (ltb-true 1 k e))
      go false e = refl

  gives_23 : k ≡ suc f → fifth_most < l → verdict f at k l v ≡ Err FifthAbove
  unfolding verdict
  gives_23 h g = simp (whole (λ x. omega arith), ended (λ x y. omega arith), eq-eqb k (suc f) h, lt-ltb fifth_most l g)

  -- no 23 where the last byte that may be taken is no higher than 15, or isn't taken
  low : (k ≡ suc f → l ≤ fifth_most) → (eqb k (suc f) && ltb fifth_most l) ≡ false
  low h = go (eqb k (suc f)) refl
    where
      go : (t : Bool) → eqb k (suc f) ≡ t → (t && ltb fifth_most l) ≡ false
      go true e = le-ltb fifth_most l (h (eqb-true k (suc f) e))
      go false e = refl

  gives : (k < suc f → l < group_size) → (1 < k → l ≡ 0 → ⊥) → (k ≡ suc f → l ≤ fifth_most) → verdict f at k l v ≡ Ok (v, at + k)
  unfolding verdict
  gives a b c = simp (whole a, ended b, low c)

pub push_zero : (b m next : ℕ) → m ≡ 0 → push b (Ok (m, next)) ≡ Err LastIsZero
unfolding push
push_zero b m next h = simp (eq-eqb m 0 h)

pub push_more : (b m next : ℕ) → (m ≡ 0 → ⊥) → push b (Ok (m, next)) ≡ Ok (b % group_size + group_size * m, next)
unfolding push
push_more b m next h = simp (ne_eqb m 0 h)

push_refused : (b : ℕ) (e : Refusal) (r : Number) → r ≡ Err e → push b r ≡ Err e
unfolding push
push_refused b e r p = ap (push b) p

-- a byte in front of k bytes with the last byte l and the value v: what they gave is pushed
abbrev Pushes : ℕ → ℕ → ℕ → ℕ → ℕ → ℕ → Type 0
Pushes f at b k l v = push b (verdict f (at + 1) k l v) ≡ verdict (suc f) at (suc k) l (b % group_size + group_size * v)

-- The k bytes are some, at most f + 1, and have no value only where the last has none.
module _ (f at b k l v : ℕ) (some : 1 ≤ k) (few : k ≤ suc f) (nz : v ≡ 0 → l % group_size ≡ 0) (one : k ≡ 1 → v ≡ l % group_size) where
  -- a refusal stays
  stays : (e : Refusal) → verdict f (at + 1) k l v ≡ Err e → verdict (suc f) at (suc k) l (b % group_size + group_size * v) ≡ Err e
      → Pushes f at b k l v
  stays e p q = push_refused b e (verdict f (at + 1) k l v) p ∙ sym q

  -- a last byte of 0 is now one of several
  behind_zero : l ≡ 0 → (o : Bool) → ltb 1 k ≡ o → Pushes f at b k l v
  behind_zero z true e = stays LastIsZero (gives_22 f (at + 1) k l v z (ltb-true 1 k e)) (gives_22 (suc f) at (suc k) l _ z (omega arith))
  behind_zero z false e =
      let k1 : k ≤ 1 = ltb-false 1 k e in
      let v0 : v ≡ 0 = omega (arith, one (omega arith)) in
      ap (push b) (gives f (at + 1) k l v (λ x. omega arith) (λ x y. omega arith) (λ x. omega arith))
      ∙ push_zero b v (at + 1 + k) v0
      ∙ sym (gives_22 (suc f) at (suc k) l _ z (omega arith))

  -- no refusal: the value is one group longer
  grows : (l ≡ 0 → ⊥) → l < group_size → (k < suc f → l < group_size) → (k ≡ suc f → l ≤ fifth_most) → Pushes f at b k l v
  grows z small short full =
      ap (push b) (gives f (at + 1) k l v short (λ x. z) full)
      ∙ push_more b v (at + 1 + k) (λ x. z (omega (arith, nz x)))
      ∙ ap (λ (x : ℕ). Ok (b % group_size + group_size * v, x)) (omega arith)
      ∙ sym (gives (suc f) at (suc k) l _ (λ x. short (omega arith)) (λ x. z) (λ x. full (omega arith)))

  behind_short : (l ≡ 0 → ⊥) → k < suc f → (u : Bool) → leb group_size l ≡ u → Pushes f at b k l v
  behind_short z h true e = stays EndsFirst (gives_21 f (at + 1) k l v h (leb-true group_size l e)) (gives_21 (suc f) at (suc k) l _ (omega arith) (leb-true group_size l e))
  behind_short z h false e = grows z (leb-false group_size l e) (λ x. leb-false group_size l e) (λ x. absurd (omega arith))

  behind_full : (l ≡ 0 → ⊥) → k ≡ suc f → (u : Bool) → ltb fifth_most l ≡ u → Pushes f at b k l v
  behind_full z h true e = stays FifthAbove (gives_23 f (at + 1) k l v h (ltb-true fifth_most l e)) (gives_23 (suc f) at (suc k) l _ (omega arith) (ltb-true fifth_most l e))
  behind_full z h false e = grows z (omega (arith, ltb-false fifth_most l e)) (λ x. absurd (omega arith)) (λ x. ltb-false fifth_most l e)

  behind_more : (l ≡ 0 → ⊥) → (t : Bool) → ltb k (suc f) ≡ t → Pushes f at b k l v
  behind_more z true e = behind_short z (ltb-true k (suc f) e) (leb group_size l) refl
  behind_more z false e = behind_full z (omega (arith, ltb-false k (suc f) e)) (ltb fifth_most l) refl

  pushed : (z : Bool) → eqb l 0 ≡ z → Pushes f at b k l v
  pushed true e = behind_zero (eqb-true l 0 e) (ltb 1 k) refl
  pushed false e = behind_more (eqb-false l 0 e) (ltb k (suc f)) refl

-- what the bytes taken give, where f + 1 may be taken
abbrev taken_up_to : ℕ → ℕ → List ℕ → Number
taken_up_to f at bs = verdict f at (length bs) (last_of bs) (value_of bs)

taken_few : (f : ℕ) (bs : List ℕ) → length (taken f bs) ≤ suc f
unfolding taken
taken_few zero [] = omega arith
taken_few zero (b ∷ bs) = omega arith
taken_few (suc f) [] = omega arith
taken_few (suc f) (b ∷ bs) = go (ltb b group_size) (taken_few f bs)
  where
    go : (t : Bool) → length (taken f bs) ≤ suc f → length (cond t (b ∷ []) (b ∷ taken f bs)) ≤ suc (suc f)
    go true h = omega arith
    go false h = omega arith

-- without a value the last byte has none
no_value : (bs : List ℕ) → 1 ≤ length bs → value_of bs ≡ 0 → last_of bs % group_size ≡ 0
unfolding value_of last_of
no_value [] h e = absurd (omega arith)
no_value (b ∷ []) h e = omega arith
no_value (b ∷ c ∷ bs) h e = no_value (c ∷ bs) (omega arith) (omega arith)

one_value : (bs : List ℕ) → length bs ≡ 1 → value_of bs ≡ last_of bs % group_size
unfolding value_of last_of
one_value [] h = absurd (omega arith)
one_value (b ∷ []) h = omega arith
one_value (b ∷ c ∷ bs) h = absurd (omega arith)

-- a byte of 128 or more before those taken
in_front : (f at b : ℕ) (ts : List ℕ) → group_size ≤ b → length ts ≤ suc f → push b (taken_up_to f (at + 1) ts) ≡ taken_up_to (suc f) at (b ∷ ts)
unfolding value_of last_of
in_front f at b [] h few = push_refused b EndsFirst _ (gives_21 f (at + 1) 0 group_size 0 (omega arith) (omega arith)) ∙ sym (gives_21 (suc f) at 1 b _ (omega arith) h)
in_front f at b (c ∷ ts) h few =
    pushed f at b (length (c ∷ ts)) (last_of (c ∷ ts)) (value_of (c ∷ ts)) (omega arith) few (no_value (c ∷ ts) (omega arith)) (one_value (c ∷ ts)) (eqb (last_of (c ∷ ts)) 0) refl

-- one byte, below 128, which is 15 at most where no other may be taken
alone : (f at b : ℕ) → b < group_size → (f ≡ 0 → b ≤ fifth_most) → Ok (b, at + 1) ≡ taken_up_to f at (b ∷ [])
unfolding value_of last_of
alone f at b h g = ap (λ (n : ℕ). Ok (n, at + 1)) (omega arith) ∙ sym (gives f at 1 b _ (λ x. h) (λ x. absurd (omega arith)) (λ x. g (omega arith)))

read_up_to : (f at : ℕ) (bs : List ℕ) → read_go f at bs ≡ taken_up_to f at (taken f bs)
unfolding read_go taken value_of last_of
read_up_to zero at [] = sym (gives_21 zero at 0 group_size 0 (omega arith) (omega arith))
read_up_to zero at (b ∷ bs) = go (ltb fifth_most b) refl
  where
    go : (t : Bool) → ltb fifth_most b ≡ t → cond t (Err FifthAbove) (Ok (b, at + 1)) ≡ taken_up_to zero at (b ∷ [])
    go true e = sym (gives_23 zero at 1 b _ refl (ltb-true fifth_most b e))
    go false e = alone zero at b (omega (arith, ltb-false fifth_most b e)) (λ x. ltb-false fifth_most b e)
read_up_to (suc f) at [] = sym (gives_21 (suc f) at 0 group_size 0 (omega arith) (omega arith))
read_up_to (suc f) at (b ∷ bs) = go (ltb b group_size) refl (read_up_to f (at + 1) bs)
  where
    go : (t : Bool) → ltb b group_size ≡ t → read_go f (at + 1) bs ≡ taken_up_to f (at + 1) (taken f bs)
        → cond t (Ok (b, at + 1)) (push b (read_go f (at + 1) bs)) ≡ taken_up_to (suc f) at (cond t (b ∷ []) (b ∷ taken f bs))
    go true e ih = alone (suc f) at b (ltb-true b group_size e) (λ x. absurd (omega arith))
    go false e ih = ap (push b) ih ∙ in_front f at b (taken f bs) (ltb-false b group_size e) (taken_few f bs)

-- reading byte by byte from place at on is what reading a number there gives
pub read_steps : (s : List ℕ) (at : ℕ) → read_go 4 at (drop at s) ≡ number_at s at
unfolding number_at number_of verdict
read_steps s at = read_up_to 4 at (drop at s)
