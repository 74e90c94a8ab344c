-- How long a number's bytes are, what a refusal to read can be, and what writing leaves.
use Rattle.std.specs.Prelude.{ℕ, zero, suc, ◌+◌, ◌*◌, ◌/◌, ◌%◌, ◌^◌, ◌<◌, ◌≤◌, List, [], ◌∷◌, ◌≡◌, refl, Bool, true, false, cond, ◌⊎◌, drop, ltb, Option, Some, None, Result, Ok, Err}
use Rattle.std.proofs.Common.{ap, subst, sym, ◌∙◌, inl, inr, ⊎_elim, arith, lt-ltb, le-ltb, le-leb, ltb-true, ltb-false}
use Rattle.std.proofs.Math.ListN.{length}
use Rattle.std.proofs.lemmas.List.Edits.{sets}
use Rattle.std.proofs.lemmas.Bool.{lt-leb}
use Rattle.number.specs.Below.{byte_limit, Bytes}
use Rattle.number.specs.Number.{group_size, fifth_most, groups_of, number_bytes, number_at, number_of, taken, ends_first, last_is_zero, fifth_above, value_of, put_answer, put_bytes}
use Rattle.number.specs.Number.{Number, Placed}
use Rattle.number.specs.Wrote.{Wrote}
use Rattle.refusal.specs.declared.Refusal.{Refusal}
use Rattle.refusal.specs.Number.{paper_number}
use Rattle.refusal.specs.declared.Refusal.TheVariants.{EndsFirst, LastIsZero, FifthAbove}

-- ---- the bytes of a number

-- the first number that f + 1 groups don't hold, of which the last is 15 at most
unfoldable pub top : ℕ → ℕ
top zero = fifth_most + 1
top (suc f) = group_size * top f

pub top_least : (f : ℕ) → fifth_most + 1 ≤ top f
unfolding top
top_least zero = omega arith
top_least (suc f) = omega (arith, top_least f)

pub groups_small : (f n : ℕ) → n < group_size → groups_of f n ≡ n ∷ []
unfolding groups_of
groups_small zero n h = refl
groups_small (suc f) n h = simp (lt-ltb n group_size h)

pub groups_more : (f n : ℕ) → group_size ≤ n → groups_of (suc f) n ≡ (group_size + n % group_size) ∷ groups_of f (n / group_size)
unfolding groups_of
groups_more f n h = simp (le-ltb n group_size h)

pub groups_some : (f n : ℕ) → 1 ≤ length (groups_of f n)
unfolding groups_of
groups_some zero n = omega arith
groups_some (suc f) n = go (ltb n group_size) refl
  where
    go : (t : Bool) → ltb n group_size ≡ t → 1 ≤ length (groups_of (suc f) n)
    go true e = omega (arith, ap length (groups_small (suc f) n (ltb-true n group_size e)))
    go false e = omega (arith, ap length (groups_more f n (ltb-false n group_size e)))

groups_few : (f n : ℕ) → length (groups_of f n) ≤ suc f
unfolding groups_of
groups_few zero n = omega arith
groups_few (suc f) n = go (ltb n group_size) refl (groups_few f (n / group_size))
  where
    go : (t : Bool) → ltb n group_size ≡ t → length (groups_of f (n / group_size)) ≤ suc f → length (groups_of (suc f) n) ≤ suc (suc f)
    go true e h = omega (arith, ap length (groups_small (suc f) n (ltb-true n group_size e)))
    go false e h = omega (arith, ap length (groups_more f n (ltb-false n group_size e)))

first_byte : (b : ℕ) (bs : List ℕ) → b < byte_limit → Bytes bs → Bytes (b ∷ bs)
first_byte b bs h g zero = h
first_byte b bs h g (suc i) = g i

no_bytes : Bytes []
no_bytes zero = omega arith
no_bytes (suc i) = omega arith

groups_bytes : (f n : ℕ) → n < top f → Bytes (groups_of f n)
unfolding top
groups_bytes zero n h = rw (groups_small zero n (omega arith)) (first_byte n [] (omega arith) no_bytes)
groups_bytes (suc f) n h = go (ltb n group_size) refl (groups_bytes f (n / group_size) (omega arith))
  where
    go : (t : Bool) → ltb n group_size ≡ t → Bytes (groups_of f (n / group_size)) → Bytes (groups_of (suc f) n)
    go true e ih = let small : n < group_size = ltb-true n group_size e in
        rw (groups_small (suc f) n small) (first_byte n [] (omega arith) no_bytes)
    go false e ih = rw (groups_more f n (ltb-false n group_size e)) (first_byte _ (groups_of f (n / group_size)) (omega arith) ih)

-- one byte at least, five at most
pub length_some : (n : ℕ) → 1 ≤ length (number_bytes n)
length_some = groups_some 4

pub length_few : (n : ℕ) → length (number_bytes n) ≤ 5
length_few = groups_few 4

-- a number below 128 is its own byte
pub bytes_small : (n : ℕ) → n < group_size → number_bytes n ≡ n ∷ []
bytes_small = groups_small 4

pub bytes_below : (n : ℕ) → n < 2 ^ 32 → Bytes (number_bytes n)
unfolding top
bytes_below n h = groups_bytes 4 n h

-- ---- refusals

-- what two equal answers that hand out two things say of each
pub same_read : {A B E : Type 0} {a a' : A} {b b' : B} → ◌≡◌ {A = Result (A × B) E} (Ok (a, b)) (Ok (a', b')) → (a ≡ a') × (b ≡ b')
same_read {A} {B} {E} {a} {a'} {b} {b'} p =
    let q : ◌≡◌ {A = A × B} (a, b) (a', b') = cc in
    (ap (λ (x : A × B). x.0) q, ap (λ (x : A × B). x.1) q)

refused : (at : ℕ) (k : Refusal) (bs : List ℕ) (e z a : Bool)
    → cond {A = Number} e (Err EndsFirst) (cond z (Err LastIsZero) (cond a (Err FifthAbove) (Ok (value_of bs, at + length bs)))) ≡ Err k
    → (k ≡ EndsFirst) ⊎ ((k ≡ LastIsZero) ⊎ (k ≡ FifthAbove))
refused at k bs true z a p = inl (cc)
refused at k bs false true a p = inr (inl (cc))
refused at k bs false false true p = inr (inr (cc))
refused at k bs false false false p = let x : ◌≡◌ {A = ℕ} 0 1 = cc in absurd (omega arith)

-- what is refused is refused with 21, 22 or 23
pub refusals : (s : List ℕ) (at : ℕ) (k : Refusal) → number_at s at ≡ Err k → (k ≡ EndsFirst) ⊎ ((k ≡ LastIsZero) ⊎ (k ≡ FifthAbove))
unfolding number_at number_of
refusals s at k p =
    let bs = taken 4 (drop at s) in
    refused at k bs (ends_first bs) (last_is_zero bs) (fifth_above bs) p

pub refusal_bounds : (s : List ℕ) (at : ℕ) (k : Refusal) → number_at s at ≡ Err k → (21 ≤ paper_number k) × (paper_number k ≤ 23)
unfolding paper_number
refusal_bounds s at k p = ⊎_elim (λ e. within e (omega arith, omega arith)) (⊎_elim (λ e. within e (omega arith, omega arith)) (λ e. within e (omega arith, omega arith))) (refusals s at k p)
  where
    within : {j : Refusal} → k ≡ j → (21 ≤ paper_number j) × (paper_number j ≤ 23) → (21 ≤ paper_number k) × (paper_number k ≤ 23)
    within e h = subst (λ (x : Refusal). (21 ≤ paper_number x) × (paper_number x ≤ 23)) (sym e) h

-- ---- writing

module _ (d : List ℕ) (at : ℕ) (bs : List ℕ) where
  -- where bytes fit, they stand from place at on, and the place after them is answered
  pub put_fits : at + length bs ≤ length d → put_answer d at bs ≡ Some (at + length bs)
  unfolding put_answer
  put_fits h = simp (le-leb (at + length bs) (length d) h)

  pub put_writes : at + length bs ≤ length d → put_bytes d at bs ≡ sets d at bs
  unfolding put_bytes
  put_writes h = simp (le-leb (at + length bs) (length d) h)

  -- where they don't, nothing is changed
  pub put_refused : length d < at + length bs → put_answer d at bs ≡ None
  unfolding put_answer
  put_refused h = simp (lt-leb (at + length bs) (length d) h)

  pub put_keeps : length d < at + length bs → put_bytes d at bs ≡ d
  unfolding put_bytes
  put_keeps h = simp (lt-leb (at + length bs) (length d) h)

  -- refusing what doesn't fit is what is asked, and so is writing what fits
  pub refuses : length d < at + length bs → Placed d at bs None d
  refuses h = record { answer = sym (put_refused h); bytes = sym (put_keeps h) }

  pub places : (next : ℕ) (d' : List ℕ) → at + length bs ≤ length d → Wrote d at bs next d' → Placed d at bs (Some next) d'
  places next d' h w = record { answer = ap Some w.place ∙ sym (put_fits h); bytes = w.list ∙ sym (put_writes h) }

  -- and what fits is written
  pub placed_next : (d' : List ℕ) (next : ℕ) (r : Option ℕ) → at + length bs ≤ length d → Placed d at bs r d' → r ≡ Some next → Wrote d at bs next d'
  placed_next d' next r h w e =
      let p = sym (put_fits h) ∙ sym w.answer ∙ e in
      let q : at + length bs ≡ next = cc in
      record { place = sym q; list = w.bytes ∙ put_writes h }

  pub placed_fits : (d' : List ℕ) (r : Option ℕ) → at + length bs ≤ length d → Placed d at bs r d' → r ≡ None → ⊥
  placed_fits d' r h w e =
      let p = sym (put_fits h) ∙ sym w.answer ∙ e in
      let z : ◌≡◌ {A = ℕ} 0 1 = cc in omega arith
