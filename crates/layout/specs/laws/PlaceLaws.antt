-- Words that are written part by part stand at their places.
use Prim.Native.Nat.{ℕ, zero, suc, ◌+◌, ◌≤◌, ◌<◌}
use Rattle.std.specs.Prelude.{◌≡◌, Bool, List, [], ◌∷◌, get_or, set}
use Rattle.std.proofs.Math.Path.{refl}
use Rattle.std.proofs.Common.{◌∙◌, arith, length-set, get_or-set_same, get_or-set_other}
use Rattle.std.proofs.Math.Bool.{true, false}
use Rattle.std.proofs.Math.Dec.{eqb}
use Rattle.std.proofs.Math.ListN.{length}
use Rattle.std.proofs.lemmas.List.Edits.{sets}
use Rattle.std.proofs.Math.Seq.{length-sets}
use borrow.Author.Tests.{eqb-true, eqb-false}
use Rattle.layout.specs.Layout.{word}
use Rattle.layout.specs.Writing.{put_firsts}

-- the words xs stand at a place
abbrev pub Stands : List ℕ → ℕ → List ℕ → Type 0
Stands ws at xs = (o : ℕ) → o < length xs → word ws (at + o) ≡ get_or xs o 0

pub sets_below : (xs d : List ℕ) (at j : ℕ) → j < at → word (sets d at xs) j ≡ word d j
sets_below [] d at j h = refl
sets_below (x ∷ xs) d at j h = sets_below xs (set d at x) (suc at) j (omega arith) ∙ get_or-set_other d at j x 0 (λ e. omega arith)

pub sets_stand : (xs d : List ℕ) (at : ℕ) → at + length xs ≤ length d → Stands (sets d at xs) at xs
sets_stand [] d at h o l = absurd (omega arith)
sets_stand (x ∷ xs) d at h zero l =
    let e : at + 0 ≡ at = omega arith in
    rw e (sets_below xs (set d at x) (suc at) at (omega arith) ∙ get_or-set_same d at x 0 (omega arith))
sets_stand (x ∷ xs) d at h (suc o) l =
    let e : at + suc o ≡ suc at + o = omega arith in
    rw e (sets_stand xs (set d at x) (suc at) (omega (arith, length-set d at x)) o (omega arith))

pub first_long : (n : ℕ) (place : ℕ → ℕ) (f : ℕ → List ℕ) (d : List ℕ) → length (put_firsts n place f d) ≡ length d
unfolding put_firsts
first_long zero place f d = refl
first_long (suc n) place f d = length-sets (put_firsts n place f d) (place n) (f n) ∙ first_long n place f d

-- parts that don't reach into each other
module _ (place : ℕ → ℕ) (f : ℕ → List ℕ) (apart : (i : ℕ) → place i + length (f i) ≤ place (suc i)) where
  later : (i n : ℕ) → i < n → place i + length (f i) ≤ place n
  later i zero h = absurd (omega arith)
  later i (suc n) h = go (eqb i n) refl (later i n)
    where
      go : (t : Bool) → eqb i n ≡ t → (i < n → place i + length (f i) ≤ place n) → place i + length (f i) ≤ place (suc n)
      go true e ih = rw (eqb-true i n e) (apart n)
      go false e ih = let m : i ≡ n → ⊥ = eqb-false i n e in omega (arith, ih (omega (arith, m)), apart n)

  from_first : (n : ℕ) → place 0 ≤ place n
  from_first zero = omega arith
  from_first (suc n) = omega (arith, from_first n, apart n)

  -- words before them stay
  pub parts_below : (n : ℕ) (d : List ℕ) (j : ℕ) → j < place 0 → word (put_firsts n place f d) j ≡ word d j
  unfolding put_firsts
  parts_below zero d j h = refl
  parts_below (suc n) d j h = sets_below (f n) (put_firsts n place f d) (place n) j (omega (arith, from_first n)) ∙ parts_below n d j h

  -- each stands at its place
  pub parts_stand : (n i : ℕ) (d : List ℕ) → i < n → place n ≤ length d → Stands (put_firsts n place f d) (place i) (f i)
  unfolding put_firsts
  parts_stand zero i d h l = absurd (omega arith)
  parts_stand (suc n) i d h l = go (eqb i n) refl (parts_stand n i d)
    where
      go : (t : Bool) → eqb i n ≡ t → (i < n → place n ≤ length d → Stands (put_firsts n place f d) (place i) (f i))
          → Stands (sets (put_firsts n place f d) (place n) (f n)) (place i) (f i)
      go true e ih = rw (eqb-true i n e) (sets_stand (f n) (put_firsts n place f d) (place n) (omega (arith, first_long n place f d, apart n)))
      go false e ih =
          let m : i ≡ n → ⊥ = eqb-false i n e in
          let b : i < n = omega (arith, m) in
          λ o k. sets_below (f n) (put_firsts n place f d) (place n) (place i + o) (omega (arith, later i n b)) ∙ ih b (omega (arith, apart n)) o k
