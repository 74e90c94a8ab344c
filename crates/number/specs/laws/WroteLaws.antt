-- What a run of writes leaves: from place at on stand the numbers, the place after them is next, and all else is as it was.
use Rattle.std.specs.Prelude.{ℕ, suc, ◌+◌, ◌≤◌, List, [], ◌∷◌, ◌++◌, ◌≡◌, length, take, drop}
use Rattle.std.proofs.Common.{ap, ap₂, ◌∙◌, arith, add-zero, length-append}
use Rattle.std.proofs.lemmas.List.Edits.{sets, sets-eq}
use Rattle.std.proofs.Math.Seq.{length-sets, take-append_seam}
use Rattle.number.specs.Wrote.{Wrote}

pub sets_append : (l : List ℕ) (i : ℕ) (xs ys : List ℕ) → sets (sets l i xs) (i + length xs) ys ≡ sets l i (xs ++ ys)
sets_append l i [] ys = simp add-zero
sets_append l i (x ∷ xs) ys = ap (λ (k : ℕ). sets (sets l i (x ∷ xs)) k ys) (omega arith) ∙ sets_append _ (suc i) xs ys

-- one run after another
pub join : {l : List ℕ} {at : ℕ} {xs : List ℕ} {a : ℕ} {l' : List ℕ} {ys : List ℕ} {r : ℕ} {l'' : List ℕ} → Wrote l at xs a l' → Wrote l' a ys r l'' → Wrote l at (xs ++ ys) r l''
join {l} {at} {xs} {a} {l'} {ys} v w = record {
  place = simp length-append (omega (arith, v.place, w.place));
  list = w.list ∙ ap₂ (λ (m : List ℕ) (k : ℕ). sets m k ys) v.list v.place ∙ sets_append l at xs ys;
}

-- no length changes
pub wrote_length : {l : List ℕ} {at : ℕ} {xs : List ℕ} {r : ℕ} {l' : List ℕ} → Wrote l at xs r l' → length l' ≡ length l
wrote_length {l} {at} {xs} w = ap length w.list ∙ length-sets l at xs

-- a run at the front, and what stands beyond it
pub sets_front : (xs l : List ℕ) → length xs ≤ length l → sets l 0 xs ≡ xs ++ drop (length xs) l
sets_front xs l h =
    let e : 0 + length xs ≡ length xs = omega arith in
    sets-eq xs l 0 (omega arith) ∙ ap (λ (k : ℕ). xs ++ drop k l) e

-- what was written at the front is what stands there
pub wrote_front : {l xs : List ℕ} {r : ℕ} {l' : List ℕ} → length xs ≤ length l → Wrote l 0 xs r l' → (r ≤ length l') × (take r l' ≡ xs)
wrote_front {l} {xs} {r} {l'} h w =
    let e : r ≡ length xs = omega (arith, w.place) in
    let front : take r l' ≡ xs = ap₂ take e (w.list ∙ sets_front xs l h) ∙ take-append_seam xs (drop (length xs) l) in
    (omega (arith, wrote_length w), front)
