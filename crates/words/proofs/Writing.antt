-- Words that are written one after another.
use Prim.Native.Nat.{ℕ, suc, ◌+◌, ◌≤◌}
use Rattle.std.proofs.Common.{append_assoc, drop-drop}
use mathlib.Core.Path.{◌≡◌, refl, ap, sym, ◌∙◌}
use mathlib.Core.Bool.{Bool, true, false}
use mathlib.Core.List.{List, [], ◌∷◌, ◌++◌}
use native.Mathlib.Omega.{arith}
use borrow.Rule.Slice.PartMut.{put_mid}
use lib.ListN.{length, get_or, set, take, drop}
use lib.Seq.{sets}
use Rattle.std.specs.Int.{from_bool}
use Rattle.std.proofs.lemmas.List.Edits.{sets-eq}
use Rattle.method.specs.declared.Party.{Party}
use Rattle.layout.specs.Writing.{work_words, flag, party_words, put_firsts}

-- some words that are copied over those at a place
pub placed : (d ys : List ℕ) (at k : ℕ) → length ys ≡ k → at + k ≤ length d → put_mid at k d ys ≡ sets d at ys
placed d ys at k e h =
    ap (λ (r : List ℕ). take at d ++ (ys ++ r)) (drop-drop k at d)
    ∙ ap (λ (j : ℕ). take at d ++ (ys ++ drop (at + j) d)) (sym e)
    ∙ sym (append_assoc (take at d) ys (drop (at + length ys) d))
    ∙ sym (sets-eq ys d at (omega arith))

-- some and then some more
pub sets_more : (d : List ℕ) (at : ℕ) (xs ys : List ℕ) → sets (sets d at xs) (at + length xs) ys ≡ sets d at (xs ++ ys)
sets_more d at [] ys = let e : at + 0 ≡ at = omega arith in rw e
sets_more d at (x ∷ xs) ys = let e : at + suc (length xs) ≡ suc at + length xs = omega arith in rw e (sets_more (set d at x) (suc at) xs ys)

-- part after part
pub put_none : (place : ℕ → ℕ) (f : ℕ → List ℕ) (d : List ℕ) → d ≡ put_firsts 0 place f d
unfolding put_firsts
put_none place f d = refl

pub put_more : (place : ℕ → ℕ) (f : ℕ → List ℕ) (d e o xs : List ℕ) (i : ℕ) → e ≡ put_firsts i place f d → xs ≡ f i → o ≡ sets e (place i) xs
    → o ≡ put_firsts (i + 1) place f d
unfolding put_firsts
put_more place f d e o xs i q t p =
    let s : i + 1 ≡ suc i = omega arith in
    p ∙ ap (λ (w : List ℕ). sets w (place i) xs) q ∙ ap (λ (w : List ℕ). sets (put_firsts i place f d) (place i) w) t
    ∙ ap (λ (k : ℕ). put_firsts k place f d) (sym s)

-- the words of arrays of a known length, one by one
pub three : (xs : List ℕ) → length xs ≡ 3 → get_or xs 0 0 ∷ get_or xs 1 0 ∷ get_or xs 2 0 ∷ [] ≡ xs
three [] e = absurd (omega arith)
three (a ∷ []) e = absurd (omega arith)
three (a ∷ b ∷ []) e = absurd (omega arith)
three (a ∷ b ∷ c ∷ []) e = refl
three (a ∷ b ∷ c ∷ d ∷ xs) e = absurd (omega arith)

pub five : (xs ys : List ℕ) → length xs ≡ 5 → get_or xs 0 0 ∷ get_or xs 1 0 ∷ get_or xs 2 0 ∷ get_or xs 3 0 ∷ get_or xs 4 0 ∷ ys ≡ xs ++ ys
five [] ys e = absurd (omega arith)
five (a ∷ []) ys e = absurd (omega arith)
five (a ∷ b ∷ []) ys e = absurd (omega arith)
five (a ∷ b ∷ c ∷ []) ys e = absurd (omega arith)
five (a ∷ b ∷ c ∷ d ∷ []) ys e = absurd (omega arith)
five (a ∷ b ∷ c ∷ d ∷ f ∷ []) ys e = refl
five (a ∷ b ∷ c ∷ d ∷ f ∷ g ∷ xs) ys e = absurd (omega arith)

-- what stands after the two parts of a client
flag_of : (b : Bool) → from_bool b ≡ flag b
unfolding flag
flag_of true = refl
flag_of false = refl

pub party_written : (d e o xs : List ℕ) (at : ℕ) (p : Party) (s n : ℕ) → s ≡ from_bool p.stopped → n ≡ p.op → xs ≡ work_words p.work
    → e ≡ sets d at (s ∷ n ∷ []) → o ≡ sets e (at + 2) xs → o ≡ sets d at (party_words p)
unfolding party_words
party_written d e o xs at p s n es en ex q t =
    let f : s ≡ flag p.stopped = es ∙ flag_of p.stopped in
    let parts : (s ∷ n ∷ []) ++ xs ≡ party_words p = cc in
    t ∙ ap (λ (r : List ℕ). sets r (at + 2) xs) q ∙ sets_more d at (s ∷ n ∷ []) xs ∙ ap (λ (r : List ℕ). sets d at r) parts
