-- Arrays that are read place by place, and what the tests of a part's words tell.
use Prim.Native.Nat.{ℕ, zero, suc, ◌+◌, ◌≤◌, ◌<◌}
use mathlib.Core.Path.{◌≡◌, refl, ap, sym, ◌∙◌}
use Rattle.std.proofs.Common.{cond}
use mathlib.Core.Bool.{Bool, true, false, ◌&&◌, ◌||◌}
use mathlib.Core.List.{List, [], ◌∷◌, ◌++◌, append-nil}
use native.Mathlib.Omega.{arith}
use lib.Dec.{ltb, eqb}
use borrow.Author.Tests.{lt-ltb, le-ltb, ltb-true}
use Rattle.std.specs.declared.result.Result.{Result}
use Rattle.std.specs.declared.result.Result.TheVariants.{Ok, Err}
use Rattle.std.specs.Result.{OkIff, result_unwrap_or}
use lib.Seq.{drop-cons, set_at, append_snoc}
use lib.ListN.{length, set, drop, drop_of_length-le}
use Rattle.layout.specs.laws.Firsts.{firsts_long}
use Rattle.record.specs.Record.{entry_limit}
use Rattle.rack.specs.Sound.{all_below}
use Rattle.method.specs.laws.Tests.{and_left, and_right}
use Rattle.layout.specs.Layout.{entry_place, op_limit, word, firsts}
use Rattle.layout.specs.Reading.{party_known, message_known, line_known, entry_count, count_in}

-- ---- arrays that are read place by place

-- one place more, where the others are those of xs
pub fill_more : {A : Type 0} (f : ℕ → A) (xs l : List A) (i : ℕ) (x : A) → l ≡ firsts i f ++ drop i xs → i < length xs → x ≡ f i
    → set l i x ≡ firsts (i + 1) f ++ drop (i + 1) xs
unfolding firsts
fill_more {A} f xs l i x p h e =
    let s : i + 1 ≡ suc i = omega arith in
    let d : drop i xs ≡ _ ∷ drop (suc i) xs = drop-cons xs i x h in
    ap (λ (r : List A). set r i x) (p ∙ ap (λ (r : List A). firsts i f ++ r) d) ∙ set_at (firsts i f) _ (drop (suc i) xs) x i (firsts_long i f)
    ∙ ap (λ (y : A). firsts i f ++ y ∷ drop (suc i) xs) e
    ∙ sym (append_snoc (firsts i f) (f i) (drop (suc i) xs)) ∙ ap (λ (k : ℕ). firsts k f ++ drop k xs) (sym s)

pub fill_all : {A : Type 0} (f : ℕ → A) (xs l : List A) (i n : ℕ) → l ≡ firsts i f ++ drop i xs → i ≡ n → l ≡ firsts n f ++ drop n xs
fill_all f xs l i n p e = p ∙ ap (λ (k : ℕ). firsts k f ++ drop k xs) e

pub fill_whole : {A : Type 0} (f : ℕ → A) (xs l : List A) (i n : ℕ) → l ≡ firsts i f ++ drop i xs → i ≡ n → length xs ≤ n → l ≡ firsts n f
fill_whole {A} f xs l i n p e h = fill_all f xs l i n p e ∙ ap (λ (r : List A). firsts n f ++ r) (drop_of_length-le xs h) ∙ append-nil (firsts n f)

-- ---- tests

-- a number that is too great for its type is read as another
pub smaller : {E : Type 0} (n d w : ℕ) (r : Result ℕ E) → OkIff r (w < n) w → result_unwrap_or r d ≡ cond (ltb w n) w d
smaller n d w (Ok x) e = rw (lt-ltb w n e.0) e.1
smaller n d w (Err x) e = go (ltb w n) refl
  where
    go : (t : Bool) → ltb w n ≡ t → d ≡ cond t w d
    go true p = absurd (e (ltb-true w n p))
    go false p = refl

-- the operation numbers of what is known
pub party_op : (stopped op phase goal : ℕ) → party_known stopped op phase goal ≡ true → op < op_limit
unfolding party_known
party_op stopped op phase goal e =
    ltb-true op op_limit (and_right (ltb stopped 2) (ltb op op_limit) (and_left (ltb stopped 2 && ltb op op_limit) (ltb phase 3 && (eqb phase 0 || ltb goal 2)) e))

pub message_op : (mark body op : ℕ) → message_known mark body op ≡ true → op < op_limit
unfolding message_known
message_op mark body op e =
    ltb-true op op_limit (and_right (ltb body 4) (ltb op op_limit) (and_right (eqb mark 1) (ltb body 4 && ltb op op_limit) e))

-- ---- the count

pub count_more : (ws : List ℕ) → entry_limit < word ws 4 → entry_limit + 1 ≡ count_in ws
unfolding count_in
count_more ws h = rw (lt-ltb entry_limit (word ws 4) h)

pub count_unknown : (ws : List ℕ) (n : ℕ) (t : Bool) → word ws 4 ≤ entry_limit → n ≡ entry_count ws → t ≡ all_below n (λ i. line_known ws (entry_place i)) → t ≡ false
    → entry_limit + 1 ≡ count_in ws
unfolding count_in
count_unknown ws n t h e p q =
    let a : all_below (entry_count ws) (λ i. line_known ws (entry_place i)) ≡ false = ap (λ (k : ℕ). all_below k (λ i. line_known ws (entry_place i))) (sym e) ∙ sym p ∙ q in
    rw (le-ltb entry_limit (word ws 4) h, a)

pub count_known : (ws : List ℕ) (n : ℕ) (t : Bool) → word ws 4 ≤ entry_limit → n ≡ entry_count ws → t ≡ all_below n (λ i. line_known ws (entry_place i)) → t ≡ true
    → word ws 4 ≡ count_in ws
unfolding count_in
count_known ws n t h e p q =
    let a : all_below (entry_count ws) (λ i. line_known ws (entry_place i)) ≡ true = ap (λ (k : ℕ). all_below k (λ i. line_known ws (entry_place i))) (sym e) ∙ sym p ∙ q in
    rw (le-ltb entry_limit (word ws 4) h, a)
