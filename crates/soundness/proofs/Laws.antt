-- What a test that the code makes says of a definition.
use Rattle.std.proofs.Common.{ℕ, zero, suc, ◌+◌, ◌≤◌, ◌≡◌, Bool, ◌&&◌, List, length, get_or, take, refl, ap, sym, ◌∙◌, arith}
use Rattle.std.specs.List.{list_all}
use Rattle.std.proofs.lemmas.List.Folds.{list_all_more}
use Rattle.std.proofs.lemmas.List.{take_all}
use Rattle.rack.specs.Sound.{all_below}

-- ---- a test of each

-- of the first n of a list
pub all_first : {X : Type 0} (test : X → Bool) (xs : List X) (d : X) (n : ℕ) → n ≤ length xs → list_all test (take n xs) ≡ all_below n (λ i. test (get_or xs i d))
unfolding all_below
all_first test xs d zero h = refl
all_first test xs d (suc n) h =
    let e : suc n ≡ n + 1 = omega arith in
    ap (λ k. list_all test (take k xs)) e
    ∙ list_all_more test xs n d (omega arith)
    ∙ ap (λ b. b && test (get_or xs n d)) (all_first test xs d n (omega arith))

-- of a list with n places
pub all_list : {X : Type 0} (test : X → Bool) (xs : List X) (d : X) (n : ℕ) → length xs ≡ n → list_all test xs ≡ all_below n (λ i. test (get_or xs i d))
all_list test xs d n e = sym (ap (list_all test) (take_all n xs (omega arith))) ∙ all_first test xs d n (omega arith)
