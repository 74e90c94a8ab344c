-- A test of each number below n, as code makes it over a range.
use Rattle.std.proofs.Common.{ℕ, zero, suc, ◌+◌, ◌≡◌, Bool, true, false, ◌&&◌, ◌∷◌, [], map, refl, ap, sym, ◌∙◌, arith}
use Rattle.std.specs.declared.ops.Range.{Range}
use Rattle.std.specs.Fn.{Called}
use Rattle.std.specs.Iterator.{ChecksAll}
use Rattle.std.proofs.iter.Yields.{nat_range_steps}
use denote.Param.Members.{Mut}
use Rattle.std.proofs.lemmas.Iterator.{YieldsList-from_range}
use Rattle.std.proofs.lemmas.Iterator.Search.{all_from_yields_List}
use Rattle.std.specs.List.{list_all, range_with_len}
use Rattle.std.proofs.lemmas.List.Folds.{list_all-append, list_all-map}
use Rattle.std.proofs.lemmas.List.FromFn.{map-range_with_len_more}
use Rattle.rack.specs.Sound.{all_below}

one_more : (b : Bool) → (b && true) ≡ b
one_more true = refl
one_more false = refl

-- of the numbers below n
all_numbers : (test : ℕ → Bool) (n : ℕ) → list_all test (range_with_len 0 n) ≡ all_below n test
unfolding all_below
all_numbers test zero = refl
all_numbers test (suc n) =
    let same : Bool → Bool = λ b. b in
    let e : suc n ≡ n + 1 = omega arith in
    ap (λ k. list_all test (range_with_len 0 k)) e
    ∙ sym (list_all-map same test (range_with_len 0 (n + 1)))
    ∙ ap (list_all same) (map-range_with_len_more test 0 n n (omega arith))
    ∙ list_all-append same (map test (range_with_len 0 n)) (test n ∷ [])
    ∙ ap (λ b. list_all same (map test (range_with_len 0 n)) && b) (one_more (test n))
    ∙ ap (λ b. b && test n) (list_all-map same test (range_with_len 0 n) ∙ all_numbers test n)

-- what `all` answers over them
pub all_of_range : {F : Type 0} {g : Mut F (ℕ × Unit {0}) Bool} (test : ℕ → Bool) (n : ℕ) (s u : Range ℕ) (f : F) (r : Bool) → ChecksAll nat_range_steps g s f r u
    → s ≡ record { start = 0; end = n } → ((x : ℕ) (b : Bool) (q : F) → Called g f (x, tt) b q → (q ≡ f) × (b ≡ test x)) → r ≡ all_below n test
all_of_range test n s u f r ran e h = all_from_yields_List test u f r ran (YieldsList-from_range 0 n n e (omega arith)) h ∙ all_numbers test n
