-- Lists that are made place by place.
use Rattle.std.specs.Prelude.{ℕ, zero, suc, ◌<◌, ◌≡◌, refl, Bool, true, false, [], ◌∷◌, ◌++◌, eqb, length, get_or}
use Rattle.std.proofs.Common.{ap, sym, ◌∙◌, arith, length-append, eqb-true}
use Rattle.std.proofs.Math.ListN.{get_or-append}
use Rattle.std.proofs.lemmas.List.{get_or_at}
use Rattle.std.proofs.lemmas.Bool.{eqb-false}
use Rattle.layout.specs.Layout.{firsts}

pub firsts_long : {A : Type 0} (n : ℕ) (f : ℕ → A) → length (firsts n f) ≡ n
unfolding firsts
firsts_long zero f = refl
firsts_long (suc n) f = length-append (firsts n f) (f n ∷ []) ∙ (let e = firsts_long n f in omega arith)

pub firsts_at : {A : Type 0} (n i : ℕ) (f : ℕ → A) (d : A) → i < n → get_or (firsts n f) i d ≡ f i
unfolding firsts
firsts_at zero i f d h = absurd (omega arith)
firsts_at {A} (suc n) i f d h = go (eqb i n) refl (firsts_at n i f d)
  where
    go : (t : Bool) → eqb i n ≡ t → (i < n → get_or (firsts n f) i d ≡ f i) → get_or (firsts n f ++ (f n ∷ [])) i d ≡ f i
    go true e ih = get_or_at (firsts n f) (f n) [] d i (firsts_long n f ∙ sym (eqb-true i n e)) ∙ ap f (sym (eqb-true i n e))
    go false e ih =
        let m : i ≡ n → ⊥ = eqb-false i n e in
        let l : i < n = omega (arith, m) in
        get_or-append (firsts n f) (f n ∷ []) d i (omega (arith, firsts_long n f)) ∙ ih l
