-- Digits say their number.
use Rattle.std.specs.Prelude.{ℕ, zero, suc, ◌+◌, ◌-◌, ◌*◌, ◌/◌, ◌%◌, ◌^◌, ◌<◌, ◌≡◌, refl, List, [], ◌∷◌, ◌++◌, Bool, true, false, cond, ltb}
use Rattle.std.proofs.Common.{◌∙◌, arith, pow-suc}
use Rattle.text.specs.Text.{digits_of}
use Rattle.text.specs.Said.{said}

said_append : (n : ℕ) (ds : List ℕ) (d : ℕ) → said n (ds ++ (d ∷ [])) ≡ 10 * said n ds + (d - 48)
unfolding said
said_append n [] d = refl
said_append n (x ∷ ds) d = said_append (10 * n + (x - 48)) ds d

-- digits that have places enough say their number
pub said_digits : (places n : ℕ) → n < 10 ^ places → said 0 (digits_of places n) ≡ n
unfolding said digits_of
said_digits zero n h = omega (arith, h)
said_digits (suc p) n h = go (ltb n 10) refl (said_digits p (n / 10) (let e = pow-suc 10 p in omega (arith, h)))
  where
    go : (t : Bool) → ltb n 10 ≡ t → said 0 (digits_of p (n / 10)) ≡ n / 10 → said 0 (cond t ((48 + n) ∷ []) (digits_of p (n / 10) ++ ((48 + n % 10) ∷ []))) ≡ n
    go true e ih = omega arith
    go false e ih = said_append 0 (digits_of p (n / 10)) (48 + n % 10) ∙ omega (arith, ih)
