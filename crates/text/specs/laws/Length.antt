-- How long a text is at most.
use Rattle.std.specs.Prelude.{ℕ, zero, suc, ◌+◌, ◌*◌, ◌/◌, ◌%◌, ◌≤◌, Bool, true, false, cond, List, [], ◌∷◌, ◌++◌, ltb, ℤ, pos, negsuc, length}
use Rattle.std.proofs.Common.{arith, length-append}
use Rattle.text.specs.Text.{digits_of, value_text, hex_text}

-- a text of so many bytes at most
pub record Few (text : List ℕ) (most : ℕ) : Type 0 where
  pub few : length text ≤ most

-- one text after another
pub both : {xs ys : List ℕ} {a b : ℕ} → Few xs a → Few ys b → Few (xs ++ ys) (a + b)
both {xs} {ys} h k = record { few = let e = length-append xs ys in omega (arith, h.few, k.few) }

-- a number has no more digits than places
pub digits_few : (places n : ℕ) → Few (digits_of places n) places
unfolding digits_of
digits_few zero n = record { few = omega arith }
digits_few (suc p) n = go (ltb n 10) (digits_few p (n / 10))
  where
    go : (t : Bool) → Few (digits_of p (n / 10)) p → Few (cond t ((48 + n) ∷ []) (digits_of p (n / 10) ++ ((48 + n % 10) ∷ []))) (suc p)
    go true ih = record { few = omega arith }
    go false ih = record { few = simp length-append (omega arith) }

-- nor a value, and its sign is one byte
pub value_few : (v : ℤ) → Few (value_text v) 21
unfolding value_text
value_few (pos n) = record { few = omega (arith, (digits_few 20 n).few) }
value_few (negsuc n) = record { few = omega (arith, (digits_few 20 (n + 1)).few) }

-- a byte in hex is three
pub hex_few : (bs : List ℕ) → Few (hex_text bs) (3 * length bs)
unfolding hex_text
hex_few [] = record { few = omega arith }
hex_few (b ∷ bs) = record { few = omega (arith, (hex_few bs).few) }
