-- What one more byte of a text leaves.
use Prim.Native.Nat.{ℕ, zero, suc, ◌+◌, ◌-◌, ◌/◌, ◌%◌, ◌≤◌, ◌<◌}
use mathlib.Core.Path.{◌≡◌, refl, sym, ap, ◌∙◌}
use mathlib.Core.List.{List, [], ◌∷◌, ◌++◌, append-nil}
use native.Mathlib.Omega.{arith}
use native.Mathlib.Numerals.{add-one}
use lib.ListN.{length, get_or, take}
use Rattle.std.proofs.lemmas.List.{take_more}
use lib.IntN.{ℤ, pos, negsuc}
use lib.Signed.{lt_z}
use mathlib.Core.Bool.{cond}
use Rattle.std.specs.Prelude.{unsigned_abs}
use borrow.Author.Tests.{lt-ltb, le-ltb}
use Rattle.text.specs.Text.{digits_of, decimal, value_text, hex_byte, hex_text}
use Rattle.text.specs.laws.Printing.{hex_append}
use Rattle.text.specs.laws.Paging.{page_steps}
use Rattle.number.specs.laws.ValueLaws.{value_of_bits}

-- ---- bytes in hex

pub no_hex : hex_text [] ≡ []
unfolding hex_text
no_hex = refl

-- the bytes up to the next, and the next
pub next_hex : (bytes : List ℕ) (i : ℕ) → i < length bytes → hex_text (take (i + 1) bytes) ≡ hex_text (take i bytes) ++ hex_byte (get_or bytes i 0)
unfolding hex_text
next_hex bytes i h = ap hex_text (take_more bytes i 0 h) ∙ sym (hex_append (take i bytes) (get_or bytes i 0 ∷ [])) ∙ ap (λ (t : List ℕ). hex_text (take i bytes) ++ t) (append-nil (hex_byte (get_or bytes i 0)))

-- ---- digits

pub no_digits : (places n : ℕ) → places ≡ 0 → digits_of places n ≡ []
unfolding digits_of
no_digits zero n e = refl
no_digits (suc k) n e = absurd (omega (arith, e))

pub one_digit : (places n : ℕ) → (places ≡ 0 → ⊥) → n < 10 → digits_of places n ≡ (48 + n % 10) ∷ []
unfolding digits_of
one_digit zero n e h = absurd (e refl)
one_digit (suc k) n e h = let same : n % 10 ≡ n = omega arith in rw (lt-ltb n 10 h, same)

-- one more digit, after those of the tenth part
pub more_digits : (places n : ℕ) → (places ≡ 0 → ⊥) → 10 ≤ n → digits_of places n ≡ digits_of (places - 1) (n / 10) ++ ((48 + n % 10) ∷ [])
unfolding digits_of
more_digits zero n e h = absurd (e refl)
more_digits (suc k) n e h = let same : suc k - 1 ≡ k = omega arith in rw (le-ltb n 10 h, same)

-- ---- values

-- the sign and the digits of a value below zero, and the digits of another
pub digits_of_value : (v : ℤ) → value_text v ≡ cond (lt_z v (pos 0)) ((45 ∷ []) ++ decimal (unsigned_abs v)) (decimal (unsigned_abs v))
unfolding value_text
digits_of_value (pos n) = rw (le-ltb n 0 (omega arith))
digits_of_value (negsuc n) = rw add-one

-- all that proofs of what writes on a page take
pub ruleset writing = (page_steps, take_more, no_hex, next_hex, no_digits, one_digit, more_digits, digits_of_value, value_of_bits)
