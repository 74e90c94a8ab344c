-- Worked examples.
use Rattle.std.specs.Prelude.{◌≡◌, refl, [], ◌∷◌, pos, negsuc}
use Rattle.number.specs.Number.{groups_of, number_bytes}
use Rattle.text.specs.Text.{digits_of, decimal, value_text, hex_digit, hex_text}

pub zero_is : decimal 0 ≡ 48 ∷ []
unfolding digits_of
zero_is = refl

pub greatest_is : decimal 4294967295 ≡ 52 ∷ 50 ∷ 57 ∷ 52 ∷ 57 ∷ 54 ∷ 55 ∷ 50 ∷ 57 ∷ 53 ∷ []
unfolding digits_of
greatest_is = refl

pub lowest_is : value_text (negsuc 2147483647) ≡ 45 ∷ 50 ∷ 49 ∷ 52 ∷ 55 ∷ 52 ∷ 56 ∷ 51 ∷ 54 ∷ 52 ∷ 56 ∷ []
unfolding digits_of value_text
lowest_is = refl

pub not_below_is : value_text (pos 9) ≡ 57 ∷ []
unfolding digits_of value_text
not_below_is = refl

-- 300 is AC 02
pub hex_300 : hex_text (number_bytes 300) ≡ 32 ∷ 65 ∷ 67 ∷ 32 ∷ 48 ∷ 50 ∷ []
unfolding hex_text hex_digit groups_of
hex_300 = refl
