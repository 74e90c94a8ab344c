-- Worked examples that the promises of these calls cite. The bench sheet's starred lines stand together in crate sheet.
use Rattle.std.specs.Prelude.{[], ◌∷◌, ◌≡◌, refl, pos, negsuc, Ok, Err}
use Rattle.number.specs.Number.{groups_of, number_bytes, taken, last_of, value_of, number_of, number_at}
use Rattle.number.specs.Value.{alternating_of, signed_of}
use Rattle.refusal.specs.declared.Refusal.TheVariants.{EndsFirst, LastIsZero, FifthAbove}

pub of_127 : number_bytes 127 ≡ 0x7F ∷ []
unfolding groups_of
of_127 = refl

pub of_128 : number_bytes 128 ≡ 0x80 ∷ 0x01 ∷ []
unfolding groups_of
of_128 = refl

pub read_80_00 : number_at (0x80 ∷ 0x00 ∷ []) 0 ≡ Err LastIsZero
unfolding number_at number_of taken last_of value_of
read_80_00 = refl

pub read_80 : number_at (0x80 ∷ []) 0 ≡ Err EndsFirst
unfolding number_at number_of taken last_of value_of
read_80 = refl

pub read_fifth_16 : number_at (0xFF ∷ 0xFF ∷ 0xFF ∷ 0xFF ∷ 0x10 ∷ []) 0 ≡ Err FifthAbove
unfolding number_at number_of taken last_of value_of
read_fifth_16 = refl

-- five bytes that each say that more follow are no number that ends too early, and a fifth byte of 0 is a last byte of 0
pub read_fifth_128 : number_at (0x80 ∷ 0x80 ∷ 0x80 ∷ 0x80 ∷ 0x80 ∷ []) 0 ≡ Err FifthAbove
unfolding number_at number_of taken last_of value_of
read_fifth_128 = refl

pub read_fifth_0 : number_at (0x80 ∷ 0x80 ∷ 0x80 ∷ 0x80 ∷ 0x00 ∷ []) 0 ≡ Err LastIsZero
unfolding number_at number_of taken last_of value_of
read_fifth_0 = refl

-- read from the middle of other bytes
pub read_300 : number_at (0x05 ∷ 0xAC ∷ 0x02 ∷ 0x05 ∷ []) 1 ≡ Ok (300, 3)
unfolding number_at number_of taken last_of value_of
read_300 = refl

pub read_none : number_at [] 7 ≡ Err EndsFirst
unfolding number_at number_of taken last_of value_of
read_none = refl

-- exact at -1, 0 and the lowest value, there and back
pub of_minus_1 : alternating_of (negsuc 0) ≡ 1
unfolding alternating_of
of_minus_1 = refl

pub of_0 : alternating_of (pos 0) ≡ 0
unfolding alternating_of
of_0 = refl

pub of_lowest : alternating_of (negsuc 2147483647) ≡ 4294967295
unfolding alternating_of
of_lowest = refl

pub back_to_minus_1 : signed_of 1 ≡ negsuc 0
unfolding signed_of
back_to_minus_1 = refl

pub back_to_0 : signed_of 0 ≡ pos 0
unfolding signed_of
back_to_0 = refl

pub back_to_lowest : signed_of 4294967295 ≡ negsuc 2147483647
unfolding signed_of
back_to_lowest = refl
