-- Numbers in groups of seven bits: how one is written, and what reading one gives. The paper: "The record and its bytes".
use Rattle.std.specs.Prelude.{ℕ, zero, suc, ◌+◌, ◌*◌, ◌/◌, ◌%◌, List, [], ◌∷◌, Bool, cond, ◌&&◌, ◌≡◌, length, drop, ltb, leb, eqb, Option, Some, None, Result, Ok, Err}
use Rattle.std.proofs.lemmas.List.Edits.{sets}
use Rattle.refusal.specs.declared.Refusal.{Refusal}
use Rattle.refusal.specs.declared.Refusal.TheVariants.{EndsFirst, LastIsZero, FifthAbove}

-- what reading a number gives: the number and the place after it, or the refusal
abbrev pub Number : Type 0
Number = Result (ℕ × ℕ) Refusal

-- a group of seven bits says one of 128 numbers
abbrev pub group_size : ℕ
group_size = 128

-- the fifth byte has room for the four bits that are left of 32
abbrev pub fifth_most : ℕ
fifth_most = 15

-- groups of seven bits, lowest group first, 128 added to every byte but the last; at most f groups after the first
unfoldable pub groups_of : ℕ → ℕ → List ℕ
groups_of zero n = n ∷ []
groups_of (suc f) n = cond (ltb n group_size) (n ∷ []) ((group_size + n % group_size) ∷ groups_of f (n / group_size))

-- the bytes of a number: five at most
abbrev pub number_bytes : ℕ → List ℕ
number_bytes n = groups_of 4 n

-- a number is read up to its first byte below 128, f + 1 bytes at most
unfoldable pub taken : ℕ → List ℕ → List ℕ
taken zero [] = []
taken zero (b ∷ bs) = b ∷ []
taken (suc f) [] = []
taken (suc f) (b ∷ bs) = cond (ltb b group_size) (b ∷ []) (b ∷ taken f bs)

-- the last of the bytes taken; of none, 128: more had to follow
unfoldable pub last_of : List ℕ → ℕ
last_of [] = group_size
last_of (b ∷ []) = b
last_of (b ∷ c ∷ bs) = last_of (c ∷ bs)

-- 21: the bytes end first
abbrev pub ends_first : List ℕ → Bool
ends_first bs = ltb (length bs) 5 && leb group_size (last_of bs)

-- 22: several bytes and the last is 0
abbrev pub last_is_zero : List ℕ → Bool
last_is_zero bs = ltb 1 (length bs) && eqb (last_of bs) 0

-- 23: the fifth is above 15
abbrev pub fifth_above : List ℕ → Bool
fifth_above bs = eqb (length bs) 5 && ltb fifth_most (last_of bs)

-- the seven bits of each byte, lowest group first
unfoldable pub value_of : List ℕ → ℕ
value_of [] = 0
value_of (b ∷ bs) = b % group_size + group_size * value_of bs

-- what the bytes taken from place at on give
unfoldable pub number_of : ℕ → List ℕ → Number
number_of at bs =
    cond (ends_first bs) (Err EndsFirst)
    (cond (last_is_zero bs) (Err LastIsZero)
    (cond (fifth_above bs) (Err FifthAbove)
    (Ok (value_of bs, at + length bs))))

-- what reading a number at place at of s gives
unfoldable pub number_at : List ℕ → ℕ → Number
number_at s at = number_of at (taken 4 (drop at s))

-- a number that is refused gives what its refusal gives; else go on with it and the place after it
unfoldable pub and_then : {A : Type 0} → (Refusal → A) → Number → (ℕ → ℕ → A) → A
and_then refuse (Err k) go = refuse k
and_then refuse (Ok (n, next)) go = go n next

-- whether the bytes bs, a number's or an entry's, fit at place at
abbrev pub fits_at : List ℕ → ℕ → List ℕ → Bool
fits_at d at bs = leb (at + length bs) (length d)

-- what writing them at place at of d answers
unfoldable pub put_answer : List ℕ → ℕ → List ℕ → Option ℕ
put_answer d at bs = cond (fits_at d at bs) (Some (at + length bs)) None

-- and what then stands in d: they from place at on, the others as they were; all as it was where they don't fit
unfoldable pub put_bytes : List ℕ → ℕ → List ℕ → List ℕ
put_bytes d at bs = cond (fits_at d at bs) (sets d at bs) d

-- what writing them at place at of d has to do: answer r, and d' stands there after
pub record Placed (d : List ℕ) (at : ℕ) (bs : List ℕ) (r : Option ℕ) (d' : List ℕ) : Type 0 where
  pub answer : r ≡ put_answer d at bs
  pub bytes : d' ≡ put_bytes d at bs
