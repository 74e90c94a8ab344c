-- What lent numbers are known to be: bytes, or words of 32 bits.
use Rattle.std.specs.Prelude.{ℕ, ◌^◌, ◌<◌, List, get_or}

-- every number is below m
abbrev pub Below : ℕ → List ℕ → Type 0
Below m s = (i : ℕ) → get_or s i 0 < m

-- the first number that is no byte
abbrev pub byte_limit : ℕ
byte_limit = 256

-- every number is a byte
abbrev pub Bytes : List ℕ → Type 0
Bytes s = Below byte_limit s

-- every number is a word of 32 bits
abbrev pub Words : List ℕ → Type 0
Words s = Below (2 ^ 32) s
