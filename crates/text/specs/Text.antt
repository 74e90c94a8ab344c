-- Numbers in decimal, values with their sign and bytes in hex; the line feed; and what writing a text into lent bytes leaves.
use Rattle.std.specs.Prelude.{ℕ, zero, suc, ◌+◌, ◌/◌, ◌%◌, min, max, ◌≡◌, List, [], ◌∷◌, ◌++◌, cond, length, ltb, ℤ, pos, negsuc}
use Rattle.std.proofs.lemmas.List.Edits.{sets}

-- the digits of n, the highest first and no zero before it, of which there are at most `places`
unfoldable pub digits_of : ℕ → ℕ → List ℕ
digits_of zero n = []
digits_of (suc places) n = cond (ltb n 10) ((48 + n) ∷ []) (digits_of places (n / 10) ++ ((48 + n % 10) ∷ []))

-- a number in decimal: none of 64 bits has more than 20 digits
abbrev pub decimal : ℕ → List ℕ
decimal n = digits_of 20 n

-- words, and then a number
abbrev pub field : List ℕ → ℕ → List ℕ
field words n = words ++ decimal n

-- "refused ", before a refusal's number
abbrev pub refused_word : List ℕ
refused_word = 114 ∷ 101 ∷ 102 ∷ 117 ∷ 115 ∷ 101 ∷ 100 ∷ 32 ∷ []

-- the line feed
abbrev pub line_feed : List ℕ
line_feed = 10 ∷ []

-- a value: its digits, after "-" below zero
unfoldable pub value_text : ℤ → List ℕ
value_text (pos n) = decimal n
value_text (negsuc n) = 45 ∷ decimal (n + 1)

-- a hex digit says one of 16 numbers
abbrev pub hex_base : ℕ
hex_base = 16

-- the digit of a number below that: "0" to "9", "A" to "F"
unfoldable pub hex_digit : ℕ → ℕ
hex_digit n = cond (ltb n 10) (48 + n) (55 + n)

-- a byte in two upper-case hex digits, with a space before it
abbrev pub hex_byte : ℕ → List ℕ
hex_byte b = 32 ∷ hex_digit (b / hex_base) ∷ hex_digit (b % hex_base) ∷ []

-- the same of each byte
unfoldable pub hex_text : List ℕ → List ℕ
hex_text [] = []
hex_text (b ∷ bs) = hex_byte b ++ hex_text bs

-- A text is written from place at on, as far as the bytes `before` go: it stands there, all else is as it was, and `next` is the place after what was
-- written.
pub record Printed (before : List ℕ) (at : ℕ) (text : List ℕ) (next : ℕ) (after : List ℕ) : Type 0 where
  pub place : next ≡ max at (min (at + length text) (length before))
  pub list : after ≡ sets before at text
