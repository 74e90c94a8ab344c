-- Slots that are free or not, as a function of a slot's number: the lowest free one, how many are free, one taken, one given back.
-- The paper: "Messages to be sent take the lowest free slots in order."
use Rattle.std.specs.Prelude.{ℕ, zero, suc, ◌+◌, ◌*◌, Bool, true, false, cond, eqb}

-- how many bits a word has
abbrev pub word_bits : ℕ
word_bits = 64

-- how many words say which slots are free
abbrev pub map_words : ℕ
map_words = 4

-- how many slots the wire has: one for each bit of the words
abbrev pub slot_count : ℕ
slot_count = word_bits * map_words

-- 1 for a slot that is free
abbrev pub digit : Bool → ℕ
digit true = 1
digit false = 0

-- the lowest free slot of the n from b on; b + n where none is free
unfoldable pub first_from : ℕ → ℕ → (ℕ → Bool) → ℕ
first_from zero b f = b
first_from (suc n) b f = cond (f b) b (first_from n (b + 1) f)

-- how many of the n slots from b on are free
unfoldable pub count_from : ℕ → ℕ → (ℕ → Bool) → ℕ
count_from zero b f = 0
count_from (suc n) b f = digit (f b) + count_from n (b + 1) f

-- the lowest free slot; as many as there are where none is free
abbrev pub first_free : (ℕ → Bool) → ℕ
first_free f = first_from slot_count 0 f

-- how many slots are free
abbrev pub count_free : (ℕ → Bool) → ℕ
count_free f = count_from slot_count 0 f

-- slot i is taken, the others as they were
unfoldable pub taken_at : (ℕ → Bool) → ℕ → ℕ → Bool
taken_at f i k = cond (eqb k i) false (f k)

-- slot i is free again, the others as they were
unfoldable pub given_at : (ℕ → Bool) → ℕ → ℕ → Bool
given_at f i k = cond (eqb k i) true (f k)

-- slot i is free again if the event empties it (clear), else nothing changes
abbrev pub marked_at : Bool → (ℕ → Bool) → ℕ → ℕ → Bool
marked_at clear f i k = cond clear (given_at f i k) (f k)
