-- The words that stand in the lines, as bytes.
use Rattle.std.specs.Prelude.{ℕ, List, [], ◌∷◌}

-- "done "
abbrev pub done_start : List ℕ
done_start = 100 ∷ 111 ∷ 110 ∷ 101 ∷ 32 ∷ []

-- "none"
abbrev pub none_word : List ℕ
none_word = 110 ∷ 111 ∷ 110 ∷ 101 ∷ []

-- " at byte "
abbrev pub byte_words : List ℕ
byte_words = 32 ∷ 97 ∷ 116 ∷ 32 ∷ 98 ∷ 121 ∷ 116 ∷ 101 ∷ 32 ∷ []

-- "rack "
abbrev pub rack_start : List ℕ
rack_start = 114 ∷ 97 ∷ 99 ∷ 107 ∷ 32 ∷ []

-- "replica "
abbrev pub replica_start : List ℕ
replica_start = 114 ∷ 101 ∷ 112 ∷ 108 ∷ 105 ∷ 99 ∷ 97 ∷ 32 ∷ []

-- "client "
abbrev pub client_start : List ℕ
client_start = 99 ∷ 108 ∷ 105 ∷ 101 ∷ 110 ∷ 116 ∷ 32 ∷ []

-- "slot "
abbrev pub slot_start : List ℕ
slot_start = 115 ∷ 108 ∷ 111 ∷ 116 ∷ 32 ∷ []

-- "record"
abbrev pub record_start : List ℕ
record_start = 114 ∷ 101 ∷ 99 ∷ 111 ∷ 114 ∷ 100 ∷ []

-- a space
abbrev pub space : List ℕ
space = 32 ∷ []

-- "."
abbrev pub dot : List ℕ
dot = 46 ∷ []

-- "="
abbrev pub equals : List ℕ
equals = 61 ∷ []

-- " on"
abbrev pub on_word : List ℕ
on_word = 32 ∷ 111 ∷ 110 ∷ []

-- " off"
abbrev pub off_word : List ℕ
off_word = 32 ∷ 111 ∷ 102 ∷ 102 ∷ []

-- " stopped"
abbrev pub stopped_word : List ℕ
stopped_word = 32 ∷ 115 ∷ 116 ∷ 111 ∷ 112 ∷ 112 ∷ 101 ∷ 100 ∷ []

-- " idle op "
abbrev pub idle_words : List ℕ
idle_words = 32 ∷ 105 ∷ 100 ∷ 108 ∷ 101 ∷ 32 ∷ 111 ∷ 112 ∷ 32 ∷ []

-- " asking"
abbrev pub asking_word : List ℕ
asking_word = 32 ∷ 97 ∷ 115 ∷ 107 ∷ 105 ∷ 110 ∷ 103 ∷ []

-- " keeping"
abbrev pub keeping_word : List ℕ
keeping_word = 32 ∷ 107 ∷ 101 ∷ 101 ∷ 112 ∷ 105 ∷ 110 ∷ 103 ∷ []

-- " read"
abbrev pub read_word : List ℕ
read_word = 32 ∷ 114 ∷ 101 ∷ 97 ∷ 100 ∷ []

-- " write "
abbrev pub write_word : List ℕ
write_word = 32 ∷ 119 ∷ 114 ∷ 105 ∷ 116 ∷ 101 ∷ 32 ∷ []

-- " from"
abbrev pub from_word : List ℕ
from_word = 32 ∷ 102 ∷ 114 ∷ 111 ∷ 109 ∷ []

-- " none"
abbrev pub from_none : List ℕ
from_none = 32 ∷ 110 ∷ 111 ∷ 110 ∷ 101 ∷ []

-- " held "
abbrev pub held_word : List ℕ
held_word = 32 ∷ 104 ∷ 101 ∷ 108 ∷ 100 ∷ 32 ∷ []

-- " held none"
abbrev pub held_none : List ℕ
held_none = 32 ∷ 104 ∷ 101 ∷ 108 ∷ 100 ∷ 32 ∷ 110 ∷ 111 ∷ 110 ∷ 101 ∷ []

-- " ask"
abbrev pub ask_word : List ℕ
ask_word = 32 ∷ 97 ∷ 115 ∷ 107 ∷ []

-- " tell"
abbrev pub tell_word : List ℕ
tell_word = 32 ∷ 116 ∷ 101 ∷ 108 ∷ 108 ∷ []

-- " keep"
abbrev pub keep_word : List ℕ
keep_word = 32 ∷ 107 ∷ 101 ∷ 101 ∷ 112 ∷ []

-- " kept"
abbrev pub kept_word : List ℕ
kept_word = 32 ∷ 107 ∷ 101 ∷ 112 ∷ 116 ∷ []

-- " pair "
abbrev pub pair_word : List ℕ
pair_word = 32 ∷ 112 ∷ 97 ∷ 105 ∷ 114 ∷ 32 ∷ []

-- " client "
abbrev pub client_word : List ℕ
client_word = 32 ∷ 99 ∷ 108 ∷ 105 ∷ 101 ∷ 110 ∷ 116 ∷ 32 ∷ []

-- " replica "
abbrev pub replica_word : List ℕ
replica_word = 32 ∷ 114 ∷ 101 ∷ 112 ∷ 108 ∷ 105 ∷ 99 ∷ 97 ∷ 32 ∷ []

-- " cell "
abbrev pub cell_word : List ℕ
cell_word = 32 ∷ 99 ∷ 101 ∷ 108 ∷ 108 ∷ 32 ∷ []

-- " op "
abbrev pub op_word : List ℕ
op_word = 32 ∷ 111 ∷ 112 ∷ 32 ∷ []
