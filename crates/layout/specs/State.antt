-- When the words of a rack are a state in each part. StateLaws.antt has that those of a sound rack are.
use Rattle.std.specs.Prelude.{ℕ, ◌+◌, ◌≤◌, ◌<◌, ◌≡◌, Bool, true, ◌||◌, List, eqb}
use Rattle.record.specs.Record.{entry_limit}
use Rattle.rack.specs.Places.{slot_limit}
use Rattle.layout.specs.Layout.{party_place, slot_place, entry_place, power_limit, word}
use Rattle.layout.specs.Reading.{party_known, message_known, line_known, rack_of}

-- whether a client stands at a place
abbrev pub party_known_at : List ℕ → ℕ → Bool
party_known_at ws at = party_known (word ws at) (word ws (at + 1)) (word ws (at + 2)) (word ws (at + 4))

-- whether a slot stands at a place
abbrev pub slot_known_at : List ℕ → ℕ → Bool
slot_known_at ws at = eqb (word ws at) 0 || message_known (word ws at) (word ws (at + 1)) (word ws (at + 5))

-- the words are a state: power, count, entries, clients and slots are such
pub record State (ws : List ℕ) : Type 0 where
  pub power : word ws 3 < power_limit
  pub count : word ws 4 ≤ entry_limit
  pub entries : (i : ℕ) → i < word ws 4 → line_known ws (entry_place i) ≡ true
  pub parties : (i : ℕ) → i < (rack_of ws).settings.clients → party_known_at ws (party_place i) ≡ true
  pub slots : (i : ℕ) → i < slot_limit → slot_known_at ws (slot_place i) ≡ true
