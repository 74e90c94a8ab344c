-- What a caller hands to the writer.
use Rattle.std.specs.Prelude.{ℕ, ◌*◌, List, take, drop}
use Rattle.layout.specs.Layout.{entry_place, word}

-- the rows of the record in the words: from the place of entry 0 on, as many as word 4 says
abbrev pub rows_in : List ℕ → List ℕ
rows_in ws = take (4 * word ws 4) (drop (entry_place 0) ws)
