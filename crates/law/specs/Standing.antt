-- What each client has open after a record's entries.
use Rattle.std.specs.Prelude.{List, [], ◌∷◌, ℕ, get_or}
use Rattle.record.specs.declared.Entry.{Entry}
use Rattle.record.specs.declared.Standing.{Standing}
use Rattle.record.specs.Record.{fresh, standing_after}

-- what is open after the entries es
abbrev pub standing_from : Standing → List Entry → Standing
standing_from st [] = st
standing_from st (e ∷ es) = standing_from (standing_after st e) es

-- what is open after all entries of a record
abbrev pub standing : List Entry → Standing
standing es = standing_from fresh es

-- what client k has open: nothing is 0
abbrev pub has : Standing → ℕ → ℕ
has st k = get_or st.has k 0
