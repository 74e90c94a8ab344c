-- When two outcomes of a call are one.
use Rattle.std.specs.Prelude.{ℕ, List, ◌≡◌}
use Rattle.script.specs.declared.Filled.{Filled}
use Rattle.script.specs.Script.{Words}
use Rattle.script.specs.Answers.{refusal_of, place_in, four_in}

-- two answers that refuse alike, at the same place, with the same numbers, and are one answer
pub record SameWords (r r' : Words) : Type 0 where
  pub refusal : refusal_of r ≡ refusal_of r'
  pub place : place_in r ≡ place_in r'
  pub four : four_in r ≡ four_in r'
  pub same : r ≡ r'

-- two outcomes that store as many events, stop at the same place and leave the same words
pub record SameFilled (r r' : Filled) (d d' : List ℕ) : Type 0 where
  pub count : r.count ≡ r'.count
  pub next : r.next ≡ r'.next
  pub words : d ≡ d'
