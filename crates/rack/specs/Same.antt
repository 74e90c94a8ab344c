-- When two outcomes of a call are one.
use Rattle.std.specs.Prelude.{◌≡◌}
use Rattle.method.specs.declared.Event.{Event}
use Rattle.rack.specs.declared.Made.{Made}
use Rattle.rack.specs.Answers.{kind_in, first_in, cell_in, value_in}

-- two events of the same kind, that name the same, and are one event
pub record SameEvent (r r' : Event) : Type 0 where
  pub kind : kind_in r ≡ kind_in r'
  pub first : first_in r ≡ first_in r'
  pub cell : cell_in r ≡ cell_in r'
  pub value : value_in r ≡ value_in r'
  pub same : r ≡ r'

-- two answers with the same refusal and the same rack
pub record SameMade (r r' : Made) : Type 0 where
  pub refusal : r.refusal ≡ r'.refusal
  pub rack : r.rack ≡ r'.rack
