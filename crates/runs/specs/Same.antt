-- When two outcomes of a call are one.
use Rattle.std.specs.Prelude.{◌≡◌}
use Rattle.rack.specs.declared.Ran.{Ran}

-- two answers with the same number done, the same refusal and the same rack
pub record SameRan (r r' : Ran) : Type 0 where
  pub done : r.done ≡ r'.done
  pub refusal : r.refusal ≡ r'.refusal
  pub rack : r.rack ≡ r'.rack
