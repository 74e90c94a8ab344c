-- What is decided of an event.
use Rattle.std.specs.Prelude.{ℕ, Result, Err}
use Rattle.method.specs.declared.Plan.{Plan}

-- an event is refused, by its number in the paper, or done as planned
abbrev pub Decision : Type 0
Decision = Result Plan ℕ

-- refused by this number
abbrev pub refused : ℕ → Decision
refused k = Err k
