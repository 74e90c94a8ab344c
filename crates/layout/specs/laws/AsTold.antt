-- What the theorems of AsTold speak of.
use Rattle.std.specs.Prelude.{ℕ, ◌≡◌, ◌≢◌, None, Some, Option}
use Rattle.method.specs.declared.Operation.{Operation}
use Rattle.method.specs.declared.Phase.{Phase}
use Rattle.method.specs.declared.Phase.TheVariants.{Asking, Keeping}

-- in the ask phase nothing is held exactly while the set is empty
abbrev pub PhaseAsTold : ℕ → Phase → Type 0
PhaseAsTold set (Asking None) = set ≡ 0
PhaseAsTold set (Asking (Some p)) = set ≢ 0
PhaseAsTold set (Keeping p) = Unit {0}

-- so it is with an open operation
abbrev pub AsTold : Option Operation → Type 0
AsTold None = Unit {0}
AsTold (Some o) = PhaseAsTold o.set o.phase
