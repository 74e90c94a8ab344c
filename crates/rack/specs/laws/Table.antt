-- The table of refusals: a number is given exactly when it applies and no smaller one does, and an event is done exactly when none applies. And the order
-- in which the code tests gives the same.
use Prim.Native.Nat.{ℕ, ◌+◌, ◌≤◌, ◌<◌}
use Rattle.std.specs.Prelude.{◌≡◌, Bool}
use Rattle.std.proofs.Math.Bool.{true, false, cond}
use Rattle.method.specs.declared.Event.{Event}
use Rattle.method.specs.Decision.{Decision, refused}
use Rattle.method.specs.Refusals.{decision_of}
use Rattle.rack.specs.declared.Rack.{Rack}
use Rattle.rack.specs.Places.{room_of}
use Rattle.rack.specs.Sound.{owed}
use Rattle.rack.specs.Looking.{in_rack, looked_held, sight}
use Rattle.rack.specs.Refusals.{checked}

-- ---- the least number that passes

-- what is so of the least number j that passes, if there is one
pub record Least (n k : ℕ) (f : ℕ → Bool) (j : ℕ) : Type 0 where
  pub passes : f j ≡ true
  pub from : k ≤ j
  pub below : j < k + n
  pub first : (i : ℕ) → k ≤ i → i < j → f i ≡ false

-- ---- the order in which the code tests

-- 3 first, then what the sight tells, then 11 and 13
abbrev pub in_order : Rack → Event → Decision
in_order r e =
    cond (in_rack r.settings e) (checked (decision_of (sight r e) (looked_held r e) e) (r.count + owed r) (room_of r.wire)) (refused 3)
