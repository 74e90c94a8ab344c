-- What the number of events done says of a run.
use Rattle.std.specs.Prelude.{ℕ, ◌+◌, ◌*◌, ◌≤◌, ◌≡◌, List, length}
use Rattle.rack.specs.declared.Ran.{Ran}
use Rattle.rack.specs.Run.{ran_of, run_of}
use Rattle.rack.specs.declared.Rack.{Rack}

-- a run after n events that were done before it
abbrev pub later : ℕ → Ran → Ran
later n q = ran_of (n + q.done) q.refusal q.rack

-- The number done equals the definition's steps: at most the allowance and the whole events, and running exactly so many leaves the same rack with
-- nothing refused.
pub record Exact (r : Rack) (allowance : ℕ) (ws : List ℕ) (q : Ran) : Type 0 where
  pub most : q.done ≤ allowance
  pub words : 4 * q.done ≤ length ws
  pub same : run_of r q.done ws ≡ ran_of q.done 0 q.rack
