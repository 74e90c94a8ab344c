-- Racks that runs lead to, from what the maker gives.
use Rattle.std.specs.Prelude.{ℕ, List}
use Rattle.rack.specs.declared.Rack.{Rack}
use Rattle.rack.specs.Run.{made_of, run_of}
use Rattle.rack.specs.Places.{of_sizes}

-- The racks that runs lead to from what the maker gives, one run after the other, whatever stopped each.
pub data Reached : Rack → Type 0 where
  made : (replicas clients cells : ℕ) → Reached (made_of (of_sizes replicas clients cells)).rack
  ran : (r : Rack) (allowance : ℕ) (events : List ℕ) → Reached r → Reached (run_of r allowance events).rack
