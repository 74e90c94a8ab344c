-- The promise: from a fresh rack, after any events, the record over all cells is lawful. The definitions are those that the code is proved to equal:
-- the maker's (made_of), the schedule's (run_of), the rack's record (record_of) and what lawful means (operations, Lawful).
use Rattle.std.specs.Prelude.{ℕ, Bool, true, false, cond, List}
use Rattle.law.specs.Operation.{operations}
use Rattle.law.specs.Order.{Lawful}
use Rattle.rack.specs.declared.Rack.{Rack}
use Rattle.rack.specs.declared.Made.{Made}
use Rattle.rack.specs.Places.{of_sizes, record_of}
use Rattle.rack.specs.Sound.{settings_fit, quorums_of}
use Rattle.rack.specs.Run.{fresh_rack, made_of, run_of}
use Rattle.protocol.proofs.theorems.Atomic.{atomic}
use Rattle.promise.specs.Setting.{setting_of}
use Rattle.promise.proofs.theorems.Lawful.{shown_lawful}
use Rattle.promise.proofs.theorems.Tied.{Tied}
use Rattle.promise.proofs.theorems.Runs.{run_tied, fresh_tied}
use Rattle.promise.specs.Reached.{Reached, made, ran}

-- the record of a rack that a view stands for
tied_lawful : (r : Rack) → Tied r → Lawful (operations (record_of r))
tied_lawful r k = shown_lawful k.view.ops (record_of r) k.tie.book (atomic (setting_of (quorums_of r.settings)) k.view k.tie.reached)

made_tied : (replicas clients cells : ℕ) → Tied (made_of (of_sizes replicas clients cells)).rack
unfolding made_of
made_tied replicas clients cells = go (settings_fit (of_sizes replicas clients cells))
  where
    go : (t : Bool) → Tied (cond {A = Made} t (record { refusal = 0; rack = fresh_rack (of_sizes replicas clients cells) }) (record { refusal = 1; rack = fresh_rack (of_sizes 1 1 1) })).rack
    go true = fresh_tied replicas clients cells
    go false = fresh_tied 1 1 1

-- From what the maker gives, whatever the sizes: a refused one gives the rack of sizes 1, 1, 1.
pub promise : (replicas clients cells allowance : ℕ) (events : List ℕ) → Lawful (operations (record_of (run_of (made_of (of_sizes replicas clients cells)).rack allowance events).rack))
promise replicas clients cells allowance events =
    tied_lawful (run_of (made_of (of_sizes replicas clients cells)).rack allowance events).rack
    (run_tied (made_of (of_sizes replicas clients cells)).rack allowance events (made_tied replicas clients cells))

-- From a fresh rack.
pub promise_fresh : (replicas clients cells allowance : ℕ) (events : List ℕ) → Lawful (operations (record_of (run_of (fresh_rack (of_sizes replicas clients cells)) allowance events).rack))
promise_fresh replicas clients cells allowance events =
    tied_lawful (run_of (fresh_rack (of_sizes replicas clients cells)) allowance events).rack
    (run_tied (fresh_rack (of_sizes replicas clients cells)) allowance events (fresh_tied replicas clients cells))

reached_tied : (r : Rack) → Reached r → Tied r
reached_tied r (made replicas clients cells) = made_tied replicas clients cells
reached_tied r (ran q allowance events h) = run_tied q allowance events (reached_tied q h)

-- In each of them the record is lawful.
pub promise_reached : (r : Rack) → Reached r → Lawful (operations (record_of r))
promise_reached r h = tied_lawful r (reached_tied r h)
