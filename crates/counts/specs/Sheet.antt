-- The bench sheet's line on the engine, counted.
use Rattle.std.specs.Prelude.{ℕ, ◌≡◌, List, [], ◌∷◌, ◌++◌}
use Rattle.rack.specs.declared.Rack.{Rack}
use Rattle.rack.specs.Places.{of_sizes, record_of}
use Rattle.rack.specs.Run.{fresh_rack, run_of}
use Rattle.counts.specs.Counts.{in_use, total_of, tally_of, requests_by, ends_of}

-- an event in four words: a slot is delivered
abbrev deliver : ℕ → List ℕ
deliver slot = 2 ∷ slot ∷ 0 ∷ 0 ∷ []

-- deliver 0, 1, 0, 1
abbrev four : List ℕ
four = deliver 0 ++ (deliver 1 ++ (deliver 0 ++ deliver 1))

-- client 0 starts a write of 9, which stands as 18, to cell 0; slots 0, 1, 0, 1 are delivered, and again
abbrev schedule : List ℕ
schedule = (1 ∷ 0 ∷ 0 ∷ 18 ∷ []) ++ (four ++ four)

-- the rack after these nine events, from a fresh one of three replicas
abbrev after : Rack
after = (run_of (fresh_rack (of_sizes 3 1 1)) 9 schedule).rack

-- what the line says: messages sent and delivered, slots still used, and the requests that the write has cost
pub record CountLine : Type 0 where
  -- sent 10, delivered 8
  pub tally : tally_of (fresh_rack (of_sizes 3 1 1)) 9 schedule ≡ record { sent = 10; copied = 0; delivered = 8; lost = 0 }
  -- so 2 slots are still used
  pub used : in_use after.wire ≡ 2
  -- the write has ended, and has cost 2 requests to each of 3 replicas
  pub ended : ends_of 0 (record_of after) ≡ 1
  pub requests : total_of (requests_by 0 1) (fresh_rack (of_sizes 3 1 1)) 9 schedule ≡ 6
