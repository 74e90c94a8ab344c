-- What the wrong answers that are ruled out are said of: examples.
use Rattle.std.specs.Prelude.{◌≡◌, [], ◌∷◌}
use Rattle.rack.specs.declared.Ran.{Ran}
use Rattle.rack.specs.Run.{fresh_rack, run_of}
use Rattle.rack.specs.Places.{of_sizes}

-- client 0 of a rack with three replicas starts a write of 9 to cell 0
abbrev pub Starts : Ran → Type 0
Starts q = q ≡ run_of (fresh_rack (of_sizes 3 1 1)) 5 (1 ∷ 0 ∷ 0 ∷ 18 ∷ [])

-- slot 0 of a fresh rack is delivered
abbrev pub Delivers : Ran → Type 0
Delivers q = q ≡ run_of (fresh_rack (of_sizes 3 1 1)) 1 (2 ∷ 0 ∷ 0 ∷ 0 ∷ [])
