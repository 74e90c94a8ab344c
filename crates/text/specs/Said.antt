-- What digits say.
use Rattle.std.specs.Prelude.{ℕ, ◌+◌, ◌-◌, ◌*◌, List, [], ◌∷◌}

-- the number that digits say, after what stands before them
unfoldable pub said : ℕ → List ℕ → ℕ
said n [] = n
said n (d ∷ ds) = said (10 * n + (d - 48)) ds
