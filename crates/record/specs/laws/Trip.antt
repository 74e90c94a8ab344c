-- Whole records: what was written is read, what is read is written back byte for byte, and how long they are.
use Prim.Native.Nat.{ℕ, ◌+◌}
use mathlib.Core.List.{List, [], ◌++◌}
use Rattle.std.specs.Prelude.{◌≡◌, Bool, true, false, drop, Ok}
use Rattle.std.proofs.Math.ListN.{length}
use Rattle.record.specs.declared.Entry.{Entry}
use Rattle.record.specs.Entry.{Found}
use Rattle.record.specs.Legal.{InRange}

-- ---- what was written is read

-- numbers s that hold entries as f writes them: where those of an entry stand, it is found, and after the last one nothing stands
pub record Source (more : ℕ → Bool) (found : ℕ → Found) (f : Entry → List ℕ) (s : List ℕ) : Type 0 where
  pub here : (e : Entry) (at : ℕ) (rest : List ℕ) → InRange e → drop at s ≡ f e ++ rest → (more at ≡ true) × (found at ≡ Ok (e, at + length (f e)))
  pub over : (at : ℕ) → drop at s ≡ [] → more at ≡ false
