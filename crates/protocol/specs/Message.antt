-- What a message means: a fact that is true when it is sent and stays true, so that it does no harm late, twice or never.
use Rattle.std.specs.Prelude.{◌≡◌, ℕ, ◌≤◌}
use Rattle.protocol.specs.View.{Setting, Pair, View, Before, Minted}

-- Tell: replica r answers the ask of operation o with the pair p.
pub record Tell (S : Setting) (v : View) (o r : ℕ) (p : Pair) : Type 0 where
  -- the operation has begun
  pub begun : 1 ≤ (v.ops o).phase
  -- the pair is one of its cell
  pub minted : Minted v.ops (v.ops o).call.cell p
  -- what ended before the operation began, and was kept by r, is not above what r told
  pub earlier : (a : ℕ) → Before (v.ops a) (v.ops o) → (v.ops a).call.cell ≡ (v.ops o).call.cell → S.Has (v.ops a).set r → (v.ops a).held.stamp ≤ p.stamp
  -- the replica still has at least this stamp
  pub still : p.stamp ≤ (v.pair r (v.ops o).call.cell).stamp

-- Keep: operation o has chosen the pair p for cell c.
pub record Keep (v : View) (o c : ℕ) (p : Pair) : Type 0 where
  pub chosen : 2 ≤ (v.ops o).phase
  pub cell : (v.ops o).call.cell ≡ c
  pub held : (v.ops o).held ≡ p

-- Kept: replica r has at least the stamp that operation o has chosen.
pub record Kept (v : View) (o r : ℕ) : Type 0 where
  pub chosen : 2 ≤ (v.ops o).phase
  pub has : (v.ops o).held.stamp ≤ (v.pair r (v.ops o).call.cell).stamp
