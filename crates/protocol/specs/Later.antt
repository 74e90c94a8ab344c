-- A view that moves can lead to: operations only grow and stamps only rise.
use Rattle.std.specs.Prelude.{◌≡◌, ◌⊎◌, ℕ, ◌≤◌}
use Rattle.protocol.specs.View.{Setting, Op, View}
use Rattle.protocol.specs.Invariant.{Invariant}

-- the operation a may become b, where it was the time now
pub record Grown (now : ℕ) (a b : Op) : Type 0 where
  pub phase : a.phase ≤ b.phase
  -- what was asked stays once begun, the pair once chosen, the end and the set once ended
  pub call : 1 ≤ a.phase → a.call ≡ b.call
  pub held : 2 ≤ a.phase → a.held ≡ b.held
  pub stop : 3 ≤ a.phase → a.stop ≡ b.stop
  pub set : 3 ≤ a.phase → a.set ≡ b.set
  -- what ends doesn't end in the past
  pub ends : 3 ≤ b.phase → (3 ≤ a.phase) ⊎ (now ≤ b.stop)

-- every operation of f may become the one of g with its number, where it was the time t
abbrev pub Grows : ℕ → (ℕ → Op) → (ℕ → Op) → Type 0
Grows t f g = (i : ℕ) → Grown t (f i) (g i)

-- a view that moves can lead to
pub record Later (v w : View) : Type 0 where
  pub ops : Grows v.now v.ops w.ops
  pub pair : (r c : ℕ) → (v.pair r c).stamp ≤ (w.pair r c).stamp

-- the view w keeps the invariants, and is one that moves can lead to from v
pub record Next (S : Setting) (v w : View) : Type 0 where
  pub keeps : Invariant S w
  pub later : Later v w
