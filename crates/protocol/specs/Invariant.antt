-- What every view keeps that is reached.
use Rattle.std.specs.Prelude.{◌≡◌, ◌≢◌, ◌⊎◌, true, ℕ, ◌≤◌, ◌<◌}
use Rattle.protocol.specs.View.{Setting, Op, View, Before, Minted}

-- the times of an operation
pub record Timed (now : ℕ) (a : Op) : Type 0 where
  -- it began in the past
  pub start : 1 ≤ a.phase → a.call.start < now
  -- it ended after it began, and in the past
  pub order : 3 ≤ a.phase → a.call.start < a.stop
  pub stop : 3 ≤ a.phase → a.stop < now

-- the pair that a write has chosen
pub record Signed (S : Setting) (a : Op) : Type 0 where
  -- its client is one of the rack
  pub rank : 1 ≤ a.phase → S.Rank a.call.client
  -- the stamp names the client
  pub owner : 2 ≤ a.phase → a.call.write ≡ true → S.owner a.held.stamp ≡ a.call.client
  -- no write has the fresh stamp
  pub above : 2 ≤ a.phase → a.call.write ≡ true → 0 < a.held.stamp
  -- the value is the one asked for
  pub value : 2 ≤ a.phase → a.call.write ≡ true → a.held.value ≡ a.call.value

-- once a has chosen, the replicas that answered it have its stamp or a greater one
abbrev pub Had : Setting → View → Op → Type 0
Had S v a = 2 ≤ a.phase → (r : ℕ) → S.Has a.set r → a.held.stamp ≤ (v.pair r a.call.cell).stamp

-- a ended before b began, and b is asking: where the same replica answered both, b holds at least a's stamp
abbrev pub Asking : Setting → Op → Op → Type 0
Asking S a b =
    Before a b → a.call.cell ≡ b.call.cell → b.phase ≡ 1 → (r : ℕ) → S.Has a.set r → S.Has b.set r → a.held.stamp ≤ b.held.stamp

-- a ended before b began, and b has chosen: b's stamp isn't below a's, and above it if b is a write
abbrev pub Ordered : Op → Op → Type 0
Ordered a b =
    Before a b → a.call.cell ≡ b.call.cell → 2 ≤ b.phase → (a.held.stamp ≤ b.held.stamp) × (b.call.write ≡ true → a.held.stamp < b.held.stamp)

-- operations of one client don't overlap
abbrev pub Turns : ℕ → Op → ℕ → Op → Type 0
Turns i a j b = 1 ≤ a.phase → 1 ≤ b.phase → a.call.client ≡ b.call.client → i ≢ j → Before a b ⊎ Before b a

-- what holds of every view that is reached, and makes stamps follow time
pub record Invariant (S : Setting) (v : View) : Type 0 where
  -- every replica has the fresh pair or one that a write of that cell chose
  pub pairs : (r c : ℕ) → Minted v.ops c (v.pair r c)
  -- and so has every operation
  pub held : (i : ℕ) → 1 ≤ (v.ops i).phase → Minted v.ops (v.ops i).call.cell (v.ops i).held
  -- who answered kept has it
  pub had : (i : ℕ) → Had S v (v.ops i)
  -- enough had answered what has ended
  pub enough : (i : ℕ) → 3 ≤ (v.ops i).phase → S.KeepEnough (v.ops i).set
  -- an ask phase gathers the stamps of what ended before it
  pub asking : (i j : ℕ) → Asking S (v.ops i) (v.ops j)
  -- stamps follow time
  pub ordered : (i j : ℕ) → Ordered (v.ops i) (v.ops j)
  -- a client does one thing after another
  pub turns : (i j : ℕ) → Turns i (v.ops i) j (v.ops j)
  -- times are past and in order
  pub timed : (i : ℕ) → Timed v.now (v.ops i)
  -- a write's stamp is its client's and its value what was asked
  pub signed : (i : ℕ) → Signed S (v.ops i)
