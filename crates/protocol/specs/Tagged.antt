-- What the argument ends in: the operations of a view have tags. The same conditions as those of the law's tag theorem, over operations by number.
use Rattle.std.specs.Prelude.{◌≡◌, ◌⊎◌, Bool, true, false, cond, ℕ, ◌≤◌, ◌<◌, T, leb, pos}
use Rattle.protocol.specs.View.{Op, Before}

-- chosen for the order: a write that has its stamp, a read that has ended
abbrev pub chosen : Op → Bool
chosen x = cond x.call.write (leb 2 x.phase) (leb 3 x.phase)

-- the tag is the stamp
abbrev pub tag : Op → ℕ
tag x = x.held.stamp

-- the read x gives zero, with tag 0, or what a chosen write of its cell with the same tag wrote
abbrev pub Gives : (ℕ → Op) → Op → Type 0
Gives ops x =
    ((tag x ≡ 0) × (x.held.value ≡ pos 0))
    ⊎ ((w : ℕ) × (T (chosen (ops w)) × (((ops w).call.write ≡ true) × (((ops w).call.cell ≡ x.call.cell) × ((tag (ops w) ≡ tag x) × ((ops w).call.value ≡ x.held.value))))))

-- stamps are tags of the operations, cell by cell
pub record Tagged (ops : ℕ → Op) : Type 0 where
  -- every ended operation is chosen
  pub all : (i : ℕ) → 3 ≤ (ops i).phase → T (chosen (ops i))
  -- a chosen read has ended
  pub ended : (i : ℕ) → T (chosen (ops i)) → (ops i).call.write ≡ false → 3 ≤ (ops i).phase
  -- chosen writes have tags above 0
  pub above : (i : ℕ) → T (chosen (ops i)) → (ops i).call.write ≡ true → 0 < tag (ops i)
  -- and each its own in its cell
  pub apart : (i j : ℕ) → T (chosen (ops i)) → T (chosen (ops j)) → (ops i).call.write ≡ true → (ops j).call.write ≡ true
      → (ops i).call.cell ≡ (ops j).call.cell → tag (ops i) ≡ tag (ops j) → i ≡ j
  -- tags don't fall from an operation to one that it is before
  pub rises : (i j : ℕ) → T (chosen (ops i)) → T (chosen (ops j)) → (ops i).call.cell ≡ (ops j).call.cell → Before (ops i) (ops j) → tag (ops i) ≤ tag (ops j)
  -- and rise where that one is a write
  pub climbs : (i j : ℕ) → T (chosen (ops i)) → T (chosen (ops j)) → (ops i).call.cell ≡ (ops j).call.cell → Before (ops i) (ops j) → (ops j).call.write ≡ true
      → tag (ops i) < tag (ops j)
  -- a chosen read gives zero or what was written under its tag
  pub reads : (i : ℕ) → T (chosen (ops i)) → (ops i).call.write ≡ false → Gives ops (ops i)
