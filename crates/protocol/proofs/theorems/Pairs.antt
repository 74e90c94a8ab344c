-- Laws of the method's choices between two pairs.
use Rattle.std.specs.Prelude.{◌≡◌, refl, Bool, true, false, cond, ◌||◌, ℕ, ◌≤◌, ◌<◌, eqb}
use Rattle.std.proofs.Common.{arith, ltb-true, ltb-false, eqb-true}
use Rattle.protocol.specs.View.{Setting, Pair, Op}
use Rattle.protocol.specs.Move.{newer, held_of, newer_of}

newer_true : (a b : Pair) → newer a b ≡ true → a.stamp < b.stamp
newer_true a b e = ltb-true a.stamp b.stamp e

newer_false : (a b : Pair) → newer a b ≡ false → b.stamp ≤ a.stamp
newer_false a b e = ltb-false a.stamp b.stamp e

-- ---- what a replica has after a keep: its own or the given pair, with the greater stamp

pub raised_least : (own given : Pair) → (own.stamp ≤ (newer_of own given).stamp) × (given.stamp ≤ (newer_of own given).stamp)
raised_least own given = go (newer own given) refl
  where
    go : (t : Bool) → newer own given ≡ t → (own.stamp ≤ (cond t given own).stamp) × (given.stamp ≤ (cond t given own).stamp)
    go true e = let l = newer_true own given e in (omega arith, omega arith)
    go false e = let l = newer_false own given e in (omega arith, omega arith)

pub raised_is : (P : Pair → Type 0) (own given : Pair) → P own → P given → P (newer_of own given)
raised_is P own given a b = go (newer own given)
  where
    go : (t : Bool) → P (cond t given own)
    go true = b
    go false = a

-- ---- what an operation holds after a tell: told or held before, with the greatest stamp that its set told

pub held_least : (S : Setting) (x : Op) (told : Pair) → (told.stamp ≤ (held_of x told).stamp) × ((r : ℕ) → S.Has x.set r → x.held.stamp ≤ (held_of x told).stamp)
held_least S x told = go (eqb x.set 0) (newer x.held told) refl refl
  where
    go : (f l : Bool) → eqb x.set 0 ≡ f → newer x.held told ≡ l
        → (told.stamp ≤ (cond (f || l) told x.held).stamp) × ((r : ℕ) → S.Has x.set r → x.held.stamp ≤ (cond (f || l) told x.held).stamp)
    go true l e q = (omega arith, λ r m. absurd (S.none r (rw (eqb-true x.set 0 e) at m)))
    go false true e q = let z = newer_true x.held told q in (omega arith, λ r m. omega arith)
    go false false e q = let z = newer_false x.held told q in (omega arith, λ r m. omega arith)

pub held_is : (P : Pair → Type 0) (x : Op) (told : Pair) → P told → P x.held → P (held_of x told)
held_is P x told a b = go (eqb x.set 0 || newer x.held told)
  where
    go : (t : Bool) → P (cond t told x.held)
    go true = a
    go false = b
