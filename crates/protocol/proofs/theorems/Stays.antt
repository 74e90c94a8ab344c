-- Messages: what is sent is true, and what is true of a message stays true in every later view.
use Rattle.std.specs.Prelude.{refl, ℕ, ◌≤◌}
use Rattle.std.proofs.Common.{sym, ◌∙◌, arith}
use Rattle.protocol.specs.View.{Setting, Pair, View, Before}
use Rattle.protocol.specs.Message.{Tell, Keep, Kept}
use Rattle.protocol.specs.Move.{put, newer_of, stored}
use Rattle.protocol.specs.Invariant.{Invariant}
use Rattle.protocol.specs.laws.Place.{put_here}
use Rattle.protocol.specs.Later.{Later}
use Rattle.protocol.specs.laws.Growth.{same_cell, same_start, same_stamp, ended_before, minted_grows}
use Rattle.protocol.proofs.theorems.Pairs.{raised_least}

-- ---- what is sent is true

-- a replica that answers the ask of an operation that has begun tells its pair
pub tell_true : (S : Setting) (v : View) → Invariant S v → (o r : ℕ) → 1 ≤ (v.ops o).phase → Tell S v o r (v.pair r (v.ops o).call.cell)
tell_true S v h o r p =
    record {
      begun = p;
      minted = h.pairs r (v.ops o).call.cell;
      earlier = λ a e c m. rw (← c) (h.had a (omega (arith, e.0)) r m);
      still = omega arith;
    }

-- an operation that has chosen says which pair
pub keep_true : (v : View) (o : ℕ) → 2 ≤ (v.ops o).phase → Keep v o (v.ops o).call.cell (v.ops o).held
keep_true v o p = record { chosen = p; cell = refl; held = refl }

-- a replica that was given a keep has at least its stamp, whether it took the pair or not
pub kept_true : (v : View) (o r c : ℕ) (p : Pair) → Keep v o c p → Kept (stored v r c (newer_of (v.pair r c) p)) o r
kept_true v o r c p m =
    let new = newer_of (v.pair r c) p in
    record {
      chosen = m.chosen;
      has = rw (m.cell, m.held, put_here v.pair r (put (v.pair r) c new), put_here (v.pair r) c new) (raised_least (v.pair r c) p).1;
    }

-- ---- and stays true

module _ (v w : View) (g : Later v w) where
  pub tell_stays : (S : Setting) → Invariant S v → (o r : ℕ) (p : Pair) → Tell S v o r p → Tell S w o r p
  tell_stays S h o r p m =
      let k = g.ops o in
      let c = same_cell k m.begun in
      record {
        begun = omega (arith, m.begun, k.phase);
        minted = rw (← c) (minted_grows g.ops (v.ops o).call.cell p m.minted);
        earlier = λ a e d y.
            let t : Before (w.ops a) (v.ops o) = (e.0, omega (arith, e.1, same_start k m.begun)) in
            let b = ended_before (g.ops a) (v.ops o) ((h.timed o).start m.begun) t in
            let z : 2 ≤ (v.ops a).phase = omega (arith, b.0) in
            let l = same_cell (g.ops a) (omega arith) in
            omega (arith, same_stamp (g.ops a) z, m.earlier a b (l ∙ (d ∙ sym c)) (rw ((g.ops a).set b.0) y));
        still = rw (← c) (omega (arith, m.still, g.pair r (v.ops o).call.cell));
      }

  pub keep_stays : (o c : ℕ) (p : Pair) → Keep v o c p → Keep w o c p
  keep_stays o c p m =
      let k = g.ops o in
      record {
        chosen = omega (arith, m.chosen, k.phase);
        cell = sym (same_cell k (omega (arith, m.chosen))) ∙ m.cell;
        held = sym (k.held m.chosen) ∙ m.held;
      }

  pub kept_stays : (o r : ℕ) → Kept v o r → Kept w o r
  kept_stays o r m =
      let k = g.ops o in
      record {
        chosen = omega (arith, m.chosen, k.phase);
        has = rw (← same_cell k (omega (arith, m.chosen)), ← same_stamp k m.chosen) (omega (arith, m.has, g.pair r (v.ops o).call.cell));
      }
