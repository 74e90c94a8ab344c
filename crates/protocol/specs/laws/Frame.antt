-- The frame: where one operation changes, what it owes itself gives the invariants of the whole view.
use Rattle.std.specs.Prelude.{◌≡◌, refl, ◌≢◌, ◌⊎◌, true, ℕ, ◌≤◌, ◌<◌}
use Rattle.std.proofs.Common.{sym, ◌∙◌, inl, inr, ⊎_elim, arith}
use Rattle.std.proofs.Math.Decide.{dec_lt}
use Rattle.protocol.specs.View.{Setting, Pair, Op, View, Before, Minted}
use Rattle.protocol.specs.Move.{put, changed}
use Rattle.protocol.specs.Invariant.{Timed, Signed, Had, Asking, Ordered, Turns, Invariant}
use Rattle.protocol.specs.laws.Place.{put_one, put_two}
use Rattle.protocol.specs.Later.{Grown}
use Rattle.protocol.specs.laws.Growth.{grows_put, same_cell, same_start, same_client, same_write, same_stamp, ended_before, minted_grows}

-- What operation o owes when it becomes n and the time t: that it grew, and what the invariants say of it. What stood before needn't be shown
-- again: the order once it had chosen, the turns once it had begun.
pub record Change (S : Setting) (v : View) (o : ℕ) (n : Op) (t : ℕ) : Type 0 where
  pub grown : Grown v.now (v.ops o) n
  pub later : v.now ≤ t
  pub held : 1 ≤ n.phase → Minted (put v.ops o n) n.call.cell n.held
  pub had : Had S v n
  pub enough : 3 ≤ n.phase → S.KeepEnough n.set
  pub asking : (i : ℕ) → Asking S (v.ops i) n
  pub ordered : (i : ℕ) → (v.ops o).phase < 2 → Ordered (v.ops i) n
  pub turns : (i : ℕ) → (v.ops o).phase ≡ 0 → Turns i (v.ops i) o n
  pub timed : Timed t n
  pub signed : Signed S n

module _ (S : Setting) (v : View) (o : ℕ) (n : Op) (t : ℕ) (h : Invariant S v) (k : Change S v o n t) where
  g : Grown v.now (v.ops o) n
  g = k.grown

  -- the operation isn't before itself
  self : Before n n → ⊥
  self e = omega (arith, k.timed.order e.0, e.1)

  -- what n is before, the operation was before
  was : (j : ℕ) → 1 ≤ (v.ops j).phase → Before n (v.ops j) → Before (v.ops o) (v.ops j)
  was j p = ended_before g (v.ops j) ((h.timed j).start p)

  -- n before another

  asking_by : (j : ℕ) → j ≢ o → Asking S n (v.ops j)
  asking_by j d e c p r x y =
      let a = was j (omega arith) e in
      let q = h.asking o j a (same_cell g (omega (arith, a.0)) ∙ c) p r (rw (g.set a.0) x) y in
      omega (arith, same_stamp g (omega (arith, a.0)))

  ordered_by : (j : ℕ) → j ≢ o → Ordered n (v.ops j)
  ordered_by j d e c p =
      let a = was j (omega arith) e in
      let q = h.ordered o j a (same_cell g (omega (arith, a.0)) ∙ c) p in
      let z = same_stamp g (omega (arith, a.0)) in
      (omega (arith, q.0), λ w. omega (arith, q.1 w))

  -- another before n

  ordered_to : (i : ℕ) → i ≢ o → Ordered (v.ops i) n
  ordered_to i d e c p = go (dec_lt (v.ops o).phase 2)
    where
      go : Dec ((v.ops o).phase < 2) → ((v.ops i).held.stamp ≤ n.held.stamp) × (n.call.write ≡ true → (v.ops i).held.stamp < n.held.stamp)
      go (yes q) = k.ordered i q e c p
      go (no q) =
          let l : 2 ≤ (v.ops o).phase = omega arith in
          let m : 1 ≤ (v.ops o).phase = omega arith in
          let b : Before (v.ops i) (v.ops o) = (e.0, omega (arith, e.1, same_start g m)) in
          let z = same_stamp g l in
          let a = h.ordered i o b (c ∙ sym (same_cell g m)) l in
          (omega (arith, a.0), λ w. omega (arith, a.1 (same_write g m ∙ w)))

  turn : (i : ℕ) → i ≢ o → Turns i (v.ops i) o n
  turn i d x y w = go (dec_lt 0 (v.ops o).phase)
    where
      go : Dec (0 < (v.ops o).phase) → i ≢ o → Before (v.ops i) n ⊎ Before n (v.ops i)
      go (yes q) =
          λ e. ⊎_elim
          (λ b. inl (b.0, omega (arith, b.1, same_start g q)))
          (λ b. inr (omega (arith, b.0, g.phase), omega (arith, b.1, g.stop b.0)))
          (h.turns i o x q (w ∙ sym (same_client g q)) e)
      go (no q) = k.turns i (omega arith) x y w

  timed_to : (i : ℕ) → Timed t (v.ops i)
  timed_to i =
      let a = h.timed i in
      record { start = λ p. omega (arith, a.start p, k.later); order = a.order; stop = λ p. omega (arith, a.stop p, k.later) }

  minted : (c : ℕ) (p : Pair) → Minted v.ops c p → Minted (put v.ops o n) c p
  minted = minted_grows (grows_put v.now v.ops o n g)

  pub frame : Invariant S (changed v o n t)
  frame =
      record {
        pairs = λ r c. minted c (v.pair r c) (h.pairs r c);
        held = put_one (λ i x. 1 ≤ x.phase → Minted (put v.ops o n) x.call.cell x.held) v.ops o n k.held
            (λ i d p. minted (v.ops i).call.cell (v.ops i).held (h.held i p));
        had = put_one (λ i x. Had S v x) v.ops o n k.had (λ i d. h.had i);
        enough = put_one (λ i x. 3 ≤ x.phase → S.KeepEnough x.set) v.ops o n k.enough (λ i d. h.enough i);
        asking = put_two (λ i x j y. Asking S x y) v.ops o n (λ e. absurd (self e)) asking_by (λ i d. k.asking i) (λ i j d e. h.asking i j);
        ordered = put_two (λ i x j y. Ordered x y) v.ops o n (λ e. absurd (self e)) ordered_by ordered_to (λ i j d e. h.ordered i j);
        turns = put_two Turns v.ops o n (λ x y w e. absurd (e refl)) (λ j d x y w e. swap (turn j d y x (sym w) (λ q. e (sym q)))) turn (λ i j d e. h.turns i j);
        timed = put_one (λ i x. Timed t x) v.ops o n k.timed (λ i d. timed_to i);
        signed = put_one (λ i x. Signed S x) v.ops o n k.signed (λ i d. h.signed i);
      }
    where
      swap : {A B : Type 0} → A ⊎ B → B ⊎ A
      swap (inl a) = inr a
      swap (inr b) = inl b
