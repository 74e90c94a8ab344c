-- Each move keeps the invariants, and leads to a later view.
use Rattle.std.specs.Prelude.{◌≡◌, refl, Bool, true, false, cond, ℕ, suc, ◌≤◌, ◌<◌, ℤ}
use Rattle.std.proofs.Common.{sym, ◌∙◌, inl, inr, ⊎_elim, true≢false, arith}
use Rattle.protocol.specs.View.{Setting, Pair, Op, View, Before, Minted}
use Rattle.protocol.specs.Message.{Keep}
use Rattle.protocol.specs.Move.{Move, start, hear, choose, take, count, finish, Legal, held_of, new_of, chosen_of, begun, heard, keeping, counted, ended, put, changed, stored}
use Rattle.protocol.specs.Move.{after}
use Rattle.protocol.specs.Invariant.{Timed, Invariant}
use Rattle.protocol.specs.laws.Place.{put_one, put_here}
use Rattle.protocol.specs.Later.{Grown, Next}
use Rattle.protocol.specs.laws.Growth.{grown_same, grown_open, grows_put, minted_grows}
use Rattle.protocol.specs.laws.Frame.{Change, frame}
use Rattle.protocol.proofs.theorems.Pairs.{raised_is, raised_least, held_is, held_least}

module _ (S : Setting) (v : View) (h : Invariant S v) where
  -- what may be held in the view may be held after operation o grew
  stays : (o : ℕ) (n : Op) → Grown v.now (v.ops o) n → (c : ℕ) (p : Pair) → Minted v.ops c p → Minted (put v.ops o n) c p
  stays o n g = minted_grows (grows_put v.now v.ops o n g)

  -- the times of an operation that neither begins nor ends
  timed_open : (o : ℕ) (n : Op) → 1 ≤ (v.ops o).phase → n.phase < 3 → (v.ops o).call ≡ n.call → Timed v.now n
  timed_open o n p q e =
      record {
        start = λ z. rw (← e) ((h.timed o).start p);
        order = λ z. absurd (omega arith);
        stop = λ z. absurd (omega arith);
      }

  -- ---- a start

  start_owes : (o client cell : ℕ) (write : Bool) (value : ℤ) → Legal S v (start o client cell write value)
      → Change S v o (begun (record { client = client; cell = cell; write = write; value = value; start = v.now })) (suc v.now)
  start_owes o client cell write value (p, (rank, free)) =
      record {
        grown = grown_open v.now (v.ops o) _ (omega arith) (omega arith) (λ q. absurd (omega arith)) (λ q. absurd (omega arith)) (λ q. absurd (omega arith));
        later = omega arith;
        held = λ q. inl refl;
        had = λ q. absurd (omega arith);
        enough = λ q. absurd (omega arith);
        asking = λ i e c q r x y. absurd (S.none r y);
        ordered = λ i q e c z. absurd (omega arith);
        turns = λ i q a z e d. inl (free i e a, omega (arith, (h.timed i).stop (free i e a)));
        timed = record { start = λ q. omega arith; order = λ q. absurd (omega arith); stop = λ q. absurd (omega arith) };
        signed = record { rank = λ q. rank; owner = λ q. absurd (omega arith); above = λ q. absurd (omega arith); value = λ q. absurd (omega arith) };
      }

  -- ---- the ask phase

  -- a tell that is counted brings at least the stamps of what ended earlier and was kept by its replica
  hear_owes : (o r : ℕ) (told : Pair) → Legal S v (hear o r told) → Change S v o (heard S (v.ops o) r told) v.now
  hear_owes o r told (p, m) =
      let x = v.ops o in
      let n = heard S x r told in
      let g : Grown v.now x n = grown_open v.now x n (omega arith) (omega arith) (λ q. refl) (λ q. absurd (omega arith)) (λ q. absurd (omega arith)) in
      let least = held_least S x told in
      record {
        grown = g;
        later = omega arith;
        held = λ q. stays o n g x.call.cell (held_of x told) (held_is (Minted v.ops x.call.cell) x told m.minted (h.held o (omega arith)));
        had = λ q. absurd (omega arith);
        enough = λ q. absurd (omega arith);
        asking = λ i e c q z y1 y2.
            ⊎_elim (λ u. omega (arith, m.earlier i e c (rw u at y1), least.0)) (λ u. omega (arith, h.asking i o e c p z y1 u, least.1 z u)) (S.joined x.set r z y2);
        ordered = λ i q e c z. absurd (omega arith);
        turns = λ i q. absurd (omega arith);
        timed = timed_open o n (omega arith) (omega arith) refl;
        signed = record { rank = (h.signed o).rank; owner = λ q. absurd (omega arith); above = λ q. absurd (omega arith); value = λ q. absurd (omega arith) };
      }

  -- enough told: the operation holds at least the stamp of whatever ended before it began, for its keepers and these share a replica
  pub covers : (o : ℕ) → (v.ops o).phase ≡ 1 → S.AskEnough (v.ops o).set → (i : ℕ) → Before (v.ops i) (v.ops o) → (v.ops i).call.cell ≡ (v.ops o).call.cell
      → (v.ops i).held.stamp ≤ (v.ops o).held.stamp
  covers o p q i e c =
      let m = S.meet (v.ops o).set (v.ops i).set q (h.enough i e.0) in
      h.asking i o e c p m.0 m.1.1 m.1.0

  -- what the pair p owes that operation o chooses: it is minted once o has it, and a write's is greater, the client's own and with the value asked
  record Choice (o : ℕ) (p : Pair) : Type 0 where
    minted : (n : Op) → n.phase ≡ 2 → n.call ≡ (v.ops o).call → n.held ≡ p → Minted (put v.ops o n) (v.ops o).call.cell p
    least : (v.ops o).held.stamp ≤ p.stamp
    above : (v.ops o).call.write ≡ true → (v.ops o).held.stamp < p.stamp
    owner : (v.ops o).call.write ≡ true → S.owner p.stamp ≡ (v.ops o).call.client
    value : (v.ops o).call.write ≡ true → p.value ≡ (v.ops o).call.value

  choice : (o : ℕ) → (v.ops o).phase ≡ 1 → Choice o (chosen_of S (v.ops o))
  choice o p = go (v.ops o).call.write refl
    where
      x : Op
      x = v.ops o

      go : (b : Bool) → x.call.write ≡ b → Choice o (cond b (new_of S x) x.held)
      go true w =
          let m = S.rises x.held.stamp x.call.client in
          record {
            minted = λ n a b c. inr (o, rw (put_here v.ops o n) (record { write = rw b w; chosen = omega arith; cell = rw b refl; held = c }));
            least = omega arith;
            above = λ t. omega arith;
            owner = λ t. S.owned x.held.stamp x.call.client ((h.signed o).rank (omega arith));
            value = λ t. refl;
          }
      go false w =
          let no : x.call.write ≡ true → ⊥ = λ t. true≢false (sym t ∙ w) in
          record {
            minted = λ n a b c.
                stays o n (grown_open v.now x n (omega arith) (omega arith) (λ q. sym b) (λ q. absurd (omega arith)) (λ q. absurd (omega arith))) x.call.cell x.held
                (h.held o (omega arith));
            least = omega arith;
            above = λ t. absurd (no t);
            owner = λ t. absurd (no t);
            value = λ t. absurd (no t);
          }

  choose_owes : (o : ℕ) → Legal S v (choose o) → Change S v o (keeping S (v.ops o)) v.now
  choose_owes o (p, q) =
      let x = v.ops o in
      let n = keeping S x in
      let k = choice o p in
      record {
        grown = grown_open v.now x n (omega arith) (omega arith) (λ z. refl) (λ z. absurd (omega arith)) (λ z. absurd (omega arith));
        later = omega arith;
        held = λ z. k.minted n refl refl refl;
        had = λ z r y. absurd (S.none r y);
        enough = λ z. absurd (omega arith);
        asking = λ i e c z. absurd (omega arith);
        ordered = λ i z e c u. let a = covers o p q i e c in (omega (arith, k.least), λ w. omega (arith, k.above w));
        turns = λ i z. absurd (omega arith);
        timed = timed_open o n (omega arith) (omega arith) refl;
        signed = record { rank = λ z. (h.signed o).rank (omega arith); owner = λ z. k.owner; above = λ z w. omega (arith, k.above w); value = λ z. k.value };
      }

  -- ---- the keep phase

  count_owes : (o r : ℕ) → Legal S v (count o r) → Change S v o (counted S (v.ops o) r) v.now
  count_owes o r (p, m) =
      let x = v.ops o in
      let n = counted S x r in
      let g : Grown v.now x n = grown_open v.now x n (omega arith) (omega arith) (λ q. refl) (λ q. refl) (λ q. absurd (omega arith)) in
      record {
        grown = g;
        later = omega arith;
        held = λ q. stays o n g x.call.cell x.held (h.held o (omega arith));
        had = λ q z y. ⊎_elim (λ u. rw u m.has) (λ u. h.had o (omega arith) z u) (S.joined x.set r z y);
        enough = λ q. absurd (omega arith);
        asking = λ i e c z. absurd (omega arith);
        ordered = λ i q. absurd (omega arith);
        turns = λ i q. absurd (omega arith);
        timed = timed_open o n (omega arith) (omega arith) refl;
        signed = let k = h.signed o in record { rank = k.rank; owner = k.owner; above = k.above; value = k.value };
      }

  -- an operation may end from any phase, if the replicas that answered are enough for a keep and have its stamp, no earlier one has a greater
  -- stamp, and a write has chosen
  pub finish_owes : (o : ℕ) → 1 ≤ (v.ops o).phase → (v.ops o).phase < 3 → S.KeepEnough (v.ops o).set
      → ((r : ℕ) → S.Has (v.ops o).set r → (v.ops o).held.stamp ≤ (v.pair r (v.ops o).call.cell).stamp)
      → ((i : ℕ) → Before (v.ops i) (v.ops o) → (v.ops i).call.cell ≡ (v.ops o).call.cell → (v.ops i).held.stamp ≤ (v.ops o).held.stamp)
      → ((v.ops o).call.write ≡ true → 2 ≤ (v.ops o).phase)
      → Change S v o (ended (v.ops o) v.now) (suc v.now)
  finish_owes o p l q had late wrote =
      let x = v.ops o in
      let n = ended x v.now in
      let g : Grown v.now x n = grown_open v.now x n l (omega arith) (λ z. refl) (λ z. refl) (λ z. omega arith) in
      let began = (h.timed o).start p in
      let k = h.signed o in
      record {
        grown = g;
        later = omega arith;
        held = λ z. stays o n g x.call.cell x.held (h.held o p);
        had = λ z. had;
        enough = λ z. q;
        asking = λ i e c z. absurd (omega arith);
        ordered = λ i z e c u. (late i e c, λ w. absurd (omega (arith, wrote w)));
        turns = λ i z. absurd (omega arith);
        timed = record { start = λ z. omega arith; order = λ z. began; stop = λ z. omega arith };
        signed = record { rank = λ z. k.rank p; owner = λ z w. k.owner (wrote w) w; above = λ z w. k.above (wrote w) w; value = λ z w. k.value (wrote w) w };
      }

  -- the method's end is from the keep phase
  end_owes : (o : ℕ) → Legal S v (finish o) → Change S v o (ended (v.ops o) v.now) (suc v.now)
  end_owes o (p, q) =
      finish_owes o (omega arith) (omega arith) q (h.had o (omega arith)) (λ i e c. (h.ordered i o e c (omega arith)).0) (λ w. omega arith)

  -- ---- a replica is given a keep

  -- stamps only rise
  raises : (r c : ℕ) (p : Pair) → (v.pair r c).stamp ≤ p.stamp → (q d : ℕ) → (v.pair q d).stamp ≤ ((stored v r c p).pair q d).stamp
  raises r c p le =
      put_one (λ q f. (d : ℕ) → (v.pair q d).stamp ≤ (f d).stamp) v.pair r (put (v.pair r) c p)
      (put_one (λ d s. (v.pair r d).stamp ≤ s.stamp) (v.pair r) c p le (λ d z. omega arith))
      (λ q z d. omega arith)

  stored_keeps : (r c : ℕ) (p : Pair) → (v.pair r c).stamp ≤ p.stamp → Minted v.ops c p → Invariant S (stored v r c p)
  stored_keeps r c p le m =
      record {
        pairs = put_one (λ q f. (d : ℕ) → Minted v.ops d (f d)) v.pair r (put (v.pair r) c p)
            (put_one (λ d s. Minted v.ops d s) (v.pair r) c p m (λ d z. h.pairs r d))
            (λ q z. h.pairs q);
        held = h.held;
        had = λ i q z x. omega (arith, raises r c p le z (v.ops i).call.cell, h.had i q z x);
        enough = h.enough;
        asking = h.asking;
        ordered = h.ordered;
        turns = h.turns;
        timed = h.timed;
        signed = h.signed;
      }

  given_minted : (o c : ℕ) (p : Pair) → Keep v o c p → Minted v.ops c p
  given_minted o c p m = rw (← m.cell, ← m.held) (h.held o (omega (arith, m.chosen)))

  -- ---- every move

  next_changed : (o : ℕ) (n : Op) (t : ℕ) → Change S v o n t → Next S v (changed v o n t)
  next_changed o n t k =
      record { keeps = frame S v o n t h k; later = record { ops = grows_put v.now v.ops o n k.grown; pair = λ r c. omega arith } }

  next_stored : (r c : ℕ) (p : Pair) → (v.pair r c).stamp ≤ p.stamp → Minted v.ops c p → Next S v (stored v r c p)
  next_stored r c p le m =
      record { keeps = stored_keeps r c p le m; later = record { ops = λ i. grown_same v.now (v.ops i); pair = raises r c p le } }

  pub step : (m : Move) → Legal S v m → Next S v (after S v m)
  step (start o client cell write value) l = next_changed o _ (suc v.now) (start_owes o client cell write value l)
  step (hear o r told) l = next_changed o _ v.now (hear_owes o r told l)
  step (choose o) l = next_changed o _ v.now (choose_owes o l)
  step (take o r cell given) l =
      let own = v.pair r cell in
      next_stored r cell _ (raised_least own given).0 (raised_is (Minted v.ops cell) own given (h.pairs r cell) (given_minted o cell given l))
  step (count o r) l = next_changed o _ v.now (count_owes o r l)
  step (finish o) l = next_changed o _ (suc v.now) (end_owes o l)
