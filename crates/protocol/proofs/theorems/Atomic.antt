-- The theorem: in every view that is reached, the operations have tags.
use Rattle.std.specs.Prelude.{◌≡◌, refl, Bool, true, false, cond, ℕ, ◌≤◌, T, leb}
use Rattle.std.proofs.Common.{sym, ap, ◌∙◌, inl, inr, ⊎_elim, arith, leb-true, le-leb}
use Rattle.std.proofs.Math.Decide.{ℕ_discrete}
use Rattle.protocol.specs.View.{Setting, Pair, Op, View, Minted}
use Rattle.protocol.specs.Move.{fresh, Reached, first, then}
use Rattle.protocol.specs.Invariant.{Invariant}
use Rattle.protocol.proofs.theorems.Steps.{step}
use Rattle.protocol.specs.Tagged.{chosen, tag, Gives, Tagged}

-- ---- which operations are chosen

t_leb : (a b : ℕ) → T (leb a b) → a ≤ b
t_leb a b t = go (leb a b) refl t
  where
    go : (x : Bool) → leb a b ≡ x → T x → a ≤ b
    go true e q = leb-true a b e
    go false e q = absurd q

-- a chosen operation has its stamp
chosen_two : (x : Op) → T (chosen x) → 2 ≤ x.phase
chosen_two x t = go x.call.write t
  where
    go : (b : Bool) → T (cond b (leb 2 x.phase) (leb 3 x.phase)) → 2 ≤ x.phase
    go true q = t_leb 2 x.phase q
    go false q = let z = t_leb 3 x.phase q in omega arith

-- a write that has its stamp is chosen, and so is what has ended
write_chosen : (x : Op) → x.call.write ≡ true → 2 ≤ x.phase → T (chosen x)
write_chosen x w p = rw (w, le-leb 2 x.phase p) tt

ended_chosen : (x : Op) → 3 ≤ x.phase → T (chosen x)
ended_chosen x p = go x.call.write
  where
    go : (b : Bool) → T (cond b (leb 2 x.phase) (leb 3 x.phase))
    go true = let l : 2 ≤ x.phase = omega arith in rw (le-leb 2 x.phase l) tt
    go false = rw (le-leb 3 x.phase p) tt

read_ended : (x : Op) → T (chosen x) → x.call.write ≡ false → 3 ≤ x.phase
read_ended x t w = t_leb 3 x.phase (rw w at t)

-- ---- the invariants give tags

module _ (S : Setting) (v : View) (h : Invariant S v) where
  -- two writes with one stamp are of one client, so one ended before the other began, and stamps follow time
  apart : (i j : ℕ) → 2 ≤ (v.ops i).phase → 2 ≤ (v.ops j).phase → (v.ops i).call.write ≡ true → (v.ops j).call.write ≡ true
      → (v.ops i).call.cell ≡ (v.ops j).call.cell → tag (v.ops i) ≡ tag (v.ops j) → i ≡ j
  apart i j a b w x c s = go (ℕ_discrete i j)
    where
      go : Dec (i ≡ j) → i ≡ j
      go (yes q) = q
      go (no q) =
          let one : (v.ops i).call.client ≡ (v.ops j).call.client = sym ((h.signed i).owner a w) ∙ (ap S.owner s ∙ (h.signed j).owner b x) in
          ⊎_elim (λ y. absurd (omega (arith, s, (h.ordered i j y c b).1 x))) (λ y. absurd (omega (arith, s, (h.ordered j i y (sym c) a).1 w)))
          (h.turns i j (omega arith) (omega arith) one q)

  gives : (i : ℕ) → Minted v.ops (v.ops i).call.cell (v.ops i).held → Gives v.ops (v.ops i)
  gives i (inl e) = inl (ap (λ (p : Pair). p.stamp) e, ap (λ (p : Pair). p.value) e)
  gives i (inr (j, k)) =
      inr (
        j,
        (
          write_chosen (v.ops j) k.write k.chosen,
          (
            k.write,
            (
              k.cell,
              (ap (λ (p : Pair). p.stamp) k.held, sym ((h.signed j).value k.chosen k.write) ∙ ap (λ (p : Pair). p.value) k.held),
            ),
          ),
        ),
      )

  pub tagged : Tagged v.ops
  tagged =
      record {
        all = λ i p. ended_chosen (v.ops i) p;
        ended = λ i t w. read_ended (v.ops i) t w;
        above = λ i t w. (h.signed i).above (chosen_two (v.ops i) t) w;
        apart = λ i j t u. apart i j (chosen_two (v.ops i) t) (chosen_two (v.ops j) u);
        rises = λ i j t u c e. (h.ordered i j e c (chosen_two (v.ops j) u)).0;
        climbs = λ i j t u c e w. (h.ordered i j e c (chosen_two (v.ops j) u)).1 w;
        reads = λ i t w. gives i (h.held i (let z = chosen_two (v.ops i) t in omega arith));
      }

-- ---- every run

module _ (S : Setting) where
  pub fresh_keeps : Invariant S fresh
  fresh_keeps =
      record {
        pairs = λ r c. inl refl;
        held = λ i p. absurd (omega arith);
        had = λ i p. absurd (omega arith);
        enough = λ i p. absurd (omega arith);
        asking = λ i j e. absurd (let z = e.0 in omega arith);
        ordered = λ i j e. absurd (let z = e.0 in omega arith);
        turns = λ i j p. absurd (omega arith);
        timed = λ i. record { start = λ p. absurd (omega arith); order = λ p. absurd (omega arith); stop = λ p. absurd (omega arith) };
        signed = λ i. record { rank = λ p. absurd (omega arith); owner = λ p. absurd (omega arith); above = λ p. absurd (omega arith); value = λ p. absurd (omega arith) };
      }

  pub reached_keeps : {v : View} → Reached S v → Invariant S v
  reached_keeps first = fresh_keeps
  reached_keeps (then {v} r m l) = (step S v (reached_keeps r) m l).keeps

  -- whatever the moves, the operations have tags
  pub atomic : (v : View) → Reached S v → Tagged v.ops
  atomic v r = tagged S v (reached_keeps r)
