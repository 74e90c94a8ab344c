-- From one event to a run: what every done event keeps and adds, a run keeps and adds up.
use Prim.Native.Nat.{ℕ, zero, suc, ◌+◌}
use Rattle.std.specs.Prelude.{◌≡◌, true, false, Err, Ok}
use Rattle.std.proofs.Math.Path.{refl, ap, subst}
use Rattle.std.proofs.Common.{sym, ◌∙◌, arith}
use mathlib.Core.List.{List, [], ◌∷◌}
use Rattle.method.specs.declared.Event.{Event}
use Rattle.method.specs.declared.Plan.{Plan}
use Rattle.method.specs.Decision.{Decision}
use Rattle.rack.specs.declared.Rack.{Rack}
use Rattle.rack.specs.declared.Ran.{Ran}
use Rattle.rack.specs.declared.Made.{Made}
use Rattle.rack.specs.Sound.{settings_fit, sound_of}
use Rattle.rack.specs.Run.{event_of, applied_of, turn, run_from, run_of, fresh_rack, made_of}
use Rattle.rack.specs.Refusals.{decided}
use Rattle.rack.specs.Counts.{counted, count_over}
use Rattle.runs.specs.laws.Steps.{run_from_lem, run_steps, from_unsound}
use Rattle.counts.specs.Counts.{total_of}
use Rattle.method.specs.laws.Tests.{whichever}
use Rattle.rack.specs.Places.{of_sizes}

-- ---- two counts at once

both_over : (f g : Event → Plan → ℕ) (left : ℕ) (r : Rack) (ws : List ℕ) → count_over (λ e p. f e p + g e p) left r ws ≡ count_over f left r ws + count_over g left r ws
unfolding count_over counted
both_over f g zero r ws = refl
both_over f g (suc left) r [] = refl
both_over f g (suc left) r (k ∷ []) = refl
both_over f g (suc left) r (k ∷ a ∷ []) = refl
both_over f g (suc left) r (k ∷ a ∷ b ∷ []) = refl
both_over f g (suc left) r (k ∷ a ∷ b ∷ v ∷ ws) = go (decided r (event_of k a b v)) (λ q. both_over f g left q ws)
  where
    go : (o : Decision) → ((q : Rack) → count_over (λ e p. f e p + g e p) left q ws ≡ count_over f left q ws + count_over g left q ws)
        → counted (λ e p. f e p + g e p) r (event_of k a b v) o (λ q. count_over (λ e p. f e p + g e p) left q ws)
        ≡ counted f r (event_of k a b v) o (λ q. count_over f left q ws) + counted g r (event_of k a b v) o (λ q. count_over g left q ws)
    go (Err n) ih = refl
    go (Ok p) ih = omega (arith, ih (applied_of r (event_of k a b v) p))

pub both : (f g : Event → Plan → ℕ) (r : Rack) (allowance : ℕ) (ws : List ℕ)
    → total_of (λ e p. f e p + g e p) r allowance ws ≡ total_of f r allowance ws + total_of g r allowance ws
unfolding total_of
both f g r allowance ws = both_over f g (run_of r allowance ws).done r ws

-- ---- a run of a sound rack

-- What every done event keeps, and a number of the rack to which each adds one count and from which it takes another.
pub record Adds (I : Rack → Type 0) (v : Rack → ℕ) (less more : Event → Plan → ℕ) (r : Rack) (e : Event) (p : Plan) : Type 0 where
  pub keeps : I (applied_of r e p)
  pub adds : v (applied_of r e p) + less e p ≡ v r + more e p

module _ (I : Rack → Type 0) (v : Rack → ℕ) (less more : Event → Plan → ℕ) (step : (r : Rack) (e : Event) (p : Plan) → I r → decided r e ≡ Ok p → Adds I v less more r e p) where
  from_adds : (done : ℕ) (r : Rack) (left : ℕ) (ws : List ℕ) → I r
      → I (run_from done r left ws).rack × (v (run_from done r left ws).rack + count_over less left r ws ≡ v r + count_over more left r ws)
  unfolding run_from turn count_over counted
  from_adds done r zero ws i = (i, refl)
  from_adds done r (suc left) [] i = (i, refl)
  from_adds done r (suc left) (k ∷ []) i = (i, refl)
  from_adds done r (suc left) (k ∷ a ∷ []) i = (i, refl)
  from_adds done r (suc left) (k ∷ a ∷ b ∷ []) i = (i, refl)
  from_adds done r (suc left) (k ∷ a ∷ b ∷ w ∷ ws) i = go (decided r (event_of k a b w)) refl (λ q. from_adds (done + 1) q left ws)
    where
      go : (o : Decision) → decided r (event_of k a b w) ≡ o
          → ((q : Rack) → I q → I (run_from (done + 1) q left ws).rack × (v (run_from (done + 1) q left ws).rack + count_over less left q ws ≡ v q + count_over more left q ws))
          → I (turn done r (event_of k a b w) o (λ q. run_from (done + 1) q left ws)).rack
          × (v (turn done r (event_of k a b w) o (λ q. run_from (done + 1) q left ws)).rack + counted less r (event_of k a b w) o (λ q. count_over less left q ws)
          ≡ v r + counted more r (event_of k a b w) o (λ q. count_over more left q ws))
      go (Err n) e ih = (i, refl)
      go (Ok p) e ih =
          let s = step r (event_of k a b w) p i e in
          let t = ih (applied_of r (event_of k a b w) p) s.keeps in
          (t.0, omega (arith, s.adds, t.1))

  -- just the events done leave the same rack
  pub run_adds : (r : Rack) (allowance : ℕ) (ws : List ℕ) → sound_of r ≡ true → I r
      → I (run_of r allowance ws).rack × (v (run_of r allowance ws).rack + total_of less r allowance ws ≡ v r + total_of more r allowance ws)
  unfolding total_of
  run_adds r allowance ws s i =
      let q : Ran = run_of r allowance ws in
      let e : (run_from 0 r q.done ws).rack ≡ q.rack = ap (λ (x : Ran). x.rack) (sym (run_from_lem r q.done ws) ∙ (run_steps r allowance ws).same) in
      subst (λ (x : Rack). I x × (v x + count_over less q.done r ws ≡ v r + count_over more q.done r ws)) e (from_adds 0 r q.done ws i)

-- ---- an unsound rack: nothing is done

-- a run in which nothing is counted and which leaves the rack as it was
pub record Untouched (f : Event → Plan → ℕ) (r : Rack) (allowance : ℕ) (ws : List ℕ) : Type 0 where
  pub count : total_of f r allowance ws ≡ 0
  pub left : (run_of r allowance ws).rack ≡ r

pub unsound_none : (f : Event → Plan → ℕ) (r : Rack) (allowance : ℕ) (ws : List ℕ) → sound_of r ≡ false → Untouched f r allowance ws
unfolding total_of run_of count_over
unsound_none f r allowance ws u =
    let e = from_unsound 0 r allowance ws u in
    record { count = ap (λ (n : ℕ). count_over f n r ws) e.0; left = e.1 }

-- ---- the maker

-- what the maker gives is a fresh rack
pub made_fresh : (P : Rack → Type 0) → ((replicas clients cells : ℕ) → P (fresh_rack (of_sizes replicas clients cells))) → (replicas clients cells : ℕ)
    → P (made_of (of_sizes replicas clients cells)).rack
unfolding made_of
made_fresh P f replicas clients cells =
    whichever (λ (m : Made). P m.rack) (settings_fit (of_sizes replicas clients cells)) _ _ (f replicas clients cells) (f 1 1 1)
