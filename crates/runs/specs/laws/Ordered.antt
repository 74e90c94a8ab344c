-- A run with the refusals in the order in which the code tests them: on a sound rack it is the run. Examples are computed by it, since it doesn't go through
-- the whole rack at every event.
use Rattle.std.specs.Prelude.{ℕ, zero, suc, ◌+◌, ◌≡◌, refl, true, List, [], ◌∷◌, Err, Ok}
use Rattle.std.proofs.Common.{ap, ◌∙◌}
use Rattle.method.specs.Decision.{Decision}
use Rattle.rack.specs.declared.Rack.{Rack}
use Rattle.rack.specs.declared.Ran.{Ran}
use Rattle.rack.specs.Sound.{sound_of}
use Rattle.rack.specs.Run.{event_of, applied_of, turn, ran_of, run_from, run_of}
use Rattle.rack.specs.Refusals.{decided}
use Rattle.rack.specs.laws.Table.{in_order}
use Rattle.rack.proofs.theorems.Table.{in_order_lem}
use Rattle.runs.specs.laws.Stays.{sound_stays}
use Rattle.runs.specs.laws.Steps.{run_from_lem}

-- events are taken in order, and each is decided in the code's order
unfoldable pub ordered_from : ℕ → Rack → ℕ → List ℕ → Ran
ordered_from done r zero ws = ran_of done 0 r
ordered_from done r (suc left) [] = ran_of done 0 r
ordered_from done r (suc left) (k ∷ []) = ran_of done 0 r
ordered_from done r (suc left) (k ∷ a ∷ []) = ran_of done 0 r
ordered_from done r (suc left) (k ∷ a ∷ b ∷ []) = ran_of done 0 r
ordered_from done r (suc left) (k ∷ a ∷ b ∷ v ∷ ws) =
    turn done r (event_of k a b v) (in_order r (event_of k a b v)) (λ q. ordered_from (done + 1) q left ws)

from_ordered : (done : ℕ) (r : Rack) (left : ℕ) (ws : List ℕ) → sound_of r ≡ true → run_from done r left ws ≡ ordered_from done r left ws
unfolding run_from ordered_from turn
from_ordered done r zero ws s = refl
from_ordered done r (suc left) [] s = refl
from_ordered done r (suc left) (k ∷ []) s = refl
from_ordered done r (suc left) (k ∷ a ∷ []) s = refl
from_ordered done r (suc left) (k ∷ a ∷ b ∷ []) s = refl
from_ordered done r (suc left) (k ∷ a ∷ b ∷ v ∷ ws) s =
    go (decided r (event_of k a b v)) refl (λ q h. from_ordered (done + 1) q left ws h)
    ∙ ap (λ (o : Decision). turn done r (event_of k a b v) o (λ q. ordered_from (done + 1) q left ws)) (in_order_lem r (event_of k a b v) s)
  where
    go : (o : Decision) → decided r (event_of k a b v) ≡ o
        → ((q : Rack) → sound_of q ≡ true → run_from (done + 1) q left ws ≡ ordered_from (done + 1) q left ws)
        → turn done r (event_of k a b v) (decided r (event_of k a b v)) (λ q. run_from (done + 1) q left ws)
        ≡ turn done r (event_of k a b v) (decided r (event_of k a b v)) (λ q. ordered_from (done + 1) q left ws)
    go (Err n) e ih = rw e
    go (Ok p) e ih = rw e (ih (applied_of r (event_of k a b v) p) (sound_stays r (event_of k a b v) p s e))

pub ordered : (r : Rack) (allowance : ℕ) (ws : List ℕ) → sound_of r ≡ true → run_of r allowance ws ≡ ordered_from 0 r allowance ws
ordered r allowance ws s = run_from_lem r allowance ws ∙ from_ordered 0 r allowance ws s
