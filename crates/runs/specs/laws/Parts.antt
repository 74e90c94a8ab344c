-- A schedule in two parts is the schedule whole, and every rack of a run is sound.
use Rattle.std.specs.Prelude.{ℕ, zero, suc, ◌+◌, ◌*◌, ◌≡◌, refl, true, List, [], ◌∷◌, drop, Err, Ok}
use Rattle.std.proofs.Common.{ap, sym, ◌∙◌, arith}
use Rattle.method.specs.Decision.{Decision}
use Rattle.rack.specs.declared.Rack.{Rack}
use Rattle.rack.specs.declared.Ran.{Ran}
use Rattle.rack.specs.Sound.{sound_of}
use Rattle.rack.specs.Run.{event_of, applied_of, turn, ran_of, run_from, run_of}
use Rattle.rack.specs.Refusals.{decided}
use Rattle.runs.specs.laws.Steps.{run_from_lem, parts_on}
use Rattle.runs.specs.laws.Stays.{sound_stays}
use Rattle.runs.specs.Exact.{later}

-- ---- every rack of a run is sound

from_stays : (done : ℕ) (r : Rack) (left : ℕ) (ws : List ℕ) → sound_of r ≡ true → sound_of (run_from done r left ws).rack ≡ true
unfolding run_from turn
from_stays done r zero ws s = s
from_stays done r (suc left) [] s = s
from_stays done r (suc left) (k ∷ []) s = s
from_stays done r (suc left) (k ∷ a ∷ []) s = s
from_stays done r (suc left) (k ∷ a ∷ b ∷ []) s = s
from_stays done r (suc left) (k ∷ a ∷ b ∷ v ∷ ws) s = go (decided r (event_of k a b v)) refl (λ q. from_stays (done + 1) q left ws)
  where
    go : (o : Decision) → decided r (event_of k a b v) ≡ o → ((q : Rack) → sound_of q ≡ true → sound_of (run_from (done + 1) q left ws).rack ≡ true)
        → sound_of (turn done r (event_of k a b v) o (λ q. run_from (done + 1) q left ws)).rack ≡ true
    go (Err n) e ih = s
    go (Ok p) e ih = ih (applied_of r (event_of k a b v) p) (sound_stays r (event_of k a b v) p s e)

pub run_stays : (r : Rack) (allowance : ℕ) (ws : List ℕ) → sound_of r ≡ true → sound_of (run_of r allowance ws).rack ≡ true
unfolding run_of
run_stays r allowance ws s = from_stays 0 r allowance ws s

-- ---- the number done counts from where a run starts

from_later : (n done : ℕ) (r : Rack) (left : ℕ) (ws : List ℕ) → run_from (n + done) r left ws ≡ later n (run_from done r left ws)
unfolding run_from turn
from_later n done r zero ws = refl
from_later n done r (suc left) [] = refl
from_later n done r (suc left) (k ∷ []) = refl
from_later n done r (suc left) (k ∷ a ∷ []) = refl
from_later n done r (suc left) (k ∷ a ∷ b ∷ []) = refl
from_later n done r (suc left) (k ∷ a ∷ b ∷ v ∷ ws) = go (decided r (event_of k a b v)) (λ q. from_later n (done + 1) q left ws)
  where
    go : (o : Decision) → ((q : Rack) → run_from (n + (done + 1)) q left ws ≡ later n (run_from (done + 1) q left ws))
        → turn (n + done) r (event_of k a b v) o (λ q. run_from (n + done + 1) q left ws) ≡ later n (turn done r (event_of k a b v) o (λ q. run_from (done + 1) q left ws))
    go (Err x) ih = refl
    go (Ok p) ih =
        let e : n + done + 1 ≡ n + (done + 1) = omega arith in
        ap (λ (d : ℕ). run_from d (applied_of r (event_of k a b v) p) left ws) e ∙ ih (applied_of r (event_of k a b v) p)

-- ---- two parts

-- m events were done on a sound rack and nothing was refused: the rest goes on from the rack that they left
pub run_parts : (r q : Rack) (m n : ℕ) (ws : List ℕ) → sound_of r ≡ true → run_of r m ws ≡ ran_of m 0 q → run_of r (m + n) ws ≡ later m (run_of q n (drop (4 * m) ws))
run_parts r q m n ws s h =
    let t : sound_of q ≡ true = ap (λ (x : Ran). sound_of x.rack) (sym h) ∙ run_stays r m ws s in
    let y : 0 + m ≡ m + 0 = omega arith in
    let x : m ≡ 0 + m = omega arith in
    let f : run_from 0 r m ws ≡ ran_of (0 + m) 0 q = sym (run_from_lem r m ws) ∙ h ∙ ap (λ (d : ℕ). ran_of d 0 q) x in
    run_from_lem r (m + n) ws
    ∙ parts_on m n 0 r q ws f
    ∙ ap (λ (d : ℕ). run_from d q n (drop (4 * m) ws)) y
    ∙ from_later m 0 q n (drop (4 * m) ws)
    ∙ ap (later m) (sym (run_from_lem q n (drop (4 * m) ws)))
