-- A schedule, an event at a time: the events done are the definition's steps, and what is refused changes nothing.
use Rattle.std.specs.Prelude.{ℕ, zero, suc, ◌+◌, ◌-◌, ◌*◌, ◌/◌, ◌≤◌, ◌<◌, ◌≡◌, refl, ◌≢◌, false, List, [], ◌∷◌, get_or, drop, length, Err, Ok}
use Rattle.std.proofs.Common.{ap, sym, ◌∙◌, arith, length-drop, drop-cons}
use Rattle.method.specs.declared.Event.{Event}
use Rattle.method.specs.declared.Plan.{Plan}
use Rattle.method.specs.Decision.{Decision}
use Rattle.rack.specs.declared.Rack.{Rack}
use Rattle.rack.specs.declared.Ran.{Ran}
use Rattle.rack.specs.Sound.{sound_of}
use Rattle.rack.specs.Run.{event_of, applied_of, turn, ran_of, run_from, run_of}
use Rattle.rack.specs.Refusals.{decided}
use Rattle.rack.proofs.theorems.Table.{decided_unsound}
use Rattle.runs.specs.Exact.{Exact}

-- the event at place i of the words
abbrev pub nth_event : List ℕ → ℕ → Event
nth_event ws i = event_of (get_or ws (4 * i) 0) (get_or ws (4 * i + 1) 0) (get_or ws (4 * i + 2) 0) (get_or ws (4 * i + 3) 0)

-- four words, and the rest
four : (ws : List ℕ) (a : ℕ) → a + 4 ≤ length ws
    → drop a ws ≡ get_or ws a 0 ∷ get_or ws (a + 1) 0 ∷ get_or ws (a + 2) 0 ∷ get_or ws (a + 3) 0 ∷ drop (a + 4) ws
four ws a h =
    let e1 : suc a ≡ a + 1 = omega arith in
    let e2 : suc (a + 1) ≡ a + 2 = omega arith in
    let e3 : suc (a + 2) ≡ a + 3 = omega arith in
    let e4 : suc (a + 3) ≡ a + 4 = omega arith in
    let d1 : drop a ws ≡ get_or ws a 0 ∷ drop (a + 1) ws = drop-cons ws a 0 (omega arith) ∙ ap (λ (n : ℕ). get_or ws a 0 ∷ drop n ws) e1 in
    let d2 : drop (a + 1) ws ≡ get_or ws (a + 1) 0 ∷ drop (a + 2) ws = drop-cons ws (a + 1) 0 (omega arith) ∙ ap (λ (n : ℕ). get_or ws (a + 1) 0 ∷ drop n ws) e2 in
    let d3 : drop (a + 2) ws ≡ get_or ws (a + 2) 0 ∷ drop (a + 3) ws = drop-cons ws (a + 2) 0 (omega arith) ∙ ap (λ (n : ℕ). get_or ws (a + 2) 0 ∷ drop n ws) e3 in
    let d4 : drop (a + 3) ws ≡ get_or ws (a + 3) 0 ∷ drop (a + 4) ws = drop-cons ws (a + 3) 0 (omega arith) ∙ ap (λ (n : ℕ). get_or ws (a + 3) 0 ∷ drop n ws) e4 in
    cc (d1, d2, d3, d4)

-- ---- a schedule by cases

one : (done left : ℕ) (r : Rack) (k a b v : ℕ) (ws : List ℕ)
    → run_from done r (suc left) (k ∷ a ∷ b ∷ v ∷ ws) ≡ turn done r (event_of k a b v) (decided r (event_of k a b v)) (λ q. run_from (done + 1) q left ws)
unfolding run_from
one done left r k a b v ws = refl

-- an event is tried
pub tried : (done : ℕ) (r : Rack) (n i : ℕ) (ws : List ℕ) → i < n → i < length ws / 4
    → run_from done r (n - i) (drop (4 * i) ws)
    ≡ turn done r (nth_event ws i) (decided r (nth_event ws i)) (λ q. run_from (done + 1) q (n - (i + 1)) (drop (4 * (i + 1)) ws))
tried done r n i ws h l =
    let e : n - i ≡ suc (n - (i + 1)) = omega arith in
    let f : 4 * i + 4 ≡ 4 * (i + 1) = omega arith in
    ap (λ (k : ℕ). run_from done r k (drop (4 * i) ws)) e
    ∙ ap (λ (x : List ℕ). run_from done r (suc (n - (i + 1))) x) (four ws (4 * i) (omega arith))
    ∙ one done (n - (i + 1)) r _ _ _ _ _
    ∙ ap (λ (k : ℕ). turn done r (nth_event ws i) (decided r (nth_event ws i)) (λ q. run_from (done + 1) q (n - (i + 1)) (drop k ws))) f

-- the allowance is used
pub used_up_lem : (done : ℕ) (r : Rack) (n i : ℕ) (ws : List ℕ) → n ≤ i → run_from done r (n - i) ws ≡ ran_of done 0 r
unfolding run_from
used_up_lem done r n i ws h = let e : n - i ≡ 0 = omega arith in ap (λ (k : ℕ). run_from done r k ws) e

pub too_few : (done : ℕ) (r : Rack) (left : ℕ) (ws : List ℕ) → length ws < 4 → run_from done r left ws ≡ ran_of done 0 r
unfolding run_from
too_few done r zero ws h = refl
too_few done r (suc left) [] h = refl
too_few done r (suc left) (k ∷ []) h = refl
too_few done r (suc left) (k ∷ a ∷ []) h = refl
too_few done r (suc left) (k ∷ a ∷ b ∷ []) h = refl
too_few done r (suc left) (k ∷ a ∷ b ∷ v ∷ ws) h = absurd (omega arith)

-- the list has ended
pub ended : (done : ℕ) (r : Rack) (left i : ℕ) (ws : List ℕ) → length ws / 4 ≤ i → run_from done r left (drop (4 * i) ws) ≡ ran_of done 0 r
ended done r left i ws h = too_few done r left (drop (4 * i) ws) (rw (length-drop (4 * i) ws) (omega arith))

-- a refused event changes nothing
pub refused : (done left : ℕ) (r : Rack) (k a b v n : ℕ) (ws : List ℕ) → decided r (event_of k a b v) ≡ Err n
    → run_from done r (suc left) (k ∷ a ∷ b ∷ v ∷ ws) ≡ ran_of done n r
unfolding turn
refused done left r k a b v n ws h = one done left r k a b v ws ∙ rw h

-- a done event leaves the rack after its plan, and the schedule goes on
pub went : (done left : ℕ) (r : Rack) (k a b v : ℕ) (p : Plan) (ws : List ℕ) → decided r (event_of k a b v) ≡ Ok p
    → run_from done r (suc left) (k ∷ a ∷ b ∷ v ∷ ws) ≡ run_from (done + 1) (applied_of r (event_of k a b v) p) left ws
unfolding turn
went done left r k a b v p ws h = one done left r k a b v ws ∙ rw h

-- ---- the number done

-- What is known of a run of at most `left` events that starts with `done` done: how many more are done, and that just these from the same rack
-- leave the same rack with nothing refused.
pub record Stepped (done : ℕ) (r : Rack) (left : ℕ) (ws : List ℕ) (q : Ran) : Type 0 where
  pub least : done ≤ q.done
  pub most : q.done ≤ done + left
  pub words : 4 * (q.done - done) ≤ length ws
  pub same : run_from done r (q.done - done) ws ≡ ran_of q.done 0 q.rack

none_done : (done : ℕ) (r : Rack) (left n : ℕ) (ws : List ℕ) → Stepped done r left ws (ran_of done n r)
none_done done r left n ws =
    let e : done - done ≡ 0 = omega arith in
    record { least = omega arith; most = omega arith; words = omega arith; same = used_up_lem done r done done ws (omega arith) }

pub steps : (done : ℕ) (r : Rack) (left : ℕ) (ws : List ℕ) → Stepped done r left ws (run_from done r left ws)
unfolding run_from turn
steps done r zero ws = none_done done r zero 0 ws
steps done r (suc left) [] = none_done done r (suc left) 0 []
steps done r (suc left) (k ∷ []) = none_done done r (suc left) 0 (k ∷ [])
steps done r (suc left) (k ∷ a ∷ []) = none_done done r (suc left) 0 (k ∷ a ∷ [])
steps done r (suc left) (k ∷ a ∷ b ∷ []) = none_done done r (suc left) 0 (k ∷ a ∷ b ∷ [])
steps done r (suc left) (k ∷ a ∷ b ∷ v ∷ ws) = go (decided r (event_of k a b v)) refl (λ q. steps (done + 1) q left ws)
  where
    go : (o : Decision) → decided r (event_of k a b v) ≡ o → ((q : Rack) → Stepped (done + 1) q left ws (run_from (done + 1) q left ws))
        → Stepped done r (suc left) (k ∷ a ∷ b ∷ v ∷ ws) (turn done r (event_of k a b v) o (λ q. run_from (done + 1) q left ws))
    go (Err n) e ih = none_done done r (suc left) n (k ∷ a ∷ b ∷ v ∷ ws)
    go (Ok p) e ih =
        let x : Rack = applied_of r (event_of k a b v) p in
        let q : Ran = run_from (done + 1) x left ws in
        let s : Stepped (done + 1) x left ws q = ih x in
        let f : q.done - done ≡ suc (q.done - (done + 1)) = omega (arith, s.least) in
        record {
          least = omega (arith, s.least);
          most = omega (arith, s.most);
          words = omega (arith, s.words, s.least);
          same = ap (λ (n : ℕ). run_from done r n (k ∷ a ∷ b ∷ v ∷ ws)) f ∙ went done (q.done - (done + 1)) r k a b v p ws e ∙ s.same;
        }

-- a run begins with no event done
pub run_from_lem : (r : Rack) (n : ℕ) (ws : List ℕ) → run_of r n ws ≡ run_from 0 r n ws
unfolding run_of
run_from_lem r n ws = refl

-- no event is tried at allowance 0
pub none_allowed : (r : Rack) (n : ℕ) (ws : List ℕ) → n ≡ 0 → run_of r n ws ≡ ran_of 0 0 r
unfolding run_of run_from
none_allowed r n ws e = rw e

-- nor on an empty list
pub none_there : (r : Rack) (n : ℕ) (ws : List ℕ) → length ws < 4 → run_of r n ws ≡ ran_of 0 0 r
unfolding run_of
none_there r n ws h = too_few 0 r n ws h

-- 2: an unsound rack, as soon as an event is tried
pub none_sound : (r : Rack) (n : ℕ) (ws : List ℕ) → sound_of r ≡ false → n ≢ 0 → 4 ≤ length ws → run_of r n ws ≡ ran_of 0 2 r
unfolding run_of run_from turn
none_sound r zero ws h d l = absurd (d refl)
none_sound r (suc n) [] h d l = absurd (omega arith)
none_sound r (suc n) (k ∷ []) h d l = absurd (omega arith)
none_sound r (suc n) (k ∷ a ∷ []) h d l = absurd (omega arith)
none_sound r (suc n) (k ∷ a ∷ b ∷ []) h d l = absurd (omega arith)
none_sound r (suc n) (k ∷ a ∷ b ∷ v ∷ ws) h d l = rw (decided_unsound r (event_of k a b v) h)

-- and nothing is done on it
pub from_unsound : (done : ℕ) (r : Rack) (left : ℕ) (ws : List ℕ) → sound_of r ≡ false
    → ((run_from done r left ws).done ≡ done) × ((run_from done r left ws).rack ≡ r)
unfolding run_from turn
from_unsound done r zero ws u = (refl, refl)
from_unsound done r (suc left) [] u = (refl, refl)
from_unsound done r (suc left) (k ∷ []) u = (refl, refl)
from_unsound done r (suc left) (k ∷ a ∷ []) u = (refl, refl)
from_unsound done r (suc left) (k ∷ a ∷ b ∷ []) u = (refl, refl)
from_unsound done r (suc left) (k ∷ a ∷ b ∷ v ∷ ws) u = rw (decided_unsound r (event_of k a b v) u) (refl, refl)

pub run_steps : (r : Rack) (allowance : ℕ) (ws : List ℕ) → Exact r allowance ws (run_of r allowance ws)
unfolding run_of
run_steps r allowance ws =
    let q : Ran = run_from 0 r allowance ws in
    let s : Stepped 0 r allowance ws q = steps 0 r allowance ws in
    let e : q.done - 0 ≡ q.done = omega arith in
    record {
      most = omega (arith, s.most);
      words = omega (arith, s.words);
      same = ap (λ (n : ℕ). run_from 0 r n ws) (sym e) ∙ s.same;
    }

-- ---- a schedule in two parts

-- the first m events were all done: the rest goes on from there
pub parts_on : (m n done : ℕ) (r q : Rack) (ws : List ℕ) → run_from done r m ws ≡ ran_of (done + m) 0 q
    → run_from done r (m + n) ws ≡ run_from (done + m) q n (drop (4 * m) ws)
unfolding run_from turn
parts_on zero n done r q ws h =
    let e : r ≡ q = ap (λ (x : Ran). x.rack) h in
    let z : 0 + n ≡ n = omega arith in
    let d : done + 0 ≡ done = omega arith in
    rw (e, z, d)
parts_on (suc m) n done r q [] h = absurd (let z : done ≡ done + suc m = ap (λ (x : Ran). x.done) h in omega arith)
parts_on (suc m) n done r q (k ∷ []) h = absurd (let z : done ≡ done + suc m = ap (λ (x : Ran). x.done) h in omega arith)
parts_on (suc m) n done r q (k ∷ a ∷ []) h = absurd (let z : done ≡ done + suc m = ap (λ (x : Ran). x.done) h in omega arith)
parts_on (suc m) n done r q (k ∷ a ∷ b ∷ []) h = absurd (let z : done ≡ done + suc m = ap (λ (x : Ran). x.done) h in omega arith)
parts_on (suc m) n done r q (k ∷ a ∷ b ∷ v ∷ ws) h = go (decided r (event_of k a b v)) refl h (λ x. parts_on m n (done + 1) x q ws)
  where
    go : (o : Decision) → decided r (event_of k a b v) ≡ o → turn done r (event_of k a b v) o (λ x. run_from (done + 1) x m ws) ≡ ran_of (done + suc m) 0 q
        → ((x : Rack) → run_from (done + 1) x m ws ≡ ran_of (done + 1 + m) 0 q → run_from (done + 1) x (m + n) ws ≡ run_from (done + 1 + m) q n (drop (4 * m) ws))
        → run_from done r (suc m + n) (k ∷ a ∷ b ∷ v ∷ ws) ≡ run_from (done + suc m) q n (drop (4 * suc m) (k ∷ a ∷ b ∷ v ∷ ws))
    go (Err x) e h ih = absurd (let z : done ≡ done + suc m = ap (λ (x : Ran). x.done) h in omega arith)
    go (Ok p) e h ih =
        let s : suc m + n ≡ suc (m + n) = omega arith in
        let d : done + suc m ≡ done + 1 + m = omega arith in
        let f : 4 * suc m ≡ suc (suc (suc (suc (4 * m)))) = omega arith in
        ap (λ (l : ℕ). run_from done r l (k ∷ a ∷ b ∷ v ∷ ws)) s
        ∙ went done (m + n) r k a b v p ws e
        ∙ ih (applied_of r (event_of k a b v) p) (h ∙ ap (λ (x : ℕ). ran_of x 0 q) d)
        ∙ ap (λ (x : ℕ). run_from x q n (drop (4 * m) ws)) (sym d)
        ∙ ap (λ (x : ℕ). run_from (done + suc m) q n (drop x (k ∷ a ∷ b ∷ v ∷ ws))) (sym f)

-- it stopped before: there is no rest
pub parts_off : (m n done : ℕ) (r : Rack) (ws : List ℕ) → (run_from done r m ws).done < done + m → run_from done r (m + n) ws ≡ run_from done r m ws
unfolding run_from turn
parts_off zero n done r ws h = absurd (omega arith)
parts_off (suc m) n done r [] h = let s : suc m + n ≡ suc (m + n) = omega arith in ap (λ (l : ℕ). run_from done r l []) s
parts_off (suc m) n done r (k ∷ []) h = let s : suc m + n ≡ suc (m + n) = omega arith in ap (λ (l : ℕ). run_from done r l (k ∷ [])) s
parts_off (suc m) n done r (k ∷ a ∷ []) h = let s : suc m + n ≡ suc (m + n) = omega arith in ap (λ (l : ℕ). run_from done r l (k ∷ a ∷ [])) s
parts_off (suc m) n done r (k ∷ a ∷ b ∷ []) h = let s : suc m + n ≡ suc (m + n) = omega arith in ap (λ (l : ℕ). run_from done r l (k ∷ a ∷ b ∷ [])) s
parts_off (suc m) n done r (k ∷ a ∷ b ∷ v ∷ ws) h =
    let s : suc m + n ≡ suc (m + n) = omega arith in
    ap (λ (l : ℕ). run_from done r l (k ∷ a ∷ b ∷ v ∷ ws)) s ∙ go (decided r (event_of k a b v)) refl h (λ x. parts_off m n (done + 1) x ws)
  where
    go : (o : Decision) → decided r (event_of k a b v) ≡ o → (turn done r (event_of k a b v) o (λ x. run_from (done + 1) x m ws)).done < done + suc m
        → ((x : Rack) → (run_from (done + 1) x m ws).done < done + 1 + m → run_from (done + 1) x (m + n) ws ≡ run_from (done + 1) x m ws)
        → turn done r (event_of k a b v) o (λ x. run_from (done + 1) x (m + n) ws) ≡ turn done r (event_of k a b v) o (λ x. run_from (done + 1) x m ws)
    go (Err x) e h ih = refl
    go (Ok p) e h ih = ih (applied_of r (event_of k a b v) p) (omega arith)
