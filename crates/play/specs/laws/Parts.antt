-- A script run in parts is the script run whole.
use Rattle.std.specs.Prelude.{ℕ, zero, suc, ◌+◌, ◌-◌, ◌*◌, ◌/◌, ◌≤◌, ◌<◌, min, ◌≡◌, refl, Bool, true, false, List, [], ◌∷◌, ◌++◌, length, drop, ltb, Err, Ok}
use Rattle.std.proofs.Common.{sym, ap, ◌∙◌, arith, ltb-true, ltb-false}
use Rattle.std.proofs.lemmas.List.Edits.{sets, sets-eq}
use Rattle.std.proofs.Math.Seq.{length-sets, drop-append_seam}
use Rattle.script.specs.declared.Filled.{Filled}
use Rattle.script.specs.Script.{events_from, words_of, words_up_to, count_up_to, place_after, Fills}
use Rattle.script.specs.laws.Steps.{four_each, few_each, words_parts, no_words}
use Rattle.method.specs.Decision.{Decision}
use Rattle.rack.specs.declared.Rack.{Rack}
use Rattle.rack.specs.declared.Ran.{Ran}
use Rattle.rack.specs.Sound.{sound_of}
use Rattle.rack.specs.Run.{event_of, applied_of, turn, ran_of, run_from, run_of}
use Rattle.rack.specs.Refusals.{decided}
use Rattle.runs.specs.laws.Steps.{run_from_lem, run_steps, parts_off, used_up_lem, too_few}
use Rattle.runs.specs.Exact.{later}
use Rattle.runs.specs.laws.Parts.{run_parts, run_stays}

-- ---- n events look at their own words only

from_front : (n done : ℕ) (r : Rack) (xs ys zs : List ℕ) → 4 * n ≤ length xs → run_from done r n (xs ++ ys) ≡ run_from done r n (xs ++ zs)
unfolding run_from turn
from_front zero done r xs ys zs h = refl
from_front (suc n) done r [] ys zs h = absurd (omega arith)
from_front (suc n) done r (k ∷ []) ys zs h = absurd (omega arith)
from_front (suc n) done r (k ∷ a ∷ []) ys zs h = absurd (omega arith)
from_front (suc n) done r (k ∷ a ∷ b ∷ []) ys zs h = absurd (omega arith)
from_front (suc n) done r (k ∷ a ∷ b ∷ v ∷ xs) ys zs h = go (decided r (event_of k a b v)) (λ q. from_front n (done + 1) q xs ys zs (omega arith))
  where
    go : (o : Decision) → ((q : Rack) → run_from (done + 1) q n (xs ++ ys) ≡ run_from (done + 1) q n (xs ++ zs))
        → turn done r (event_of k a b v) o (λ q. run_from (done + 1) q n (xs ++ ys)) ≡ turn done r (event_of k a b v) o (λ q. run_from (done + 1) q n (xs ++ zs))
    go (Err x) ih = refl
    go (Ok p) ih = ih (applied_of r (event_of k a b v) p)

pub run_front : (n : ℕ) (r : Rack) (xs ys zs : List ℕ) → sound_of r ≡ true → 4 * n ≤ length xs → run_of r n (xs ++ ys) ≡ run_of r n (xs ++ zs)
run_front n r xs ys zs s h = run_from_lem r n (xs ++ ys) ∙ from_front n 0 r xs ys zs h ∙ sym (run_from_lem r n (xs ++ zs))

-- with no allowance, or no words, nothing is done
none_left : (r : Rack) (ws : List ℕ) → sound_of r ≡ true → run_of r 0 ws ≡ ran_of 0 0 r
none_left r ws s = run_from_lem r 0 ws ∙ used_up_lem 0 r 0 0 ws (omega arith)

none_there : (r : Rack) (n : ℕ) → sound_of r ≡ true → run_of r n [] ≡ ran_of 0 0 r
none_there r n s = run_from_lem r n [] ∙ too_few 0 r n [] (omega arith)

-- ---- how playing goes on

-- done events were done and left the sound rack r: running what stands from place at on gives the whole
pub record Playing (s : List ℕ) (allowance : ℕ) (whole : Ran) (r : Rack) (done at : ℕ) : Type 0 where
  pub sound : sound_of r ≡ true
  pub few : done ≤ allowance
  pub same : whole ≡ later done (run_of r (allowance - done) (words_of (events_from s at)))

pub begins : (s : List ℕ) (allowance : ℕ) (r : Rack) (first : ℕ) → sound_of r ≡ true
    → Playing s allowance (run_of r allowance (words_of (events_from s first))) r 0 first
begins s allowance r first h =
    let e : allowance - 0 ≡ allowance = omega arith in
    let q : Ran = run_of r allowance (words_of (events_from s first)) in
    let d : q.done ≡ 0 + q.done = omega arith in
    record { sound = h; few = omega arith; same = rw e (ap (λ (n : ℕ). ran_of n q.refusal q.rack) d) }

module _ (s : List ℕ) (allowance : ℕ) (whole : Ran) (r : Rack) (done at : ℕ) (p : Playing s allowance whole r done at) where
  -- the allowance is used
  pub all_used : allowance ≤ done → ran_of done 0 r ≡ whole
  all_used h =
      let e : allowance - done ≡ 0 = omega arith in
      let z : done + 0 ≡ done = omega arith in
      sym (p.same ∙ rw (e, none_left r (words_of (events_from s at)) p.sound) (ap (λ (n : ℕ). ran_of n 0 r) z))

  -- what was filled with the next events
  module _ (d d' : List ℕ) (f : Filled) (long : length d ≡ 2048) (w : Fills s at d f d') where
    room : length d / 4 ≡ 512
    room = omega arith

    filled : f.count ≡ count_up_to 512 (events_from s at)
    filled = w.count ∙ ap (λ (n : ℕ). count_up_to n (events_from s at)) room

    -- no event is left
    pub none_found : f.count ≡ 0 → ran_of done 0 r ≡ whole
    none_found h =
        let z : done + 0 ≡ done = omega arith in
        sym (p.same ∙ rw (no_words 511 (events_from s at) (sym filled ∙ h), none_there r (allowance - done) p.sound) (ap (λ (n : ℕ). ran_of n 0 r) z))

    -- n events of those filled in are run
    module _ (n : ℕ) (least : n ≡ min (allowance - done) f.count) where
      -- the words of all events from place at on
      abbrev ws : List ℕ
      ws = words_of (events_from s at)

      -- the words of the first 512 of these events
      abbrev xs : List ℕ
      xs = words_up_to 512 (events_from s at)

      -- the words of the events after those 512
      abbrev rest : List ℕ
      rest = words_of (events_from s (place_after 512 at (events_from s at)))

      long_enough : 4 * n ≤ length xs
      long_enough = omega (arith, four_each 512 (events_from s at), filled, least)

      -- they are run as they would be in the script
      part : run_of r n d' ≡ run_of r n ws
      part =
          let short : length xs ≤ length d = omega (arith, four_each 512 (events_from s at), few_each 512 (events_from s at), long) in
          ap (run_of r n) (w.words ∙ ap (λ (k : ℕ). sets d 0 (words_up_to k (events_from s at))) room ∙ sets-eq xs d 0 (omega arith))
          ∙ run_front n r xs (drop (0 + length xs) d) rest p.sound long_enough
          ∙ ap (run_of r n) (sym (words_parts 512 s at))

      -- how many are left to run after them
      abbrev more : ℕ
      more = allowance - done - n

      together : allowance - done ≡ n + more
      together = omega (arith, least)

      -- one was refused
      some_refused : (run_of r n d').done < n → ran_of (done + (run_of r n d').done) (run_of r n d').refusal (run_of r n d').rack ≡ whole
      some_refused h =
          let fewer : (run_from 0 r n ws).done < 0 + n = rw (← run_from_lem r n ws, ← part) (omega arith) in
          let stop : run_of r (n + more) ws ≡ run_of r n d' = run_from_lem r (n + more) ws ∙ parts_off n more 0 r ws fewer ∙ sym (run_from_lem r n ws) ∙ sym part in
          sym (p.same ∙ ap (λ (k : ℕ). later done (run_of r k ws)) together ∙ ap (later done) stop)

      -- what stands after them is what is left of the script, as far as it is run
      after : (q : Rack) → sound_of q ≡ true → run_of q more (drop (4 * n) ws) ≡ run_of q more rest
      after q h = go (ltb (allowance - done) f.count) refl
        where
          go : (t : Bool) → ltb (allowance - done) f.count ≡ t → run_of q more (drop (4 * n) ws) ≡ run_of q more rest
          go true e =
              let k = ltb-true (allowance - done) f.count e in
              let z : more ≡ 0 = omega (arith, least, k) in
              rw z (none_left q (drop (4 * n) ws) h ∙ sym (none_left q rest h))
          go false e =
              let k = ltb-false (allowance - done) f.count e in
              let z : 4 * n ≡ length xs = omega (arith, four_each 512 (events_from s at), filled, least, k) in
              ap (run_of q more) (ap (λ (l : List ℕ). drop (4 * n) l) (words_parts 512 s at) ∙ rw z (drop-append_seam xs rest))

      -- all were done
      all_done : n ≤ (run_of r n d').done → Playing s allowance whole (run_of r n d').rack (done + (run_of r n d').done) f.next
      all_done h =
          let q : Rack = (run_of r n d').rack in
          let x = run_steps r n d' in
          let count : (run_of r n d').done ≡ n = omega (arith, x.most) in
          let sound : sound_of q ≡ true = run_stays r n d' p.sound in
          let done_all : run_of r n ws ≡ ran_of n 0 q = sym part ∙ rw count at x.same in
          let place : f.next ≡ place_after 512 at (events_from s at) = w.next ∙ ap (λ (k : ℕ). place_after k at (events_from s at)) room in
          let y : Ran = run_of q more rest in
          let sum : done + (n + y.done) ≡ done + n + y.done = omega arith in
          let left : more ≡ allowance - (done + n) = omega arith in
          rw (count, place) (record {
            sound = sound;
            few = omega (arith, least, p.few);
            same =
                p.same
                ∙ ap (λ (k : ℕ). later done (run_of r k ws)) together
                ∙ ap (later done) (run_parts r q n more ws p.sound done_all ∙ ap (later n) (after q sound))
                ∙ ap (λ (k : ℕ). ran_of k y.refusal y.rack) sum
                ∙ ap (λ (k : ℕ). later (done + n) (run_of q k rest)) left;
          })

      -- the same of a run q that was given
      pub stopped : (q : Ran) → q ≡ run_of r n d' → q.done < n → ran_of (done + q.done) q.refusal q.rack ≡ whole
      stopped q e h = rw e (some_refused (rw e at h))

      pub went_on : (q : Ran) → q ≡ run_of r n d' → n ≤ q.done → Playing s allowance whole q.rack (done + q.done) f.next
      went_on q e h = rw e (all_done (rw e at h))

-- no more are done than were tried
pub few_done : (r : Rack) (n : ℕ) (ws : List ℕ) (q : Ran) → q ≡ run_of r n ws → q.done ≤ n
few_done r n ws q e = rw e (run_steps r n ws).most

-- and where all were done, none was refused
pub none_refused : (r : Rack) (n : ℕ) (ws : List ℕ) (q : Ran) → q ≡ run_of r n ws → n ≤ q.done → q.refusal ≡ 0
none_refused r n ws q e h =
    let x = run_steps r n ws in
    let least : n ≤ (run_of r n ws).done = rw e at h in
    let count : (run_of r n ws).done ≡ n = omega (arith, x.most, least) in
    ap (λ (y : Ran). y.refusal) (e ∙ rw count at x.same)

-- filling changes no length
pub still_long : {s : List ℕ} {at : ℕ} {d d' : List ℕ} {f : Filled} → Fills s at d f d' → length d ≡ 2048 → length d' ≡ 2048
still_long {s} {at} {d} w h = ap length w.words ∙ length-sets d 0 (words_up_to (length d / 4) (events_from s at)) ∙ h
