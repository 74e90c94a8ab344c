-- What the calls leave, from what their parts give.
use Prim.Native.Nat.{ℕ}
use mathlib.Core.Path.{◌≡◌, refl, ap, sym, ◌∙◌}
use mathlib.Core.Bool.{Bool, true, false}
use mathlib.Core.List.{List}
use lib.Dec.{eqb, ltb}
use lib.ListN.{length, replicate}
use borrow.Author.Tests.{eq-eqb, ne_eqb, eqb-true, eqb-false, ltb-true, ltb-false}
use Rattle.rack.specs.declared.Rack.{Rack}
use Rattle.rack.specs.declared.Made.{Made}
use Rattle.rack.specs.declared.Ran.{Ran}
use Rattle.rack.specs.Sound.{sound_of}
use Rattle.rack.specs.Run.{made_of, ran_of, run_of}
use Rattle.runs.specs.laws.Steps.{none_allowed, none_there, none_sound}
use Rattle.runs.specs.laws.Parts.{run_stays}
use Rattle.layout.specs.declared.WordsAnswer.{WordsAnswer}
use Rattle.layout.specs.Layout.{word_count}
use Rattle.layout.specs.Reading.{rack_of}
use Rattle.layout.specs.Writing.{written_of}
use Rattle.layout.specs.Calls.{answer_of, makes, made_outcome, leaves, run_outcome}
use Rattle.rack.specs.Places.{of_sizes}

-- ---- the maker

pub made_unfit : (x y z : ℕ) (ws : List ℕ) (a : WordsAnswer) → (length ws ≡ word_count → ⊥) → a ≡ answer_of 0 20
    → (a ≡ (made_outcome x y z ws).answer) × (ws ≡ (made_outcome x y z ws).lent)
unfolding made_outcome
made_unfit x y z ws a h p = let e = ne_eqb (length ws) word_count h in (rw e p, rw e)

pub made_fit : (x y z : ℕ) (ws : List ℕ) (m : Made) (blank after : List ℕ) (a : WordsAnswer) → length ws ≡ word_count → m ≡ made_of (of_sizes x y z) → blank ≡ replicate (length ws) 0
    → after ≡ written_of m.rack blank → a ≡ answer_of 0 m.refusal → (a ≡ (made_outcome x y z ws).answer) × (after ≡ (made_outcome x y z ws).lent)
unfolding made_outcome makes
made_fit x y z ws m blank after a h em eb ew ea =
    let e = eq-eqb (length ws) word_count h in
    let b : blank ≡ replicate word_count 0 = eb ∙ ap (λ (n : ℕ). replicate n 0) h in
    (rw e (ea ∙ ap (λ (k : Made). answer_of 0 k.refusal) em), rw e (ew ∙ ap (written_of m.rack) b ∙ ap (λ (k : Made). written_of k.rack (replicate word_count 0)) em))

-- ---- a schedule

pub run_unfit : (ws : List ℕ) (n : ℕ) (es : List ℕ) (a : WordsAnswer) → (length ws ≡ word_count → ⊥) → a ≡ answer_of 0 20
    → (a ≡ (run_outcome ws n es).answer) × (ws ≡ (run_outcome ws n es).lent)
unfolding run_outcome
run_unfit ws n es a h p = let e = ne_eqb (length ws) word_count h in (rw e p, rw e)

-- the run of the rack that was read is that of the words' rack
ran : (ws : List ℕ) (n : ℕ) (es : List ℕ) (r : Rack) (q : Ran) → r ≡ rack_of ws → q ≡ run_of r n es → q ≡ run_of (rack_of ws) n es
ran ws n es r q er eq = eq ∙ ap (λ (s : Rack). run_of s n es) er

pub run_none : (ws : List ℕ) (n : ℕ) (es : List ℕ) (r : Rack) (q : Ran) (a : WordsAnswer) → length ws ≡ word_count → r ≡ rack_of ws → q ≡ run_of r n es → q.done ≡ 0
    → a ≡ answer_of 0 q.refusal → (a ≡ (run_outcome ws n es).answer) × (ws ≡ (run_outcome ws n es).lent)
unfolding run_outcome leaves
run_none ws n es r q a h er eq ed ea =
    let e = eq-eqb (length ws) word_count h in
    let p = ran ws n es r q er eq in
    let d = eq-eqb q.done 0 ed in
    (rw (e, ← p) (ea ∙ ap (λ (k : ℕ). answer_of k q.refusal) (sym ed)), rw (e, ← p, d))

pub run_some : (ws : List ℕ) (n : ℕ) (es : List ℕ) (r : Rack) (q : Ran) (after : List ℕ) (a : WordsAnswer) → length ws ≡ word_count → r ≡ rack_of ws → q ≡ run_of r n es
    → (q.done ≡ 0 → ⊥) → after ≡ written_of q.rack ws → a ≡ answer_of q.done q.refusal → (a ≡ (run_outcome ws n es).answer) × (after ≡ (run_outcome ws n es).lent)
unfolding run_outcome leaves
run_some ws n es r q after a h er eq ed ew ea =
    let e = eq-eqb (length ws) word_count h in
    let p = ran ws n es r q er eq in
    let d = ne_eqb q.done 0 ed in
    (rw (e, ← p) ea, rw (e, ← p, d) ew)

-- on an unsound rack no event is done
unsound_none : (r : Rack) (n : ℕ) (es : List ℕ) → sound_of r ≡ false → (run_of r n es).done ≡ 0
unsound_none r n es s = go (eqb n 0) refl (ltb (length es) 4) refl
  where
    done_of : (k : ℕ) → run_of r n es ≡ ran_of 0 k r → (run_of r n es).done ≡ 0
    done_of k e = ap (λ (q : Ran). q.done) e

    go : (a : Bool) → eqb n 0 ≡ a → (b : Bool) → ltb (length es) 4 ≡ b → (run_of r n es).done ≡ 0
    go true e b f = done_of 0 (none_allowed r n es (eqb-true n 0 e))
    go false e true f = done_of 0 (none_there r n es (ltb-true (length es) 4 f))
    go false e false f = done_of 2 (none_sound r n es s (eqb-false n 0 e) (ltb-false (length es) 4 f))

-- where an event was done the rack is sound
pub run_sound : (r : Rack) (n : ℕ) (es : List ℕ) (q : Ran) → q ≡ run_of r n es → (q.done ≡ 0 → ⊥) → sound_of q.rack ≡ true
run_sound r n es q e d = ap (λ (k : Ran). sound_of k.rack) e ∙ go (sound_of r) refl
  where
    go : (t : Bool) → sound_of r ≡ t → sound_of (run_of r n es).rack ≡ true
    go true s = run_stays r n es s
    go false s = absurd (d (ap (λ (k : Ran). k.done) e ∙ unsound_none r n es s))
