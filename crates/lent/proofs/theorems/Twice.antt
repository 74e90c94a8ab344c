-- Two calls are one run: the answers together and every word that is left.
use Rattle.std.specs.Prelude.{ℕ, ◌+◌, ◌*◌, ◌≤◌, ◌≡◌, refl, Bool, false, cond, List, [], ◌∷◌, ◌++◌, length, drop}
use Rattle.std.proofs.Math.Path.{ap}
use Rattle.std.proofs.Common.{sym, ◌∙◌, subst, append-nil, arith}
use Rattle.std.proofs.Math.Bool.{true}
use Rattle.std.proofs.Math.Dec.{eqb}
use Rattle.std.proofs.Math.Seq.{drop-append_seam}
use borrow.Author.Tests.{eq-eqb, ne_eqb, eqb-true, eqb-false}
use Rattle.rack.specs.declared.Rack.{Rack}
use Rattle.rack.specs.declared.Ran.{Ran}
use Rattle.rack.specs.Sound.{sound_of}
use Rattle.rack.specs.Run.{applied_of, ran_of, run_of}
use Rattle.runs.specs.laws.Steps.{run_steps, run_from_lem}
use Rattle.runs.specs.laws.Parts.{run_stays, run_parts}
use Rattle.runs.specs.Exact.{later}
use Rattle.play.specs.laws.Parts.{run_front}
use Rattle.layout.specs.Layout.{word_count}
use Rattle.layout.specs.Reading.{rack_of}
use Rattle.layout.specs.Writing.{written_of}
use Rattle.layout.specs.Calls.{WordsOutcome, answer_of, unfit, leaves, run_outcome}
use Rattle.lent.specs.Together.{together}
use Rattle.lent.specs.laws.Whole.{whole}
use Rattle.lent.specs.laws.Stays.{small_of, run_keeps}
use Rattle.lent.specs.laws.Again.{none_done, some_done, after_sound, after_writable}
use Rattle.lent.proofs.theorems.Calls.{written_long}
use Rattle.lent.proofs.theorems.Over.{written_over}

-- ---- sizes stay, and entries too

-- the sizes of one rack are those of the other, which has no fewer entries
record Grown (r q : Rack) : Type 0 where
  settings : r.settings ≡ q.settings
  entries : r.count ≤ q.count

run_grows : (r : Rack) (n : ℕ) (es : List ℕ) → sound_of r ≡ true → Grown r (run_of r n es).rack
unfolding applied_of
run_grows r n es s =
    rw (run_from_lem r n es)
    (run_keeps (Grown r) (λ q e p h g k. record { settings = k.settings; entries = omega (arith, k.entries) }) 0 r n es s (record { settings = refl; entries = omega arith }))

-- ---- the words that two calls leave

module _ (ws : List ℕ) (n : ℕ) (es : List ℕ) (m : ℕ) (rest : List ℕ) (l : length ws ≡ word_count) (d : (run_of (rack_of ws) n es).done ≡ 0 → ⊥) where
  -- the rack that the first call leaves
  abbrev mid : Rack
  mid = (run_of (rack_of ws) n es).rack

  -- its words
  abbrev left : List ℕ
  left = written_of (run_of (rack_of ws) n es).rack ws

  -- what the rest gives from that rack
  abbrev straight : Ran
  straight = run_of mid m rest

  -- what it gives from its words
  abbrev again : Ran
  again = run_of (rack_of left) m rest

  start_sound : sound_of (rack_of ws) ≡ true
  start_sound = some_done (rack_of ws) n es d

  mid_sound : sound_of mid ≡ true
  mid_sound = after_sound ws n es l start_sound

  same_rack : rack_of left ≡ mid
  same_rack = let w = after_writable ws n es l start_sound in whole mid ws mid_sound (small_of ws mid w) l w.beyond

  same_ran : again ≡ straight
  same_ran = ap (λ (q : Rack). run_of q m rest) same_rack

  same_done : again.done ≡ straight.done
  same_done = ap (λ (q : Ran). q.done) same_ran

  -- the rest may have done nothing
  lent_same : cond (eqb again.done 0) left (written_of again.rack left) ≡ written_of straight.rack ws
  lent_same = go (eqb again.done 0) refl
    where
      go : (t : Bool) → eqb again.done 0 ≡ t → cond t left (written_of again.rack left) ≡ written_of straight.rack ws
      go true e = ap (λ (q : Rack). written_of q ws) (sym (none_done mid m rest (sym same_done ∙ eqb-true again.done 0 e)))
      go false e =
          let g : Grown mid straight.rack = run_grows mid m rest mid_sound in
          ap (λ (q : Ran). written_of q.rack left) same_ran
          ∙ written_over mid straight.rack ws (run_stays mid m rest mid_sound) l g.settings g.entries

  -- the second call
  second : run_outcome left m rest ≡ record { answer = answer_of straight.done straight.refusal; lent = written_of straight.rack ws }
  unfolding run_outcome leaves
  second =
      let k : eqb (length left) word_count ≡ true = eq-eqb (length left) word_count (written_long mid ws ∙ l) in
      rw k (λ j. record { answer = record { done = same_done j; refusal = ap (λ (q : Ran). q.refusal) same_ran j }; lent = lent_same j })

-- ---- one call, by what it did

run_unfit : (ws : List ℕ) (n : ℕ) (es : List ℕ) → eqb (length ws) word_count ≡ false → run_outcome ws n es ≡ record { answer = answer_of 0 20; lent = ws }
unfolding run_outcome
run_unfit ws n es e = rw e

pub run_none : (ws : List ℕ) (n : ℕ) (es : List ℕ) → eqb (length ws) word_count ≡ true → eqb (run_of (rack_of ws) n es).done 0 ≡ true
    → run_outcome ws n es ≡ record { answer = answer_of 0 (run_of (rack_of ws) n es).refusal; lent = ws }
unfolding run_outcome leaves
run_none ws n es e d = rw (e, d) (ap (λ (k : ℕ). record { answer = answer_of k (run_of (rack_of ws) n es).refusal; lent = ws }) (eqb-true (run_of (rack_of ws) n es).done 0 d))

pub run_some : (ws : List ℕ) (n : ℕ) (es : List ℕ) → eqb (length ws) word_count ≡ true → eqb (run_of (rack_of ws) n es).done 0 ≡ false
    → run_outcome ws n es
    ≡ record { answer = answer_of (run_of (rack_of ws) n es).done (run_of (rack_of ws) n es).refusal; lent = written_of (run_of (rack_of ws) n es).rack ws }
unfolding run_outcome leaves
run_some ws n es e d = rw (e, d)

-- ---- two calls

-- what is to be shown of a first call with this outcome, where one call runs `all` and two calls leave `rest` to the second
abbrev GoesOn : List ℕ → ℕ → List ℕ → List ℕ → WordsOutcome → Type 0
GoesOn ws m all rest first = run_outcome ws (first.answer.done + m) all ≡ together first (run_outcome first.lent m rest)

-- nothing was done: the second call is the only one
none_goes_on : (ws : List ℕ) (m : ℕ) (all rest : List ℕ) (k : ℕ) → all ≡ rest → GoesOn ws m all rest (record { answer = answer_of 0 k; lent = ws })
unfolding together
none_goes_on ws m all rest k h =
    let x : WordsOutcome = run_outcome ws m rest in
    let a : 0 + m ≡ m = omega arith in
    let b : x.answer.done ≡ 0 + x.answer.done = omega arith in
    ap (λ (i : ℕ). run_outcome ws i all) a ∙ ap (run_outcome ws m) h ∙ (λ j. record { answer = record { done = b j; refusal = x.answer.refusal }; lent = x.lent })

-- something was done: the run goes on from the rack that is read again
some_goes_on : (ws : List ℕ) (n m : ℕ) (es all rest : List ℕ) → length ws ≡ word_count → ((run_of (rack_of ws) n es).done ≡ 0 → ⊥)
    → run_of (rack_of ws) (run_of (rack_of ws) n es).done all ≡ ran_of (run_of (rack_of ws) n es).done 0 (run_of (rack_of ws) n es).rack
    → drop (4 * (run_of (rack_of ws) n es).done) all ≡ rest
    → GoesOn ws m all rest
    (record { answer = answer_of (run_of (rack_of ws) n es).done (run_of (rack_of ws) n es).refusal; lent = written_of (run_of (rack_of ws) n es).rack ws })
unfolding run_outcome leaves together
some_goes_on ws n m es all rest l h same left =
    let d : ℕ = (run_of (rack_of ws) n es).done in
    let q : Rack = (run_of (rack_of ws) n es).rack in
    let y : Ran = run_of q m rest in
    let parts : run_of (rack_of ws) (d + m) all ≡ later d y =
    run_parts (rack_of ws) q d m all (start_sound ws n es m rest l h) same ∙ ap (λ (x : List ℕ). later d (run_of q m x)) left in
    let some : eqb (d + y.done) 0 ≡ false = ne_eqb (d + y.done) 0 (λ e. h (omega arith)) in
    ap (λ (t : Bool). cond t (leaves (run_of (rack_of ws) (d + m) all) ws) (unfit ws)) (eq-eqb (length ws) word_count l)
    ∙ ap (λ (x : Ran). leaves x ws) parts
    ∙ ap (λ (t : Bool). record { answer = answer_of (d + y.done) y.refusal; lent = cond t ws (written_of y.rack ws) }) some
    ∙ ap (λ (x : WordsOutcome). record { answer = answer_of (d + x.answer.done) x.answer.refusal; lent = x.lent }) (sym (second ws n es m rest l h))

-- What the first call did not do of its events, a second call goes on with: together they are one call, whatever is refused.
pub rest_goes_on : (ws : List ℕ) (n m : ℕ) (es : List ℕ)
    → let first = run_outcome ws n es in
    run_outcome ws (first.answer.done + m) es ≡ together first (run_outcome first.lent m (drop (4 * first.answer.done) es))
rest_goes_on ws n m es = go (eqb (length ws) word_count) refl (eqb (run_of (rack_of ws) n es).done 0) refl
  where
    Goal : WordsOutcome → Type 0
    Goal first = GoesOn ws m es (drop (4 * first.answer.done) es) first

    go : (t : Bool) → eqb (length ws) word_count ≡ t → (u : Bool) → eqb (run_of (rack_of ws) n es).done 0 ≡ u → Goal (run_outcome ws n es)
    go false e u f = subst Goal (sym (run_unfit ws n es e)) (none_goes_on ws m es es 20 refl)
    go true e true f = subst Goal (sym (run_none ws n es e f)) (none_goes_on ws m es es (run_of (rack_of ws) n es).refusal refl)
    go true e false f =
        subst Goal (sym (run_some ws n es e f))
        (some_goes_on ws n m es es (drop (4 * (run_of (rack_of ws) n es).done) es) (eqb-true (length ws) word_count e) (eqb-false (run_of (rack_of ws) n es).done 0 f)
        (run_steps (rack_of ws) n es).same refl)

-- no words
no_words : (es : List ℕ) → length es ≡ 0 → es ≡ []
no_words [] h = refl
no_words (x ∷ es) h = absurd (omega arith)

-- Where the first call did all its events, two calls are one run of the events of both: the same events done and refusal, and the same in every lent word.
pub two_calls_one_run : (ws : List ℕ) (n m : ℕ) (es more : List ℕ)
    → let first = run_outcome ws n es in
    4 * first.answer.done ≡ length es → run_outcome ws (first.answer.done + m) (es ++ more) ≡ together first (run_outcome first.lent m more)
two_calls_one_run ws n m es more = go (eqb (length ws) word_count) refl (eqb (run_of (rack_of ws) n es).done 0) refl
  where
    Goal : WordsOutcome → Type 0
    Goal first = 4 * first.answer.done ≡ length es → GoesOn ws m (es ++ more) more first

    go : (t : Bool) → eqb (length ws) word_count ≡ t → (u : Bool) → eqb (run_of (rack_of ws) n es).done 0 ≡ u → Goal (run_outcome ws n es)
    go false e u f = subst Goal (sym (run_unfit ws n es e)) (λ h. none_goes_on ws m (es ++ more) more 20 (ap (λ (x : List ℕ). x ++ more) (no_words es (sym h))))
    go true e true f =
        subst Goal (sym (run_none ws n es e f))
        (λ h. none_goes_on ws m (es ++ more) more (run_of (rack_of ws) n es).refusal (ap (λ (x : List ℕ). x ++ more) (no_words es (sym h))))
    go true e false f =
        let d : ℕ = (run_of (rack_of ws) n es).done in
        let some : d ≡ 0 → ⊥ = eqb-false (run_of (rack_of ws) n es).done 0 f in
        subst Goal (sym (run_some ws n es e f))
        (λ h. some_goes_on ws n m es (es ++ more) more (eqb-true (length ws) word_count e) some
        (run_front d (rack_of ws) es more [] (some_done (rack_of ws) n es some) (omega arith) ∙ ap (run_of (rack_of ws) d) (append-nil es) ∙ (run_steps (rack_of ws) n es).same)
        (ap (λ (k : ℕ). drop k (es ++ more)) h ∙ drop-append_seam es more))
