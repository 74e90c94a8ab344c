-- How a script goes on, event by event: the loops lean on these laws alone.
use Rattle.std.specs.Prelude.{ℕ, zero, suc, ◌+◌, ◌-◌, ◌*◌, ◌≤◌, ◌<◌, ◌≡◌, refl, List, [], ◌∷◌, ◌++◌, Bool, true, false, cond, length, drop, ltb, eqb, Result, Ok, Err}
use Rattle.std.proofs.Common.{sym, ap, arith, lt-ltb, le-ltb, ltb-true, ltb-false}
use Rattle.number.specs.Number.{Number, number_at, number_of, taken, last_of, ends_first, last_is_zero, fifth_above, value_of, and_then}
use Rattle.number.specs.laws.NumberLaws.{same_read}
use Rattle.refusal.specs.declared.Refusal.{Refusal}
use Rattle.refusal.specs.declared.Refusal.TheVariants.{EndsFirst, LastIsZero, FifthAbove, UnknownCode}
use Rattle.script.specs.Script.{Words, reading, last_at, cell_at, fields_at, event_at, Events, none, fault, event, enter, events_in, events_from, unless_fault, words_of, words_up_to}
use Rattle.script.specs.Script.{count_up_to, place_after}

-- what is refused is not handed out
refused_not : {A B E : Type 0} {e : E} {a : A} → ◌≡◌ {A = Result A E} (Err e) (Ok a) → B
refused_not p = let z : ◌≡◌ {A = ℕ} 0 1 = cc in absurd (omega arith)

-- ---- a number that is read, and what follows it

module _ {A : Type 0} (s : List ℕ) (at : ℕ) (go : ℕ → ℕ → Result A (Refusal × ℕ)) where
  -- reading goes on with the number, or its refusal is what is given
  pub reads_on : {n next : ℕ} → Ok (n, next) ≡ reading {A = ℕ × ℕ} s at (λ m after. Ok (m, after)) → reading s at go ≡ go n next
  unfolding and_then
  reads_on {n} {next} p = by (number_at s at) (sym p)
    where
      by : (r : Number) → ◌≡◌ {A = Result (ℕ × ℕ) (Refusal × ℕ)} (and_then (λ k. Err (k, at)) r (λ m after. Ok (m, after))) (Ok (n, next))
          → and_then (λ k. Err (k, at)) r go ≡ go n next
      by (Err k) q = refused_not q
      by (Ok (m, after)) q = let e = same_read q in rw (e.0, e.1)

  pub reads_off : {e : Refusal × ℕ} → Err e ≡ reading {A = ℕ × ℕ} s at (λ m after. Ok (m, after)) → reading s at go ≡ Err e
  unfolding and_then
  reads_off {e} p = by (number_at s at) (sym p)
    where
      by : (r : Number) → ◌≡◌ {A = Result (ℕ × ℕ) (Refusal × ℕ)} (and_then (λ k. Err (k, at)) r (λ m after. Ok (m, after))) (Err e)
          → ◌≡◌ {A = Result A (Refusal × ℕ)} (and_then (λ k. Err (k, at)) r go) (Err e)
      by (Err k) q = let h : (k, at) ≡ e = cc in ap (λ (x : Refusal × ℕ). Err x) h
      by (Ok (m, after)) q = refused_not (sym q)

-- ---- what is read takes a byte at least

number_rises : (s : List ℕ) (at n next : ℕ) → number_at s at ≡ Ok (n, next) → at < next
unfolding number_at number_of last_of
number_rises s at n next p = go (taken 4 (drop at s)) (ends_first (taken 4 (drop at s))) refl (last_is_zero (taken 4 (drop at s))) (fifth_above (taken 4 (drop at s))) p
  where
    go : (bs : List ℕ) (e : Bool) → ends_first bs ≡ e → (z a : Bool)
        → cond {A = Number} e (Err EndsFirst) (cond z (Err LastIsZero) (cond a (Err FifthAbove) (Ok (value_of bs, at + length bs)))) ≡ Ok (n, next) → at < next
    go bs true h z a q = refused_not q
    go bs false h true a q = refused_not q
    go bs false h false true q = refused_not q
    go [] false h false false q = absurd (let z : ◌≡◌ {A = ℕ} 0 1 = cc in omega arith)
    go (b ∷ bs) false h false false q = let e : at + length (b ∷ bs) ≡ next = (same_read q).1 in omega arith

-- a number, and then what doesn't go back
reading_rises : (s : List ℕ) (at : ℕ) (rest : ℕ → ℕ → Words) (kind a b value next : ℕ)
    → ((n after : ℕ) → rest n after ≡ Ok (kind, a, b, value, next) → after ≤ next) → reading s at rest ≡ Ok (kind, a, b, value, next) → at < next
unfolding and_then
reading_rises s at rest kind a b value next h p = go (number_at s at) refl p
  where
    go : (r : Number) → number_at s at ≡ r → and_then {A = Words} (λ k. Err (k, at)) r rest ≡ Ok (kind, a, b, value, next) → at < next
    go (Err k) e q = refused_not q
    go (Ok (n, after)) e q = omega (arith, number_rises s at n after e, h n after q)

same_place : {x y z n after kind a b value next : ℕ} → ◌≡◌ {A = Words} (Ok (x, y, z, n, after)) (Ok (kind, a, b, value, next)) → after ≤ next
same_place {x} {y} {z} {n} {after} {kind} {a} {b} {value} {next} p =
    let q : ◌≡◌ {A = ℕ × ℕ × ℕ × ℕ × ℕ} (x, y, z, n, after) (kind, a, b, value, next) = cc in
    let e : after ≡ next = ap (λ (t : ℕ × ℕ × ℕ × ℕ × ℕ). t.4) q in
    omega arith

last_rises : (s : List ℕ) (at x y z kind a b value next : ℕ) → last_at s at x y z ≡ Ok (kind, a, b, value, next) → at < next
unfolding last_at
last_rises s at x y z kind a b value next p = reading_rises s at (λ n after. Ok (x, y, z, n, after)) kind a b value next (λ n after q. same_place q) p

cell_rises : (s : List ℕ) (at x y kind a b value next : ℕ) → cell_at s at x y ≡ Ok (kind, a, b, value, next) → at < next
unfolding cell_at
cell_rises s at x y kind a b value next p =
    reading_rises s at (λ cell after. cond (eqb x 0) (Ok (x, y, cell, 0, after)) (last_at s after x y cell)) kind a b value next
    (λ cell after. go cell after (eqb x 0)) p
  where
    go : (cell after : ℕ) (t : Bool) → cond {A = Words} t (Ok (x, y, cell, 0, after)) (last_at s after x y cell) ≡ Ok (kind, a, b, value, next) → after ≤ next
    go cell after true q = same_place q
    go cell after false q = omega (arith, last_rises s after x y cell kind a b value next q)

fields_rises : (s : List ℕ) (at x kind a b value next : ℕ) → fields_at s at x ≡ Ok (kind, a, b, value, next) → at < next
unfolding fields_at
fields_rises s at x kind a b value next p =
    reading_rises s at (λ field after. cond (ltb 1 x) (Ok (x, field, 0, 0, after)) (cell_at s after x field)) kind a b value next
    (λ field after. go field after (ltb 1 x)) p
  where
    go : (field after : ℕ) (t : Bool) → cond {A = Words} t (Ok (x, field, 0, 0, after)) (cell_at s after x field) ≡ Ok (kind, a, b, value, next) → after ≤ next
    go field after true q = same_place q
    go field after false q = omega (arith, cell_rises s after x field kind a b value next q)

pub event_rises : (s : List ℕ) (at kind a b value next : ℕ) → event_at s at ≡ Ok (kind, a, b, value, next) → at < next
unfolding event_at
event_rises s at kind a b value next p =
    reading_rises s at (λ code after. cond (ltb 8 code) (Err (UnknownCode, at)) (fields_at s after code)) kind a b value next
    (λ code after. go code after (ltb 8 code)) p
  where
    go : (code after : ℕ) (t : Bool) → cond {A = Words} t (Err (UnknownCode, at)) (fields_at s after code) ≡ Ok (kind, a, b, value, next) → after ≤ next
    go code after true q = refused_not q
    go code after false q = omega (arith, fields_rises s after code kind a b value next q)

-- ---- the events from a place on, by what stands there

none_past : (f : ℕ) (s : List ℕ) (at : ℕ) → length s ≤ at → events_in f s at ≡ none
unfolding events_in
none_past zero s at h = refl
none_past (suc f) s at h = simp (le-ltb at (length s) h)

-- any bound that the bytes don't exceed gives the same events
enough : (f g : ℕ) (s : List ℕ) (at : ℕ) → length s ≤ at + f → length s ≤ at + g → events_in f s at ≡ events_in g s at
unfolding events_in enter
enough zero g s at h k = sym (none_past g s at (omega arith))
enough (suc f) zero s at h k = none_past (suc f) s at (omega arith)
enough (suc f) (suc g) s at h k = go (ltb at (length s)) (event_at s at) refl (λ next. enough f g s next)
  where
    go : (t : Bool) (w : Words) → event_at s at ≡ w → ((next : ℕ) → length s ≤ next + f → length s ≤ next + g → events_in f s next ≡ events_in g s next)
        → cond t (enter w (λ next. events_in f s next)) none ≡ cond t (enter w (λ next. events_in g s next)) none
    go false w e ih = refl
    go true (Err (n, byte)) e ih = refl
    go true (Ok (kind, a, b, value, next)) e ih =
        let l : at < next = event_rises s at kind a b value next e in
        ap (event kind a b value next) (ih next (omega arith) (omega arith))

-- the end of the bytes
pub ends : (s : List ℕ) (at : ℕ) → length s ≤ at → events_from s at ≡ none
ends s at h = none_past (length s - at) s at h

-- a fault
pub faults : (s : List ℕ) (at : ℕ) (k : Refusal) (byte : ℕ) → at < length s → event_at s at ≡ Err (k, byte) → events_from s at ≡ fault k byte
unfolding events_in enter
faults s at k byte h p = let e : length s - at ≡ suc (length s - suc at) = omega arith in rw e (simp (lt-ltb at (length s) h, p))

-- an event, and those after it
pub goes_on : (s : List ℕ) (at kind a b value next : ℕ) → at < length s → event_at s at ≡ Ok (kind, a, b, value, next)
    → events_from s at ≡ event kind a b value next (events_from s next)
unfolding events_in enter
goes_on s at kind a b value next h p =
    let e : length s - at ≡ suc (length s - suc at) = omega arith in
    let l : at < next = event_rises s at kind a b value next p in
    rw e (simp (lt-ltb at (length s) h, p) (ap (event kind a b value next) (enough (length s - suc at) (length s - next) s next (omega arith) (omega arith))))

-- ---- the first fault

module _ {A : Type 0} (s : List ℕ) (at : ℕ) (w : Result A (Refusal × ℕ)) where
  pub no_fault : length s ≤ at → unless_fault (events_from s at) w ≡ w
  unfolding unless_fault
  no_fault h = rw (ends s at h)

  pub fault_here : (k : Refusal) (byte : ℕ) → at < length s → event_at s at ≡ Err (k, byte) → unless_fault (events_from s at) w ≡ Err (k, byte)
  unfolding unless_fault
  fault_here k byte h p = rw (faults s at k byte h p)

  pub fault_later : (kind a b value next : ℕ) → at < length s → event_at s at ≡ Ok (kind, a, b, value, next)
      → unless_fault (events_from s at) w ≡ unless_fault (events_from s next) w
  unfolding unless_fault
  fault_later kind a b value next h p = rw (goes_on s at kind a b value next h p)

-- which is given whatever stands beside it, and nothing where there is none
pub unless_none : {A B : Type 0} (es : Events) (x y : A) (w : Result B (Refusal × ℕ)) → unless_fault es (Ok x) ≡ Ok y → unless_fault es w ≡ w
unfolding unless_fault
unless_none none x y w p = refl
unless_none (fault k byte) x y w p = refused_not p
unless_none (event kind a b value next es) x y w p = unless_none es x y w p

pub unless_some : {A B : Type 0} (es : Events) (x : A) (e : Refusal × ℕ) (w : Result B (Refusal × ℕ)) → unless_fault es (Ok x) ≡ Err e → unless_fault es w ≡ Err e
unfolding unless_fault
unless_some none x e w p = refused_not (sym p)
unless_some (fault k byte) x e w p = let h : (k, byte) ≡ e = cc in ap (λ (t : Refusal × ℕ). Err t) h
unless_some (event kind a b value next es) x e w p = unless_some es x e w p

-- ---- the words of a script, in two parts

-- each event has four words
pub four_each : (n : ℕ) (es : Events) → length (words_up_to n es) ≡ 4 * count_up_to n es
unfolding words_up_to count_up_to
four_each zero es = refl
four_each (suc n) none = refl
four_each (suc n) (fault k byte) = refl
four_each (suc n) (event kind a b value next es) = omega (arith, four_each n es)

-- n events at most
pub few_each : (n : ℕ) (es : Events) → count_up_to n es ≤ n
unfolding count_up_to
few_each zero es = omega arith
few_each (suc n) none = omega arith
few_each (suc n) (fault k byte) = omega arith
few_each (suc n) (event kind a b value next es) = omega (arith, few_each n es)

-- the words of the first n events, and those from the place after them on
pub words_parts : (n : ℕ) (s : List ℕ) (at : ℕ)
    → words_of (events_from s at) ≡ words_up_to n (events_from s at) ++ words_of (events_from s (place_after n at (events_from s at)))
unfolding words_of words_up_to place_after
words_parts zero s at = refl
words_parts (suc n) s at = go (ltb at (length s)) refl (event_at s at) refl (words_parts n s)
  where
    go : (t : Bool) → ltb at (length s) ≡ t → (w : Words) → event_at s at ≡ w
        → ((p : ℕ) → words_of (events_from s p) ≡ words_up_to n (events_from s p) ++ words_of (events_from s (place_after n p (events_from s p))))
        → words_of (events_from s at) ≡ words_up_to (suc n) (events_from s at) ++ words_of (events_from s (place_after (suc n) at (events_from s at)))
    go false h w e ih = let g = ends s at (ltb-false at (length s) h) in rw (g, g)
    go true h (Err (k, byte)) e ih = let g = faults s at k byte (ltb-true at (length s) h) e in rw (g, g)
    go true h (Ok (kind, a, b, value, next)) e ih =
        rw (goes_on s at kind a b value next (ltb-true at (length s) h) e) (ap (λ (ws : List ℕ). kind ∷ a ∷ b ∷ value ∷ ws) (ih next))

-- where none is found, there are no words
pub no_words : (n : ℕ) (es : Events) → count_up_to (suc n) es ≡ 0 → words_of es ≡ []
unfolding count_up_to words_of
no_words n none h = refl
no_words n (fault k byte) h = refl
no_words n (event kind a b value next es) h = absurd (omega arith)
