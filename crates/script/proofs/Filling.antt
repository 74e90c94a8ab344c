-- How `script::fill` goes on: storing the rest from here on gives what storing all of it gives.
use Prim.Native.Nat.{ℕ, zero, suc, ◌+◌, ◌-◌, ◌*◌, ◌/◌, ◌≤◌, ◌<◌}
use mathlib.Core.Path.{◌≡◌, refl, sym, subst, ◌∙◌}
use mathlib.Core.List.{List, [], ◌∷◌}
use native.Mathlib.Omega.{arith}
use lib.ListN.{length}
use lib.Seq.{sets, length-sets}
use Rattle.std.specs.Prelude.{Ok, Err}
use Rattle.refusal.specs.declared.Refusal.{Refusal}
use Rattle.script.specs.Script.{event_at, Events, none, fault, events_from, words_up_to, count_up_to, place_after, Fills}
use Rattle.script.specs.laws.Steps.{ends, faults, goes_on}

-- nothing of n events from place at on is stored
record Nothing (n at : ℕ) (es : Events) : Type 0 where
  count : count_up_to n es ≡ 0
  place : place_after n at es ≡ at
  words : words_up_to n es ≡ []

unfoldable nothing_none : (n at : ℕ) → Nothing n at none
unfolding count_up_to place_after words_up_to
nothing_none zero at = record { count = refl; place = refl; words = refl }
nothing_none (suc n) at = record { count = refl; place = refl; words = refl }

unfoldable nothing_fault : (n at : ℕ) (k : Refusal) (byte : ℕ) → Nothing n at (fault k byte)
unfolding count_up_to place_after words_up_to
nothing_fault zero at k byte = record { count = refl; place = refl; words = refl }
nothing_fault (suc n) at k byte = record { count = refl; place = refl; words = refl }

unfoldable nothing_more : (n at : ℕ) (es : Events) → n ≡ 0 → Nothing n at es
unfolding count_up_to place_after words_up_to
nothing_more zero at es h = record { count = refl; place = refl; words = refl }
nothing_more (suc n) at es h = absurd (omega arith)

-- i events are stored, and the next stands at place at
pub record Filling (s : List ℕ) (first room : ℕ) (d₀ d : List ℕ) (i at : ℕ) : Type 0 where
  pub few : i ≤ room
  pub count : count_up_to room (events_from s first) ≡ i + count_up_to (room - i) (events_from s at)
  pub place : place_after room first (events_from s first) ≡ place_after (room - i) at (events_from s at)
  pub words : sets d₀ 0 (words_up_to room (events_from s first)) ≡ sets d (4 * i) (words_up_to (room - i) (events_from s at))
  pub long : length d ≡ length d₀

pub begins : (s : List ℕ) (first room : ℕ) (d : List ℕ) → Filling s first room d d 0 first
begins s first room d = let e : room - 0 ≡ room = omega arith in
    record { few = omega arith; count = rw e (omega arith); place = rw e; words = rw e; long = refl }

module _ (s : List ℕ) (first : ℕ) (d₀ d : List ℕ) (i at : ℕ) (f : Filling s first (length d₀ / 4) d₀ d i at) where
  stops : (n : ℕ) → n ≡ length d₀ / 4 - i → Nothing n at (events_from s at) → Fills s first d₀ (record { count = i; next = at }) d
  stops n e h = record {
    count = sym (f.count ∙ rw (← e) (omega (arith, h.count)));
    next = sym (f.place ∙ rw (← e) h.place);
    words = sym (f.words ∙ rw (← e, h.words));
  }

  -- the bytes end, a fault comes, or the lent words are full
  pub stops_at_end : length s ≤ at → Fills s first d₀ (record { count = i; next = at }) d
  stops_at_end h = stops _ refl (rw (ends s at h) (nothing_none _ at))

  pub stops_at_fault : (k : Refusal) (byte : ℕ) → at < length s → event_at s at ≡ Err (k, byte) → Fills s first d₀ (record { count = i; next = at }) d
  stops_at_fault k byte h p = stops _ refl (rw (faults s at k byte h p) (nothing_fault _ at k byte))

  pub stops_full : length d₀ / 4 ≤ i → Fills s first d₀ (record { count = length d₀ / 4; next = at }) d
  stops_full h =
      let e : i ≡ length d₀ / 4 = omega (arith, f.few) in
      subst (λ (n : ℕ). Fills s first d₀ (record { count = n; next = at }) d) e (stops _ refl (nothing_more _ at (events_from s at) (omega arith)))

  -- one event more
  pub stores : (kind a b value next : ℕ) → i < length d₀ / 4 → at < length s → event_at s at ≡ Ok (kind, a, b, value, next)
      → Filling s first (length d₀ / 4) d₀ (sets d (4 * i) (kind ∷ a ∷ b ∷ value ∷ [])) (i + 1) next
  unfolding count_up_to place_after words_up_to
  stores kind a b value next l h p =
      let e : length d₀ / 4 - i ≡ suc (length d₀ / 4 - (i + 1)) = omega arith in
      let g = goes_on s at kind a b value next h p in
      let four : suc (suc (suc (suc (4 * i)))) ≡ 4 * (i + 1) = omega arith in
      record {
        few = omega arith;
        count = f.count ∙ rw (e, g) (omega arith);
        place = f.place ∙ rw (e, g);
        words = f.words ∙ rw (e, g, ← four);
        long = length-sets d (4 * i) (kind ∷ a ∷ b ∷ value ∷ []) ∙ f.long;
      }
