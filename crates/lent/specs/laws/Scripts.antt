-- The words of a script's events are of 32 bits.
use Prim.Native.Nat.{ℕ, zero, suc, ◌^◌, ◌<◌}
use Rattle.std.specs.Prelude.{◌≡◌, Bool, List, ltb, eqb, length, Ok, Err}
use Rattle.std.proofs.Math.Path.{refl}
use Rattle.std.proofs.Math.Bool.{true, false, cond}
use native.Mathlib.Omega.{arith}
use Rattle.number.specs.Number.{number_at, and_then}
use Rattle.number.proofs.theorems.Trip.{written_read}
use Rattle.number.specs.Number.{Number}
use Rattle.number.specs.Below.{Bytes, Words as Below32}
use Rattle.method.specs.laws.Tests.{whichever}
use Rattle.refusal.specs.declared.Refusal.TheVariants.{UnknownCode}
use Rattle.script.specs.Script.{Words, reading, last_at, cell_at, fields_at, event_at, Events, none, enter, events_in, words_of}

-- the four words of an event that could be read
abbrev FourSmall : Words → Type 0
FourSmall (Err (k, byte)) = Unit {0}
FourSmall (Ok (a, b, c, d, next)) = (a < 2 ^ 32) × ((b < 2 ^ 32) × ((c < 2 ^ 32) × (d < 2 ^ 32)))

module _ (s : List ℕ) (bytes : Bytes s) where
  reading_small : (at : ℕ) (go : ℕ → ℕ → Words) → ((n next : ℕ) → n < 2 ^ 32 → FourSmall (go n next)) → FourSmall (reading s at go)
  unfolding and_then
  reading_small at go h = by (number_at s at) refl
    where
      by : (r : Number) → number_at s at ≡ r → FourSmall (and_then (λ k. Err (k, at)) r go)
      by (Err k) e = tt
      by (Ok (n, next)) e = h n next (written_read s at n next bytes e).below

  last_small : (at x y z : ℕ) → x < 2 ^ 32 → y < 2 ^ 32 → z < 2 ^ 32 → FourSmall (last_at s at x y z)
  unfolding last_at
  last_small at x y z hx hy hz = reading_small at (λ n next. Ok (x, y, z, n, next)) (λ n next h. (hx, (hy, (hz, h))))

  cell_small : (at kind client : ℕ) → kind < 2 ^ 32 → client < 2 ^ 32 → FourSmall (cell_at s at kind client)
  unfolding cell_at
  cell_small at kind client hk hc =
      reading_small at (λ cell next. cond {A = Words} (eqb kind 0) (Ok (kind, client, cell, 0, next)) (last_at s next kind client cell))
      (λ cell next h. whichever FourSmall (eqb kind 0) (Ok (kind, client, cell, 0, next)) (last_at s next kind client cell) (hk, (hc, (h, omega arith)))
      (last_small next kind client cell hk hc h))

  fields_small : (at kind : ℕ) → kind < 2 ^ 32 → FourSmall (fields_at s at kind)
  unfolding fields_at
  fields_small at kind hk =
      reading_small at (λ field next. cond {A = Words} (ltb 1 kind) (Ok (kind, field, 0, 0, next)) (cell_at s next kind field))
      (λ field next h. whichever FourSmall (ltb 1 kind) (Ok (kind, field, 0, 0, next)) (cell_at s next kind field) (hk, (h, (omega arith, omega arith)))
      (cell_small next kind field hk h))

  event_four : (at : ℕ) → FourSmall (event_at s at)
  unfolding event_at
  event_four at =
      reading_small at (λ kind next. cond {A = Words} (ltb 8 kind) (Err (UnknownCode, at)) (fields_at s next kind))
      (λ kind next h. whichever FourSmall (ltb 8 kind) (Err (UnknownCode, at)) (fields_at s next kind) tt (fields_small next kind h))

  enter_small : (w : Words) (rest : ℕ → Events) → FourSmall w → ((next : ℕ) → Below32 (words_of (rest next))) → Below32 (words_of (enter w rest))
  unfolding enter words_of
  enter_small (Err (k, byte)) rest h ih i = omega arith
  enter_small (Ok (kind, a, b, value, next)) rest h ih zero = h.0
  enter_small (Ok (kind, a, b, value, next)) rest h ih (suc zero) = h.1.0
  enter_small (Ok (kind, a, b, value, next)) rest h ih (suc (suc zero)) = h.1.1.0
  enter_small (Ok (kind, a, b, value, next)) rest h ih (suc (suc (suc zero))) = h.1.1.1
  enter_small (Ok (kind, a, b, value, next)) rest h ih (suc (suc (suc (suc i)))) = ih next i

  pub script_words : (left at : ℕ) → Below32 (words_of (events_in left s at))
  unfolding events_in words_of
  script_words zero at = λ i. omega arith
  script_words (suc left) at = go (ltb at (length s)) (λ next. script_words left next)
    where
      go : (t : Bool) → ((next : ℕ) → Below32 (words_of (events_in left s next))) → Below32 (words_of (cond t (enter (event_at s at) (λ next. events_in left s next)) none))
      go true ih = enter_small (event_at s at) (λ next. events_in left s next) (event_four at) ih
      go false ih = λ i. omega arith
