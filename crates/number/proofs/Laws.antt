-- What reading finds at a place of a slice, by the byte that stands there, and what writing one group more leaves.
use Rattle.std.specs.Prelude.{Ok, Err}
use Prim.Native.Nat.{ℕ, zero, suc, ◌+◌, ◌-◌, ◌/◌, ◌%◌, ◌^◌, ◌<◌, ◌≤◌}
use mathlib.Core.List.{List}
use mathlib.Core.Path.{◌≡◌, refl, ap, ◌∙◌}
use native.Mathlib.Omega.{arith}
use native.Mathlib.Numerals.{add-one}
use lib.ListN.{drop, length, get_or, set, length-set, drop_of_length-le}
use lib.Seq.{drop-cons, sets}
use borrow.Author.Tests.{lt-ltb, le-ltb}
use Rattle.number.specs.Below.{byte_limit}
use Rattle.number.specs.Number.{group_size, fifth_most, groups_of, number_bytes}
use Rattle.number.specs.laws.Steps.{read_go, push}
use Rattle.number.proofs.theorems.Trip.{read_below}
use Rattle.number.specs.laws.NumberLaws.{top, groups_small, groups_more, groups_some}
use Rattle.number.specs.Number.{Number}
use Rattle.refusal.specs.declared.Refusal.TheVariants.{EndsFirst, FifthAbove}

-- ---- reading

module _ (s : List ℕ) (at : ℕ) where
  pub at_end : (f : ℕ) → length s ≤ at → read_go f at (drop at s) ≡ Err EndsFirst
  unfolding read_go
  at_end zero h = simp (drop_of_length-le s h)
  at_end (suc f) h = simp (drop_of_length-le s h)

  pub fifth_high : (f : ℕ) → at < length s → f ≡ 0 → fifth_most < get_or s at 0 → read_go f at (drop at s) ≡ Err FifthAbove
  unfolding read_go
  fifth_high f h z g = simp (z, drop-cons s at 0 h, lt-ltb fifth_most (get_or s at 0) g)

  pub fifth : (f : ℕ) → at < length s → f ≡ 0 → get_or s at 0 ≤ fifth_most → read_go f at (drop at s) ≡ Ok (get_or s at 0, at + 1)
  unfolding read_go
  fifth f h z g = simp (z, drop-cons s at 0 h, le-ltb fifth_most (get_or s at 0) g)

  pub low : (f : ℕ) → at < length s → (f ≡ 0 → ⊥) → get_or s at 0 < group_size → read_go f at (drop at s) ≡ Ok (get_or s at 0, at + 1)
  unfolding read_go
  low zero h z g = absurd (z refl)
  low (suc f) h z g = simp (drop-cons s at 0 h, lt-ltb (get_or s at 0) group_size g)

  -- a byte of 128 or more before the rest r of the number
  pub high : (f : ℕ) (r : Number) → at < length s → (f ≡ 0 → ⊥) → group_size ≤ get_or s at 0 → read_go (f - 1) (at + 1) (drop (at + 1) s) ≡ r
      → read_go f at (drop at s) ≡ push (get_or s at 0) r
  unfolding read_go
  high zero r h z g q = absurd (z refl)
  high (suc f) r h z g q =
      let e : suc f - 1 ≡ f = omega arith in
      let p : read_go (suc f) at (drop at s) ≡ push (get_or s at 0) (read_go (suc f - 1) (at + 1) (drop (at + 1) s)) =
      simp (drop-cons s at 0 h, le-ltb (get_or s at 0) group_size g, e, add-one) in
      p ∙ ap (push (get_or s at 0)) q

top_at_most : (f : ℕ) → f ≤ 3 → top f ≤ 2 ^ 25
unfolding top
top_at_most zero h = omega arith
top_at_most (suc zero) h = omega arith
top_at_most (suc (suc zero)) h = omega arith
top_at_most (suc (suc (suc zero))) h = omega arith
top_at_most (suc (suc (suc (suc f)))) h = absurd (omega arith)

-- a number of at most four bytes is below 2 ^ 25
pub rest_below : (s : List ℕ) (f at n next : ℕ) → ((i : ℕ) → get_or s i 0 < byte_limit) → f ≤ 3 → read_go f at (drop at s) ≡ Ok (n, next) → n < 2 ^ 25
rest_below s f at n next h g e = omega (arith, read_below s f at n next h e, top_at_most f g)

-- ---- how long a number is

more : (f n : ℕ) → group_size ≤ n → length (groups_of (suc f) n) ≡ suc (length (groups_of f (n / group_size)))
more f n h = ap length (groups_more f n h)

-- each limit is 128 times the one before: the rest of the number takes one byte less
pub takes_1 : (f n : ℕ) → n < group_size → length (groups_of f n) ≡ 1
takes_1 f n h = ap length (groups_small f n h)

pub takes_2 : (f n : ℕ) → group_size ≤ n → n < group_size ^ 2 → length (groups_of (suc f) n) ≡ 2
takes_2 f n h g = more f n h ∙ ap suc (takes_1 f (n / group_size) (omega arith))

pub takes_3 : (f n : ℕ) → group_size ^ 2 ≤ n → n < group_size ^ 3 → length (groups_of (suc (suc f)) n) ≡ 3
takes_3 f n h g = more (suc f) n (omega arith) ∙ ap suc (takes_2 f (n / group_size) (omega arith) (omega arith))

pub takes_4 : (f n : ℕ) → group_size ^ 3 ≤ n → n < group_size ^ 4 → length (groups_of (suc (suc (suc f))) n) ≡ 4
takes_4 f n h g = more (suc (suc f)) n (omega arith) ∙ ap suc (takes_3 f (n / group_size) (omega arith) (omega arith))

-- a number that takes every group there may be
pub takes_5 : (n : ℕ) → group_size ^ 4 ≤ n → length (number_bytes n) ≡ 5
unfolding groups_of
takes_5 n h =
    more 3 n (omega arith) ∙ ap suc (
    more 2 (n / group_size) (omega arith) ∙ ap suc (
    more 1 (n / group_size / group_size) (omega arith) ∙ ap suc (
    more 0 (n / group_size / group_size / group_size) (omega arith))))

-- ---- writing

-- what is left of a number to write is written on: f groups more may follow the next, and all of them fit
pub record WritesOn (buf₀ : List ℕ) (at : ℕ) (all buf : List ℕ) (i m : ℕ) : Type 0 where
  pub f : ℕ
  pub small : m < top f
  pub ahead : i < length buf
  pub room : i + length (groups_of f m) ≤ length buf
  pub long : length buf ≡ length buf₀
  pub place : i + length (groups_of f m) ≡ at + length all
  pub same : sets buf i (groups_of f m) ≡ sets buf₀ at all

-- one group is written, and the rest of the number is above
pub step : (buf₀ : List ℕ) (at : ℕ) (all buf : List ℕ) (i m f : ℕ) → group_size ≤ m → m < top f → i + length (groups_of f m) ≤ length buf → length buf ≡ length buf₀
    → i + length (groups_of f m) ≡ at + length all → sets buf i (groups_of f m) ≡ sets buf₀ at all
    → WritesOn buf₀ at all (set buf i (group_size + m % group_size)) (i + 1) (m / group_size)
unfolding top
step buf₀ at all buf i m zero h small room long place same = absurd (omega arith)
step buf₀ at all buf i m (suc f) h small room long place same =
    let e = groups_more f m h in
    let l = more f m h in
    let o = groups_some f (m / group_size) in
    record {
      f = f;
      small = omega arith;
      ahead = simp length-set (omega arith);
      room = simp length-set (omega arith);
      long = simp length-set (omega arith);
      place = omega arith;
      same = simp add-one (simp e at same);
    }

-- the last group
pub finish : (buf : List ℕ) (i m f : ℕ) → m < group_size → (length (groups_of f m) ≡ 1) × (sets buf i (groups_of f m) ≡ set buf i m)
finish buf i m f h = simp (groups_small f m h) (refl, refl)
