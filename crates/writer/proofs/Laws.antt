-- An entry's bytes are those of its row's numbers, without the fields that its kind hasn't got.
use Prim.Native.Nat.{ℕ, ◌+◌, ◌≤◌}
use mathlib.Core.Path.{◌≡◌, refl, ap}
use mathlib.Core.List.{List, ◌++◌, append_assoc}
use native.Mathlib.Omega.{arith}
use lib.ListN.{length, length-append, get_or}
use Rattle.number.specs.Number.{number_bytes}
use Rattle.number.specs.Value.{alternating_of}
use Rattle.number.specs.Wrote.{Wrote}
use Rattle.record.specs.declared.Entry.{Entry}
use Rattle.record.specs.declared.Entry.TheVariants.{ReadAsked, WriteAsked, Told, Done}
use Rattle.record.specs.Entry.{entry_bytes}
use Rattle.rows.specs.Row.{row_of}

-- the first two numbers are always written; what the rest is goes by the kind
pub record ByKind (e : Entry) (kind client cell value : ℕ) : Type 0 where
  pub both : length (number_bytes kind) + length (number_bytes client) ≤ length (entry_bytes e)
  pub third : (kind ≡ 3 → ⊥) → (kind ≡ 2 → ⊥) → length (number_bytes kind) + length (number_bytes client) + length (number_bytes cell) ≤ length (entry_bytes e)
  pub done : kind ≡ 3 → number_bytes kind ++ number_bytes client ≡ entry_bytes e
  pub told : kind ≡ 2 → (number_bytes kind ++ number_bytes client) ++ number_bytes value ≡ entry_bytes e
  pub read : kind ≡ 0 → (number_bytes kind ++ number_bytes client) ++ number_bytes cell ≡ entry_bytes e
  pub write : (kind ≡ 3 → ⊥) → (kind ≡ 2 → ⊥) → (kind ≡ 0 → ⊥) → ((number_bytes kind ++ number_bytes client) ++ number_bytes cell) ++ number_bytes value ≡ entry_bytes e

of_row : (e : Entry) → ByKind e (get_or (row_of e) 0 0) (get_or (row_of e) 1 0) (get_or (row_of e) 2 0) (get_or (row_of e) 3 0)
unfolding row_of entry_bytes
of_row (ReadAsked client cell) = record {
  both = simp length-append (omega arith);
  third = λ p q. simp length-append (omega arith);
  done = λ p. absurd (omega arith);
  told = λ p. absurd (omega arith);
  read = λ p. append_assoc (number_bytes 0) (number_bytes client.0) (number_bytes cell.0);
  write = λ p q r. absurd (r refl);
}
of_row (WriteAsked client cell v) = record {
  both = simp length-append (omega arith);
  third = λ p q. simp length-append (omega arith);
  done = λ p. absurd (omega arith);
  told = λ p. absurd (omega arith);
  read = λ p. absurd (omega arith);
  write = λ p q r. simp append_assoc;
}
of_row (Told client v) = record {
  both = simp length-append (omega arith);
  third = λ p q. absurd (q refl);
  done = λ p. absurd (omega arith);
  told = λ p. append_assoc (number_bytes 2) (number_bytes client.0) (number_bytes (alternating_of v));
  read = λ p. absurd (omega arith);
  write = λ p q r. absurd (q refl);
}
of_row (Done client) = record {
  both = simp length-append (omega arith);
  third = λ p q. absurd (p refl);
  done = λ p. refl;
  told = λ p. absurd (omega arith);
  read = λ p. absurd (omega arith);
  write = λ p q r. absurd (p refl);
}

pub by_kind : (e : Entry) (row : List ℕ) → row ≡ row_of e → ByKind e (get_or row 0 0) (get_or row 1 0) (get_or row 2 0) (get_or row 3 0)
by_kind e row p = rw p (of_row e)

-- how long they are
module _ {e : Entry} {kind client cell value : ℕ} (w : ByKind e kind client cell value) where
  pub done_long : kind ≡ 3 → length (number_bytes kind) + length (number_bytes client) ≡ length (entry_bytes e)
  done_long p = omega (arith, ap length (w.done p), length-append (number_bytes kind) (number_bytes client))

  pub told_long : kind ≡ 2 → length (number_bytes kind) + length (number_bytes client) + length (number_bytes value) ≡ length (entry_bytes e)
  told_long p =
      let two = length-append (number_bytes kind) (number_bytes client) in
      omega (arith, ap length (w.told p), length-append (number_bytes kind ++ number_bytes client) (number_bytes value))

  pub read_long : kind ≡ 0 → length (number_bytes kind) + length (number_bytes client) + length (number_bytes cell) ≡ length (entry_bytes e)
  read_long p =
      let two = length-append (number_bytes kind) (number_bytes client) in
      omega (arith, ap length (w.read p), length-append (number_bytes kind ++ number_bytes client) (number_bytes cell))

  pub write_long : (kind ≡ 3 → ⊥) → (kind ≡ 2 → ⊥) → (kind ≡ 0 → ⊥)
      → length (number_bytes kind) + length (number_bytes client) + length (number_bytes cell) + length (number_bytes value) ≡ length (entry_bytes e)
  write_long p q r =
      let two = length-append (number_bytes kind) (number_bytes client) in
      let three = length-append (number_bytes kind ++ number_bytes client) (number_bytes cell) in
      omega (arith, ap length (w.write p q r), length-append ((number_bytes kind ++ number_bytes client) ++ number_bytes cell) (number_bytes value))

-- what was written, as other bytes that are the same
pub wrote_as : {l : List ℕ} {at : ℕ} {xs ys : List ℕ} {a : ℕ} {l' : List ℕ} → xs ≡ ys → Wrote l at xs a l' → Wrote l at ys a l'
wrote_as p w = rw (← p) w
