-- A value v is written as 2v, or as -2v - 1 below zero. `pos n` is the value n, `negsuc n` the value -n - 1.
use Rattle.std.specs.Prelude.{ℕ, ◌+◌, ◌*◌, ◌/◌, ◌%◌, cond, eqb, ℤ, pos, negsuc}

-- the number that a value is written as
unfoldable pub alternating_of : ℤ → ℕ
alternating_of (pos n) = 2 * n
alternating_of (negsuc n) = 2 * n + 1

-- the value that a number stands for
unfoldable pub signed_of : ℕ → ℤ
signed_of n = cond (eqb (n % 2) 0) (pos (n / 2)) (negsuc (n / 2))
