-- No more bytes are counted than are lent.
use Prim.Native.Nat.{ℕ, ◌≤◌, min}
use mathlib.Core.Path.{◌≡◌, ap, ◌∙◌}
use mathlib.Core.List.{List}
use native.Mathlib.Omega.{arith}
use lib.ListN.{length}
use lib.Seq.{length-sets}
use Rattle.std.specs.Prelude.{Ok, Err}
use Rattle.script.specs.Script.{Words, script_of}
use Rattle.play.specs.Play.{Recorded, record_bytes_of, answer_after, recorded_of, Records}
use Rattle.play.specs.Answers.{count_in}

counted : (s : List ℕ) (most : ℕ) (w : Words) → count_in (answer_after s most w) ≤ most
unfolding count_in
counted s most (Err (refusal, byte)) = omega arith
counted s most (Ok (replicas, clients, cells, allowance, first)) = omega arith

pub count_fits : (s before : List ℕ) (r : Recorded) (after : List ℕ) (refusal count : ℕ) → Records s before r after → r ≡ Ok (refusal, count) → count ≤ length after
unfolding count_in recorded_of
count_fits s before r after refusal count w e =
    let most : ℕ = min (length (record_bytes_of s)) (length before) in
    let given : count_in r ≡ count_in (answer_after s most (script_of s)) = ap count_in w.answer in
    let told : count_in r ≡ count = ap count_in e in
    let same : length after ≡ length before = ap length w.lent ∙ length-sets before 0 (record_bytes_of s) in
    omega (arith, counted s most (script_of s), given, told, same)
