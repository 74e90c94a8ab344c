-- `number::signed` meets its contract: half the number fits, and so does -1 less it. Assumes nothing.
use Rattle.std.proofs.Common.{◌/◌, ◌%◌, ◌≡◌, arith, eq-eqb, ne_eqb, negsuc, w32, to_z, of_z, to_z-of_z}
use Rattle.number.specs.Value.{signed_of}
use Rattle.number.proofs.Signs.{held, minus_pos}
use Rattle.number.proofs.signed.Goals as goal

pub returns-then-n-eq0 : goal.returns-then-n-eq0
unfolding signed_of
returns-then-n-eq0 c =
    let x = c.args.n in
    let h = held (x / 2) (omega arith) in
    simp (h, eq-eqb (x % 2) 0 c.if-n-eq0.true)

pub returns-else-n-eq0 : goal.returns-else-n-eq0
unfolding signed_of
returns-else-n-eq0 c =
    let x = c.args.n in
    let h = held (x / 2) (omega arith) in
    let g : to_z w32 (of_z w32 (negsuc (x / 2))) ≡ negsuc (x / 2) = to_z-of_z {w = w32} {z = negsuc (x / 2)} (record { sfits = omega arith }) in
    simp (h, minus_pos, ne_eqb (x % 2) 0 c.if-n-eq0.false, g)
