-- No line has more than 59 bytes.
use Prim.Native.Nat.{◌≤◌}
use native.Mathlib.Omega.{arith}
use lib.ListN.{length, length-append}
use Rattle.verdict.specs.declared.Verdict.{Verdict}
use Rattle.verdict.specs.declared.Verdict.TheVariants.{Lawful, Unlawful, Refused}
use Rattle.text.specs.laws.Length.{digits_few}
use Rattle.report.specs.Line.{line_of}

pub line_few : (v : Verdict) → length (line_of v) ≤ 59
unfolding line_of
line_few Lawful = omega arith
line_few (Unlawful cell) = simp length-append (omega (arith, (digits_few 20 cell.0).few))
line_few (Refused number entry) = simp length-append (omega (arith, (digits_few 20 number).few, (digits_few 20 entry).few))
