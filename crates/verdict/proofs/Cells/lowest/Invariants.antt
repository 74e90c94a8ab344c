-- `verdict::Cells::lowest` meets its contract. The invariant: no cell below c is marked. Assumes nothing.
use Rattle.std.proofs.Common.{ℕ, ◌<◌, get_or, ◌≡◌}
use Rattle.verdict.proofs.Cells.lowest.Given as goal

abbrev pub invariant-loop-c : goal.invariant-loop-c
invariant-loop-c l = (d : ℕ) → d < l.c → get_or l.self.bad d 0 ≡ 0
