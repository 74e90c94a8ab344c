-- `drill::main` is safe: the bytes that it lends are as many as it says. Assumes nothing.
use Rattle.std.proofs.Common.{ℕ, sym}
use lib.ListN.{length-replicate}
use Rattle.drill.proofs.main.Goals as goal

pub slice_bounds-answer-end : goal.slice_bounds-answer-end
slice_bounds-answer-end c = sym (length-replicate {0} {A = ℕ} 2097153 0)
