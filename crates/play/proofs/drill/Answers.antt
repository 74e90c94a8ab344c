-- `play::drill` meets its contract. Assumes nothing.
use Rattle.std.proofs.Common.{sym, ap, ◌∙◌, ℕ}
use Rattle.text.specs.laws.Printing.{same_text}
use Rattle.lines.specs.Lines.{fault_line}
use Rattle.play.proofs.Laws.{fault_text, run_text}
use Rattle.play.proofs.drill.Goals as goal

pub returns-in-Err : goal.returns-in-Err
returns-in-Err c =
    same_text (ap (λ (k : ℕ). fault_line k c.in-Err.byte) c.number.ensures ∙ fault_text _ _ _ (sym c.check.ensures ∙ c.in-Err.is)) c.put_fault.ensures

pub returns-in-Ok : goal.returns-in-Ok
returns-in-Ok c = same_text (run_text _ _ _ _ _ _ _ (sym c.check.ensures ∙ c.in-Ok.is) c.play.ensures) c.put_ran.ensures
