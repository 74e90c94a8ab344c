-- `script::read_cell` meets its contract. Assumes nothing.
use Rattle.std.proofs.Common.{eq-eqb, ne_eqb}
use Rattle.script.proofs.Reading.{passed_up}
use Rattle.script.specs.Script.{last_at, cell_at}
use Rattle.script.specs.laws.Steps.{reads_on, reads_off}
use Rattle.script.proofs.read_cell.Goals as goal

pub returns-in_err-cell : goal.returns-in_err-cell
unfolding cell_at
returns-in_err-cell c =
    passed_up c.from_residual.ensures.1 (reads_off _ _ _ c.in_err-cell.ensures)

pub returns-then-kind-eq0 : goal.returns-then-kind-eq0
unfolding cell_at
returns-then-kind-eq0 c = rw (reads_on _ _ _ c.in_ok-cell.ensures, eq-eqb _ _ c.if-kind-eq0.true)

pub returns-in_err-value : goal.returns-in_err-value
unfolding cell_at last_at
returns-in_err-value c =
    passed_up c.from_residual-in_err-value.ensures.1 (rw (reads_on _ _ _ c.in_ok-cell.ensures, ne_eqb _ _ c.if-kind-eq0.false) (reads_off _ _ _ c.in_err-value.ensures))

pub returns : goal.returns
unfolding cell_at last_at
returns c = rw (reads_on _ _ _ c.in_ok-cell.ensures, ne_eqb _ _ c.if-kind-eq0.false, reads_on _ _ _ c.in_ok-value.ensures)
