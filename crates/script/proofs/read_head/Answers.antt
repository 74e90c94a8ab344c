-- `script::read_head` meets its contract. Assumes nothing.
use Rattle.script.proofs.Reading.{passed_up}
use Rattle.script.specs.Script.{last_at, head_of}
use Rattle.script.specs.laws.Steps.{reads_on, reads_off}
use Rattle.script.proofs.read_head.Goals as goal

pub returns-in_err-replicas : goal.returns-in_err-replicas
unfolding head_of
returns-in_err-replicas c =
    passed_up c.from_residual.ensures.1 (reads_off _ _ _ c.in_err-replicas.ensures)

pub returns-in_err-clients : goal.returns-in_err-clients
unfolding head_of
returns-in_err-clients c =
    passed_up c.from_residual-in_err-clients.ensures.1 (rw (reads_on _ _ _ c.in_ok-replicas.ensures) (reads_off _ _ _ c.in_err-clients.ensures))

pub returns-in_err-cells : goal.returns-in_err-cells
unfolding head_of
returns-in_err-cells c =
    passed_up c.from_residual-in_err-cells.ensures.1 (rw (reads_on _ _ _ c.in_ok-replicas.ensures, reads_on _ _ _ c.in_ok-clients.ensures) (reads_off _ _ _ c.in_err-cells.ensures))

pub returns-in_err-allowance : goal.returns-in_err-allowance
unfolding head_of last_at
returns-in_err-allowance c =
    passed_up c.from_residual-in_err-allowance.ensures.1 (rw (reads_on _ _ _ c.in_ok-replicas.ensures, reads_on _ _ _ c.in_ok-clients.ensures, reads_on _ _ _ c.in_ok-cells.ensures) (reads_off _ _ _ c.in_err-allowance.ensures))

pub returns : goal.returns
unfolding head_of last_at
returns c = rw (reads_on _ _ _ c.in_ok-replicas.ensures, reads_on _ _ _ c.in_ok-clients.ensures, reads_on _ _ _ c.in_ok-cells.ensures, reads_on _ _ _ c.in_ok-allowance.ensures)
