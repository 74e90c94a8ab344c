-- `play::record_run` meets its contract. Assumes nothing.
use Rattle.std.proofs.Common.{sym}
use Rattle.std.proofs.lemmas.Result.{err_from_is_err_and}
use Rattle.play.proofs.Laws.{fault_recorded, run_recorded}
use Rattle.play.proofs.record_run.Goals as goal

pub returns-in_err-replicas : goal.returns-in_err-replicas
returns-in_err-replicas c =
    let p = err_from_is_err_and c.from_residual.result c.from_residual.ensures.1 in
    rw (p.1, p.2) (fault_recorded _ _ _ (sym c.in_err-replicas.ensures))

pub returns : goal.returns
returns c = run_recorded _ _ _ _ _ _ _ _ _ _ (sym c.in_ok-replicas.ensures) c.play-played.ensures c.put_record_bytes-count.ensures
