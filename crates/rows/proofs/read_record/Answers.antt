-- `rows::read_record` meets its contract: what the survey said decides. Assumes nothing.
use Rattle.std.proofs.Common.{sym, ap, arith}
use Rattle.std.proofs.lemmas.Result.{err_from_is_err_and}
use Rattle.rows.specs.Rows.{Outcome}
use Rattle.rows.proofs.Filling.{read_refused, read_short, read_storable, read_all}
use Rattle.rows.proofs.read_record.Goals as goal

pub returns-in_err-n : goal.returns-in_err-n
returns-in_err-n c =
    let p = err_from_is_err_and c.from_residual.result c.from_residual.ensures.1 in
    let e = read_refused _ _ _ c.args.rows.now (sym c.in_err-n.ensures) in
    rw (p.1, p.2) (record { answers = sym (ap (λ (o : Outcome). o.answer) e); leaves = sym (ap (λ (o : Outcome). o.lent) e) })

pub returns-then-rows-n : goal.returns-then-rows-n
returns-then-rows-n c =
    let e = read_short _ _ c.args.rows.now (sym c.in_ok-n.ensures) (omega arith) in
    record { answers = sym (ap (λ (o : Outcome). o.answer) e); leaves = sym (ap (λ (o : Outcome). o.lent) e) }

pub store_rows-requires : goal.store_rows-requires
store_rows-requires c = read_storable _ _ _ (sym c.in_ok-n.ensures) (omega arith)

pub returns : goal.returns
returns c = record { answers = sym (read_all _ _ _ (sym c.in_ok-n.ensures) (omega arith)); leaves = c.store_rows.ensures }
