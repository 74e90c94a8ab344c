-- `writer::write_record` meets its contract: what was measured decides. Assumes nothing.
use Rattle.std.proofs.Common.{sym, ap, arith}
use Rattle.std.proofs.lemmas.Result.{err_from_is_err_and}
use Rattle.rows.specs.Rows.{Outcome}
use Rattle.writer.proofs.Emitting.{write_refused, write_short, write_writable, write_all}
use Rattle.writer.proofs.write_record.Goals as goal

pub returns-in_err-n : goal.returns-in_err-n
returns-in_err-n c =
    let p = err_from_is_err_and c.from_residual.result c.from_residual.ensures.1 in
    let e = write_refused _ _ _ c.args.bytes.now (sym c.in_err-n.ensures) in
    rw (p.1, p.2) (record { answers = sym (ap (λ (o : Outcome). o.answer) e); leaves = sym (ap (λ (o : Outcome). o.lent) e) })

pub returns-then-bytes-n : goal.returns-then-bytes-n
returns-then-bytes-n c =
    let e = write_short _ _ c.args.bytes.now (sym c.in_ok-n.ensures) (omega arith) in
    record { answers = sym (ap (λ (o : Outcome). o.answer) e); leaves = sym (ap (λ (o : Outcome). o.lent) e) }

pub put_rows-requires : goal.put_rows-requires
put_rows-requires c = write_writable _ _ _ (sym c.in_ok-n.ensures) (omega arith)

pub returns : goal.returns
returns c = record { answers = sym (write_all _ _ _ (sym c.in_ok-n.ensures) (omega arith)); leaves = c.put_rows.ensures }
