-- `reader::read_entry` meets its contract. Assumes nothing.
use Rattle.std.proofs.Common.{sym, arith}
use Rattle.std.proofs.lemmas.Result.{err_from_is_err_and}
use Rattle.refusal.specs.declared.Refusal.TheVariants.{FieldAbove}
use Rattle.record.specs.Entry.{last_client, entry_at}
use Rattle.number.specs.Number.{and_then}
use Rattle.record.proofs.theorems.EntryTrip.{passed}
use Rattle.reader.proofs.read_entry.Goals as goal

pub overflow_cast-client : goal.overflow_cast-client
overflow_cast-client c = omega (arith, (passed last_client FieldAbove _ _ _ (sym c.in_ok-client.ensures)).1)

pub returns-in_err-kind : goal.returns-in_err-kind
unfolding entry_at and_then
returns-in_err-kind c =
    let p = err_from_is_err_and c.from_residual.result c.from_residual.ensures.1 in
    rw (p.1, p.2) (simp (sym c.in_err-kind.ensures))

pub returns-in_err-client : goal.returns-in_err-client
unfolding entry_at and_then
returns-in_err-client c =
    let p = err_from_is_err_and c.from_residual-in_err-client.result c.from_residual-in_err-client.ensures.1 in
    rw (p.1, p.2) (simp (sym c.in_ok-kind.ensures, sym c.in_err-client.ensures))

pub returns : goal.returns
unfolding entry_at and_then
returns c = simp (sym c.in_ok-kind.ensures, sym c.in_ok-client.ensures) c.read_fields.ensures
