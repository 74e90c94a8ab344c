-- `recorder::say` is safe: the bytes that are written are bytes of the record's. Assumes nothing.
use Rattle.std.proofs.Common.{sym, length-take-le}
use Rattle.recorder.proofs.Laws.{count_fits}
use Rattle.recorder.proofs.say.Goals as goal

pub slice_bounds-record-end : goal.slice_bounds-record-end
slice_bounds-record-end c = count_fits _ _ _ _ _ _ c.record_run.ensures c.in-Ok.is

pub slice_bounds-say_run-end : goal.slice_bounds-say_run-end
slice_bounds-say_run-end c = sym (length-take-le _ _ (count_fits _ _ _ _ _ _ c.record_run.ensures c.in-Ok.is))
