use Rattle.std.proofs.Common.{sym, ◌∙◌}
use Rattle.rack.specs.Places.{record_of}
use Rattle.show.proofs.Laws.{next_entry, last_entry}
use Rattle.show.proofs.put_entries.Goals as goal

pub loop-line-init : goal.loop-line-init
unfolding record_of
loop-line-init c = rw (c.into_iter-line-iterator.ensures.into_iter_gives, c.take-line-items.ensures.count, c.take-line-items.ensures.source, c.iter.ensures.rest)

pub loop-line-preserved : goal.loop-line-preserved
loop-line-preserved c = next_entry _ _ _ _ _ _ _ _ c.put_entry.ensures c.in-Some.ensures.steps.0 c.in-Some.ensures.steps.1 ∙ c.loop-line.invariant

pub returns : goal.returns
returns c = sym (last_entry _ _ _ _ (λ h. (c.in-None.ensures.steps h).0)) ∙ c.loop-line.invariant
