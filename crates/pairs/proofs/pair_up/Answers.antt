use Rattle.std.proofs.Common.{sym, ◌∙◌, lt-ltb, le-ltb, arith, ◌≡◌}
use Rattle.record.specs.Record.{entry_limit}
use Rattle.record.proofs.theorems.EntryTrip.{written_entry}
use Rattle.pairs.proofs.theorems.Pairing.{pairs_none, pairs_full, pairs_unread, pairs_misplaced, pairs_end, pairs_on}
use Rattle.pairs.proofs.pair_up.Goals as goal

pub loop-n-init : goal.loop-n-init
loop-n-init c = rw c.fresh-st.ensures (pairs_none _ _ _ _ _ c.lengths.ensures)

pub returns-then-s-at : goal.returns-then-s-at
returns-then-s-at c = pairs_end c.loop-n.invariant (le-ltb _ _ c.if-s-at.true)

pub returns-in-Err : goal.returns-in-Err
returns-in-Err c =
    pairs_unread c.loop-n.invariant _ (lt-ltb _ _ c.if-s-at.false)
    (omega arith) (sym c.entry_at.ensures ∙ c.in-Err.is)

pub returns-in-Some : goal.returns-in-Some
returns-in-Some c =
    pairs_misplaced c.loop-n.invariant _ _ _
    (lt-ltb _ _ c.if-s-at.false) (omega arith)
    (sym c.entry_at.ensures ∙ c.in-Ok.is) (sym c.fault.ensures ∙ c.in-Some.is)

pub note_entry-requires : goal.note_entry-requires
note_entry-requires c = (
  omega arith,
  (written_entry _ _ _ _ (λ i. (c.type_inv.s i).fits) (sym c.entry_at.ensures
      ∙ c.in-Ok.is)).range,
  c.loop-n.invariant.low,
)

pub loop-n-preserved : goal.loop-n-preserved
loop-n-preserved c =
    pairs_on c.loop-n.invariant _ _
    (λ i. (c.type_inv.s i).fits)
    (lt-ltb _ _ c.if-s-at.false) (omega arith)
    (sym c.entry_at.ensures
    ∙ c.in-Ok.is)
    (sym c.fault.ensures
    ∙ c.in_default.is) c.note_entry.ensures c.after-st.ensures

pub returns-then-at-s : goal.returns-then-at-s
returns-then-at-s c =
    let e : c.loop-n.n ≡ entry_limit = omega arith in
    rw e at (pairs_full c.loop-n.invariant (lt-ltb _ _ c.if-at-s.true) e)

pub returns : goal.returns
returns c =
    let e : c.loop-n.n ≡ entry_limit = omega arith in
    rw e at (pairs_end c.loop-n.invariant (le-ltb _ _ c.if-at-s.false))
