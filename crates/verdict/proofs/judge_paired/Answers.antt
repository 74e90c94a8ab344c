-- `verdict::judge_paired` meets its contract: 29 by the table of writes, else what the passes settle. Assumes nothing.
use Rattle.std.proofs.Common.{arith}
use Rattle.chains.specs.laws.TableLaws.{empty_zeros}
use Rattle.law.specs.Operation.{operations}
use Rattle.refusal.specs.Number.{paper_number}
use Rattle.verdict.specs.laws.Judging.{judges_again, judges_lawful, judges_unlawful}
use Rattle.verdict.proofs.judge_paired.Goals as goal

pub link-requires : goal.link-requires
link-requires c = (c.requires.few, empty_zeros)

pub settle-requires : goal.settle-requires
settle-requires c =
    let l = c.link.ensures.all c.in_default.is in
    record { fit = c.requires; fresh = l.0; table = l.1 }

pub returns-in-Some : goal.returns-in-Some
unfolding paper_number
returns-in-Some c =
    λ es legal count h. let g = c.link.ensures.again _ c.in-Some.is in
    rw c.number.ensures (judges_again _ _ es legal count h _ g.0 g.1.0 g.1.1)

pub returns-in-Some-settle : goal.returns-in-Some-settle
returns-in-Some-settle c =
    let s = rw c.in-Some-settle.is at c.settle.ensures in
    λ es legal count h. judges_unlawful _ _ es legal count h
    (c.link.ensures.all c.in_default.is).0 _
    (s.0 (operations es) h) s.1

pub returns-in-None : goal.returns-in-None
returns-in-None c =
    let s = rw c.in-None.is at c.settle.ensures in
    λ es legal count h. judges_lawful _ _ es legal count h
    (c.link.ensures.all c.in_default.is).0 _
    (s.0 (operations es) h) (omega arith)
