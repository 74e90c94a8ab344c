-- `verdict::judge` meets its contract: a fault of the bytes is the verdict, and else the verdict on the arrays is. Assumes nothing.
use Rattle.verdict.specs.laws.Judging.{judges_fault, fit_all, judges_all}
use Rattle.verdict.proofs.judge.Goals as goal

pub judge_paired-requires : goal.judge_paired-requires
judge_paired-requires c =
    fit_all _ _ _ _ _ _ c.pair_up.ensures
    (λ i. (c.type_inv.s i).fits) _
    c.in-Ok.is

pub returns-in-Err : goal.returns-in-Err
returns-in-Err c = rw c.number.ensures (judges_fault _ _ _ _ _ _ c.pair_up.ensures _ _ c.in-Err.is)

pub returns-in-Ok : goal.returns-in-Ok
returns-in-Ok c =
    judges_all _ _ _ _ _ _ c.pair_up.ensures
    (λ i. (c.type_inv.s i).fits) _
    c.in-Ok.is c.judge_paired.result c.judge_paired.ensures
