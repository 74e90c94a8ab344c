-- `rows::put_row` meets its contract. Assumes nothing.
use Rattle.std.proofs.Common.{◌≡◌, length, arith, rules}
use Rattle.rows.proofs.Laws.{put_whole}
use Rattle.rows.proofs.put_row.Goals as goal

pub returns : goal.returns
returns c =
    let a = c.args in
    let four : length a.row ≡ 4 = search rules in
    rw c.copy_from_slice.ensures.after (put_whole a.rows.now a.row a.at _ (omega (arith, four)) (omega (arith, four)))
