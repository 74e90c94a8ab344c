-- `slots::count` meets its contract: the sum of the words' ones.
use Rattle.std.proofs.Common.{◌≡◌, ◌^◌, ◌∙◌, arith, rules}
use Rattle.std.specs.Int.Count.{ones}
use Rattle.std.specs.List.{sum_by}
use Rattle.std.proofs.lemmas.Iterator.{YieldsList-from_slice, YieldsList-from_map}
use Rattle.std.proofs.lemmas.Iterator.Consumers.{fits_by_from_yields_list}
use Rattle.slots.specs.Free.{word_bits}
use Rattle.slots.proofs.Laws.{ones_fit, counted}
use Rattle.slots.proofs.count.Goals as goal

pub sum-requires-clause-fits : goal.sum-requires-clause-fits
sum-requires-clause-fits c =
    let ws = c.args.free.now in
    let few = ones_fit ws c.told-free c.fits-free in
    fits_by_from_yields_list ones ws c.map.result (2 ^ word_bits)
    (YieldsList-from_map _ ones (YieldsList-from_slice ws cc) c.map.ensures.closure (λ x r q k. search rules)) (omega arith)

pub returns : goal.returns
returns c =
    let ws = c.args.free.now in
    let e : c.sum.result ≡ sum_by ones ws = search rules in
    (rw (← e) at (ones_fit ws c.told-free c.fits-free), λ f t. e ∙ counted f ws t)
