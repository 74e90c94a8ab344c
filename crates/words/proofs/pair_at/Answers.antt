-- `words::pair_at` meets its contract.
use Rattle.number.specs.laws.ValueLaws.{signed_of_bits}
use Rattle.layout.specs.Reading.{pair_in}
use Rattle.words.proofs.pair_at.Goals as goal

pub returns : goal.returns
unfolding pair_in
returns c = rw (signed_of_bits c.signed.result _ (c.fits-words _) c.signed.ensures, c.byte.ensures)
