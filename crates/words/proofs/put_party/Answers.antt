-- `words::put_party` meets its contract.
use Rattle.words.proofs.Writing.{party_written}
use Rattle.words.proofs.put_party.Goals as goal

pub returns : goal.returns
returns c =
    party_written c.args.words.now _ _ _ c.args.at c.args.party _ _ c.from.ensures c.from-2.ensures c.work_words.ensures c.put.ensures c.put-2.ensures
