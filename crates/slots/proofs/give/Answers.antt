-- `slots::give` meets its contract: a slot past the end is in no word.
use Rattle.std.proofs.Common.{rules}
use Rattle.slots.specs.Free.{map_words}
use Rattle.slots.specs.laws.Finding.{given_past}
use Rattle.slots.proofs.Laws.{gave}
use Rattle.slots.proofs.give.Goals as goal

pub returns-then-slot-ge-SLOTS : goal.returns-then-slot-ge-SLOTS
returns-then-slot-ge-SLOTS c = λ f t. given_past map_words f _ c.args.slot c.if-slot-ge-SLOTS.true t

pub returns : goal.returns
returns c = λ f t. gave f _ c.args.slot (search rules) t
