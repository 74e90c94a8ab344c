-- `words::put_parties` meets its contract.
use Rattle.std.proofs.Common.{◌≡◌}
use Rattle.rack.specs.Places.{party_at}
use Rattle.layout.specs.Layout.{party_place}
use Rattle.layout.specs.Writing.{party_words, put_firsts}
use Rattle.words.proofs.put_parties.Given as goal

abbrev pub invariant-loop-i : goal.invariant-loop-i
invariant-loop-i l = l.words ≡ put_firsts l.i party_place (λ j. party_words (party_at l.rack j)) l.initial.words
