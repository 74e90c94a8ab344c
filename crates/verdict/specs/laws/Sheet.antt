-- Refusal 29 on the bench sheet's bytes: client 0 writes 5 to cell 2, and client 1 reads 5 there.
use Rattle.std.specs.Prelude.{◌≡◌, refl, [], ◌∷◌, ◌++◌}
use Rattle.number.specs.Number.{taken, last_of, value_of, number_of, number_at, and_then}
use Rattle.number.specs.Value.{alternating_of, signed_of}
use Rattle.record.specs.Entry.{up_to, fields_at, entry_at}
use Rattle.record.specs.Record.{fault, fault_after, standing_after, before, unless_refused, enter, held_from, bytes_held}
use Rattle.record.specs.Examples.{sheet_bytes}
use Rattle.refusal.specs.declared.Refusal.TheVariants.{EndsFirst, AskedAgain}
use Rattle.verdict.specs.Verdict.{asks_for, asked_among, repeats, distinct_from, distinct, taken_for}

-- the first entry again: 5 is written to cell 2 twice
pub twice : taken_for (sheet_bytes ++ (0x01 ∷ 0x00 ∷ 0x02 ∷ 0x0A ∷ [])) ≡ fault AskedAgain 4
unfolding taken_for distinct distinct_from repeats asked_among asks_for bytes_held held_from enter unless_refused before fault_after standing_after entry_at fields_at and_then up_to number_at number_of value_of
    last_of taken alternating_of signed_of
twice = refl

-- zero is written
pub zero_written : taken_for (0x01 ∷ 0x00 ∷ 0x02 ∷ 0x00 ∷ []) ≡ fault AskedAgain 0
unfolding taken_for distinct distinct_from repeats asked_among asks_for bytes_held held_from enter unless_refused before fault_after standing_after entry_at fields_at and_then up_to number_at number_of value_of
    last_of taken alternating_of signed_of
zero_written = refl

-- a fault of the bytes comes first: they end in the last entry
pub torn : taken_for (0x01 ∷ 0x00 ∷ 0x02 ∷ 0x00 ∷ 0x03 ∷ []) ≡ fault EndsFirst 1
unfolding taken_for distinct distinct_from repeats asked_among asks_for bytes_held held_from enter unless_refused before fault_after standing_after entry_at fields_at and_then up_to number_at number_of value_of
    last_of taken alternating_of signed_of
torn = refl
