-- The bench sheet's record, and the smallest ones that are refused: worked examples that the promises of these calls cite.
use Rattle.std.specs.Prelude.{List, [], ◌∷◌, ◌≡◌, refl, pos, Ok, Err}
use Rattle.number.specs.Number.{taken, last_of, value_of, number_of, number_at, and_then}
use Rattle.number.specs.Value.{signed_of}
use Rattle.record.specs.declared.Entry.{Entry}
use Rattle.record.specs.declared.Entry.TheVariants.{ReadAsked, WriteAsked, Told, Done}
use Rattle.record.specs.Entry.{up_to, fields_at, entry_at}
use Rattle.record.specs.Record.{fault_after, standing_after, entries, fault, before, unless_refused, enter, held_from, bytes_held}
use Rattle.record.specs.Examples.{sheet_bytes}
use Rattle.refusal.specs.declared.Refusal.TheVariants.{KindAbove, FieldAbove, AskedWhileOpen, EndedUnasked}

-- the four entries of those bytes
abbrev pub sheet_entries : List Entry
sheet_entries =
    WriteAsked (record { 0 = 0 }) (record { 0 = 2 }) (pos 5)
    ∷ Done (record { 0 = 0 })
    ∷ ReadAsked (record { 0 = 1 }) (record { 0 = 2 })
    ∷ Told (record { 0 = 1 }) (pos 5)
    ∷ []

pub sheet_reads : bytes_held sheet_bytes ≡ entries sheet_entries
unfolding bytes_held held_from enter unless_refused before fault_after standing_after entry_at fields_at up_to and_then number_at number_of taken last_of value_of signed_of
sheet_reads = refl

-- there is no client 8, and no cell 16
pub client_8 : entry_at (0x00 ∷ 0x08 ∷ 0x00 ∷ []) 0 ≡ Err FieldAbove
unfolding entry_at fields_at up_to and_then number_at number_of taken last_of value_of
client_8 = refl

pub cell_16 : entry_at (0x00 ∷ 0x00 ∷ 0x10 ∷ []) 0 ≡ Err FieldAbove
unfolding entry_at fields_at up_to and_then number_at number_of taken last_of value_of
cell_16 = refl

-- a kind and a client are the whole of a done entry
pub done_short : entry_at (0x03 ∷ 0x00 ∷ 0x07 ∷ []) 0 ≡ Ok (Done (record { 0 = 0 }), 2)
unfolding entry_at fields_at up_to and_then number_at number_of taken last_of value_of
done_short = refl

-- an entry that stands before a fault is no record: kind 9 after the sheet's first entry
pub second_faulty : bytes_held (0x01 ∷ 0x00 ∷ 0x02 ∷ 0x0A ∷ 0x09 ∷ []) ≡ fault KindAbove 1
unfolding bytes_held held_from enter unless_refused before fault_after standing_after entry_at fields_at up_to and_then number_at number_of taken last_of value_of signed_of
second_faulty = refl

-- asked twice, and told without having asked
pub asked_twice : bytes_held (0x00 ∷ 0x00 ∷ 0x02 ∷ 0x00 ∷ 0x00 ∷ 0x02 ∷ []) ≡ fault AskedWhileOpen 1
unfolding bytes_held held_from enter unless_refused before fault_after standing_after entry_at fields_at up_to and_then number_at number_of taken last_of value_of signed_of
asked_twice = refl

pub told_unasked : bytes_held (0x02 ∷ 0x00 ∷ 0x0A ∷ []) ≡ fault EndedUnasked 0
unfolding bytes_held held_from enter unless_refused before fault_after standing_after entry_at fields_at up_to and_then number_at number_of taken last_of value_of signed_of
told_unasked = refl
