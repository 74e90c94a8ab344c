-- Worked examples: the bench sheet's write as a script, and one script for each fault.
use Rattle.std.specs.Prelude.{◌≡◌, refl, [], ◌∷◌, Ok, Err}
use Rattle.number.specs.Number.{taken, last_of, value_of, number_of, number_at, and_then}
use Rattle.refusal.specs.declared.Refusal.TheVariants.{UnknownCode, EndsFirst, LastIsZero, FifthAbove}
use Rattle.script.specs.Script.{last_at, head_of, cell_at, fields_at, event_at, enter, events_in, events_from, unless_fault, script_of, words_of, count_up_to, place_after}
use Rattle.script.specs.Examples.{bench}

pub bench_head : head_of bench ≡ Ok (3, 1, 1, 100, 4)
unfolding head_of last_at and_then number_at number_of taken last_of value_of
bench_head = refl

pub bench_write : event_at bench 4 ≡ Ok (1, 0, 0, 18, 8)
unfolding event_at fields_at cell_at last_at and_then number_at number_of taken last_of value_of
bench_write = refl

pub bench_checked : script_of bench ≡ Ok (3, 1, 1, 100, 4)
unfolding script_of head_of unless_fault events_in enter event_at fields_at cell_at last_at and_then number_at number_of taken last_of value_of
bench_checked = refl

pub bench_words : words_of (events_from bench 4) ≡ 1 ∷ 0 ∷ 0 ∷ 18 ∷ 2 ∷ 0 ∷ 0 ∷ 0 ∷ 2 ∷ 1 ∷ 0 ∷ 0 ∷ []
unfolding words_of events_in enter event_at fields_at cell_at last_at and_then number_at number_of taken last_of value_of
bench_words = refl

-- two events at most, from the second on: both deliveries, up to the end
pub bench_count : count_up_to 2 (events_from bench 8) ≡ 2
unfolding count_up_to events_in enter event_at fields_at cell_at last_at and_then number_at number_of taken last_of value_of
bench_count = refl

pub bench_place : place_after 2 8 (events_from bench 8) ≡ 12
unfolding place_after events_in enter event_at fields_at cell_at last_at and_then number_at number_of taken last_of value_of
bench_place = refl

-- no bytes: 21, at the length
pub empty_script : script_of [] ≡ Err (EndsFirst, 0)
unfolding script_of head_of and_then number_at number_of taken last_of
empty_script = refl

-- a script that ends inside an event: 21, at the length
pub cut_script : script_of (0x03 ∷ 0x01 ∷ 0x01 ∷ 0x64 ∷ 0x01 ∷ 0x00 ∷ []) ≡ Err (EndsFirst, 6)
unfolding script_of head_of unless_fault events_in enter event_at fields_at cell_at last_at and_then number_at number_of taken last_of value_of
cut_script = refl

-- code 9 is unknown: 15, where the code begins, and before the fault that would follow
pub unknown_code : script_of (0x03 ∷ 0x01 ∷ 0x01 ∷ 0x64 ∷ 0x02 ∷ 0x00 ∷ 0x09 ∷ 0x80 ∷ []) ≡ Err (UnknownCode, 6)
unfolding script_of head_of unless_fault events_in enter event_at fields_at cell_at last_at and_then number_at number_of taken last_of value_of
unknown_code = refl

-- a slot in two bytes of which the last is 0: 22, where the slot begins
pub padded_slot : script_of (0x03 ∷ 0x01 ∷ 0x01 ∷ 0x64 ∷ 0x02 ∷ 0x80 ∷ 0x00 ∷ []) ≡ Err (LastIsZero, 5)
unfolding script_of head_of unless_fault events_in enter event_at fields_at cell_at last_at and_then number_at number_of taken last_of value_of
padded_slot = refl

-- an allowance whose fifth byte is above 15: 23
pub great_allowance : script_of (0x03 ∷ 0x01 ∷ 0x01 ∷ 0xFF ∷ 0xFF ∷ 0xFF ∷ 0xFF ∷ 0x10 ∷ []) ≡ Err (FifthAbove, 3)
unfolding script_of head_of last_at and_then number_at number_of taken last_of value_of
great_allowance = refl
