-- No other outcome fits a call: two that both meet its contract mean the same and are the same, and wrong ones do not meet it.
use Rattle.std.specs.Prelude.{ℕ, List, [], ◌∷◌, ◌≡◌, length, pos, Option, None, Some, Ok, Err}
use Rattle.std.proofs.Common.{ap, ◌∙◌, sym, arith}
use Rattle.number.specs.Number.{groups_of, taken, last_of, value_of, number_of, number_at, and_then}
use Rattle.number.specs.Value.{alternating_of, signed_of}
use Rattle.record.specs.declared.Entry.{Entry}
use Rattle.record.specs.declared.Entry.TheVariants.{ReadAsked, WriteAsked, Done}
use Rattle.record.specs.declared.Standing.{Standing}
use Rattle.record.specs.Entry.{Found, last_client, entry_bytes, up_to, fields_at, entry_at}
use Rattle.record.specs.Record.{Answer, fresh, open_by, opened, fault_after, standing_after, bytes_held, survey_of}
use Rattle.record.specs.Answers.{found_refusal, found_next, found_bytes, refusal_in, entry_in, count_in}
use Rattle.record.specs.Examples.{sheet_bytes}
use Rattle.record.specs.laws.Sheet.{sheet_reads, client_8, cell_16, done_short, second_faulty}
use Rattle.record.specs.Same.{SameFound, SameAnswer}
use Rattle.refusal.specs.declared.Refusal.{Refusal}
use Rattle.refusal.specs.Number.{paper_number}
use Rattle.refusal.specs.declared.Refusal.TheVariants.{KindAbove, FieldAbove, AskedWhileOpen, EndedUnasked}

-- ---- what `reader::entry_at` answers

pub one_entry : (s : List ℕ) (at : ℕ) (r r' : Found) → r ≡ entry_at s at → r' ≡ entry_at s at → SameFound r r'
one_entry s at r r' p q =
    let e : r ≡ r' = p ∙ sym q in
    record { refusal = ap found_refusal e; bytes = ap found_bytes e; next = ap found_next e; same = e }

-- what client 8 asks isn't taken, nor what is asked of cell 16; and a done entry takes no third byte
pub not_client_8 : (r : Found) → r ≡ entry_at (0x00 ∷ 0x08 ∷ 0x00 ∷ []) 0 → found_refusal r ≡ 0 → ⊥
unfolding found_refusal paper_number
not_client_8 r p q = omega (arith, ap found_refusal (p ∙ client_8))

pub not_cell_16 : (r : Found) → r ≡ entry_at (0x00 ∷ 0x00 ∷ 0x10 ∷ []) 0 → found_refusal r ≡ 0 → ⊥
unfolding found_refusal paper_number
not_cell_16 r p q = omega (arith, ap found_refusal (p ∙ cell_16))

pub not_three_of_done : (r : Found) → r ≡ entry_at (0x03 ∷ 0x00 ∷ 0x07 ∷ []) 0 → found_next r ≡ 3 → ⊥
unfolding found_next
not_three_of_done r p q = omega (arith, ap found_next (p ∙ done_short))

-- ---- Standing::fresh

pub one_fresh : (r r' : Standing) → r ≡ fresh → r' ≡ fresh → r ≡ r'
one_fresh r r' p q = p ∙ sym q

-- the last client has no read open, and there are not fewer clients by one
pub not_open_at_first : (r : Standing) → r ≡ fresh → open_by r (record { 0 = last_client }) ≡ 1 → ⊥
not_open_at_first r p q = omega (arith, ap (λ (x : Standing). open_by x (record { 0 = last_client })) p)

pub not_seven_clients : (r : Standing) → r ≡ fresh → length r.has ≡ last_client → ⊥
not_seven_clients r p q = omega (arith, ap (λ (x : Standing). length x.has) p)

-- ---- Standing::fault

pub one_fault : (st : Standing) (e : Entry) (r r' : Option Refusal) → r ≡ fault_after st e → r' ≡ fault_after st e → r ≡ r'
one_fault st e r r' p q = p ∙ sym q

-- a first question is not refused, and a read that was asked is not ended as a write
pub not_26_at_first : (r : Option Refusal) → r ≡ fault_after fresh (ReadAsked (record { 0 = 0 }) (record { 0 = 0 })) → r ≡ Some AskedWhileOpen → ⊥
unfolding fault_after
not_26_at_first r p q = let a : r ≡ None = p in
    let z : ◌≡◌ {A = ℕ} 0 1 = cc in omega arith

pub not_done_reading : (r : Option Refusal) → r ≡ fault_after (opened fresh (record { 0 = 0 }) 1) (Done (record { 0 = 0 })) → r ≡ None → ⊥
unfolding fault_after
not_done_reading r p q = let a : r ≡ Some EndedUnasked = p in
    let z : ◌≡◌ {A = ℕ} 0 1 = cc in omega arith

-- ---- Standing::after

pub one_after : (st : Standing) (e : Entry) (r r' : Standing) → r ≡ standing_after st e → r' ≡ standing_after st e → r ≡ r'
one_after st e r r' p q = p ∙ sym q

-- what was asked is open, and for that client only
pub not_unchanged : (r : Standing) → r ≡ standing_after fresh (WriteAsked (record { 0 = 3 }) (record { 0 = 0 }) (pos 5)) → open_by r (record { 0 = 3 }) ≡ 0 → ⊥
unfolding standing_after
not_unchanged r p q = omega (arith, ap (λ (x : Standing). open_by x (record { 0 = 3 })) p)

pub not_for_others : (r : Standing) → r ≡ standing_after fresh (WriteAsked (record { 0 = 3 }) (record { 0 = 0 }) (pos 5)) → open_by r (record { 0 = 4 }) ≡ 2 → ⊥
unfolding standing_after
not_for_others r p q = omega (arith, ap (λ (x : Standing). open_by x (record { 0 = 4 })) p)

-- ---- what `reader::survey` answers

pub same_answer : (o r r' : Answer) → r ≡ o → r' ≡ o → SameAnswer r r'
same_answer o r r' p q =
    let e : r ≡ r' = p ∙ sym q in
    record { refusal = ap refusal_in e; entry = ap entry_in e; count = ap count_in e; same = e }

pub one_survey : (s : List ℕ) (r r' : Answer) → r ≡ survey_of (bytes_held s) → r' ≡ survey_of (bytes_held s) → SameAnswer r r'
one_survey s r r' p q = same_answer (survey_of (bytes_held s)) r r' p q

-- the sheet's record is not refused, and is not three entries
sheet_survey : (r : Answer) → r ≡ survey_of (bytes_held sheet_bytes) → r ≡ Ok 4
unfolding survey_of
sheet_survey r p = p ∙ ap survey_of sheet_reads

pub survey_not_refused : (r : Answer) (k : Refusal) (n : ℕ) → r ≡ survey_of (bytes_held sheet_bytes) → r ≡ Err (k, n) → ⊥
survey_not_refused r k n p q = let z : ◌≡◌ {A = ℕ} 0 1 = cc (sheet_survey r p) in omega arith

pub survey_not_three : (r : Answer) → r ≡ survey_of (bytes_held sheet_bytes) → count_in r ≡ 3 → ⊥
unfolding count_in
survey_not_three r p q = omega (arith, ap count_in (sheet_survey r p))

-- ---- what answers say

-- the sheet's first entry has the four bytes 01 00 02 0A and ends at place 4; client 8 is refused 25, and no entry is handed out
pub says_entry : (r : Found) → r ≡ entry_at sheet_bytes 0 → (found_refusal r ≡ 0) × (found_next r ≡ 4) × (found_bytes r ≡ 0x01 ∷ 0x00 ∷ 0x02 ∷ 0x0A ∷ [])
unfolding entry_at fields_at up_to and_then number_at number_of taken last_of value_of signed_of entry_bytes groups_of alternating_of found_refusal found_next found_bytes
says_entry r p =
    let e : r ≡ Ok (WriteAsked (record { 0 = 0 }) (record { 0 = 2 }) (pos 5), 4) = p in
    (ap found_refusal e, ap found_next e, ap found_bytes e)

pub says_25 : (r : Found) → r ≡ entry_at (0x00 ∷ 0x08 ∷ 0x00 ∷ []) 0 → (found_refusal r ≡ 25) × (found_next r ≡ 0) × (found_bytes r ≡ [])
unfolding found_refusal found_next found_bytes paper_number
says_25 r p = let e : r ≡ Err FieldAbove = p ∙ client_8 in (ap found_refusal e, ap found_next e, ap found_bytes e)

-- the sheet's record is four entries; kind 9 after its first entry is refused 24 at entry 1, and none is counted
pub says_four : (r : Answer) → r ≡ survey_of (bytes_held sheet_bytes) → (refusal_in r ≡ 0) × (entry_in r ≡ 0) × (count_in r ≡ 4)
unfolding refusal_in entry_in count_in
says_four r p = let e = sheet_survey r p in (ap refusal_in e, ap entry_in e, ap count_in e)

pub says_24 : (r : Answer) → r ≡ survey_of (bytes_held (0x01 ∷ 0x00 ∷ 0x02 ∷ 0x0A ∷ 0x09 ∷ [])) → (refusal_in r ≡ 24) × (entry_in r ≡ 1) × (count_in r ≡ 0)
unfolding survey_of refusal_in entry_in count_in paper_number
says_24 r p = let e : r ≡ Err (KindAbove, 1) = p ∙ ap survey_of second_faulty in (ap refusal_in e, ap entry_in e, ap count_in e)
