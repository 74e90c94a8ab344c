-- No other outcome fits a call: two that both meet its contract mean the same and are the same, and wrong ones do not meet it.
use Rattle.std.specs.Prelude.{ℕ, List, [], ◌∷◌, ◌≡◌, Bool, true, false, ℤ, pos, drop, get_or, Option, Some, None, Ok, Err}
use Rattle.std.proofs.Common.{ap, ◌∙◌, sym, arith}
use Rattle.number.specs.Number.{groups_of, put_answer, put_bytes, Placed}
use Rattle.number.specs.Value.{alternating_of}
use Rattle.record.specs.declared.Cell.{Cell}
use Rattle.record.specs.declared.Client.{Client}
use Rattle.record.specs.declared.Entry.{Entry}
use Rattle.record.specs.declared.Entry.TheVariants.{WriteAsked, Told}
use Rattle.record.specs.Entry.{entry_bytes}
use Rattle.record.specs.Record.{Answer, Held, all_of}
use Rattle.record.specs.Answers.{count_in}
use Rattle.record.specs.Examples.{sheet_bytes}
use Rattle.record.specs.laws.Sheet.{sheet_reads, second_faulty}
use Rattle.record.proofs.theorems.OnlyOne.{same_answer}
use Rattle.rows.specs.Row.{row_of, room_at, stored_at}
use Rattle.rows.specs.Rows.{Outcome, Leaves, stored, read_into, write_into, read_outcome, write_outcome}
use Rattle.rows.specs.laws.Sheet.{sheet_rows, row_client_8, one_row}
use Rattle.rows.specs.Same.{OneStored, SameOutcome}
use Rattle.rows.specs.Examples.{room}
use Rattle.refusal.specs.declared.Refusal.TheVariants.{TooShort, FieldAbove}

pub one_row_of : (e : Entry) (r r' : List ℕ) → r ≡ row_of e → r' ≡ row_of e → r ≡ r'
one_row_of e r r' p q = p ∙ sym q

-- the row of a told isn't a done's, and a value of 5 doesn't stand as 5
pub row_not_done : (client : Client) (v : ℤ) (r : List ℕ) → r ≡ row_of (Told client v) → get_or r 0 0 ≡ 3 → ⊥
unfolding row_of
row_not_done client v r p q = omega (arith, ap (λ (l : List ℕ). get_or l 0 0) p)

pub row_not_plain : (client : Client) (cell : Cell) (r : List ℕ) → r ≡ row_of (WriteAsked client cell (pos 5)) → get_or r 3 0 ≡ 5 → ⊥
unfolding row_of alternating_of
row_not_plain client cell r p q = omega (arith, ap (λ (l : List ℕ). get_or l 3 0) p)

pub one_stored : (rows : List ℕ) (at : ℕ) (e : Entry) (r r' : Bool) (d d' : List ℕ) → (r ≡ room_at rows at) × (d ≡ stored_at rows at e)
    → (r' ≡ room_at rows at) × (d' ≡ stored_at rows at e) → OneStored r r' d d'
one_stored rows at e r r' d d' p q = record { answer = p.0 ∙ sym q.0; lent = p.1 ∙ sym q.1 }

-- the last place has room, and the one after it hasn't
pub stored_not_full : (a b c d : ℕ) (r : Bool) → r ≡ room_at (a ∷ b ∷ c ∷ d ∷ []) 0 → r ≡ false → ⊥
unfolding room_at
stored_not_full a b c d r p q = let z : ◌≡◌ {A = ℕ} 0 1 = cc in omega arith

pub stored_not_past : (a b c d : ℕ) (r : Bool) → r ≡ room_at (a ∷ b ∷ c ∷ d ∷ []) 1 → r ≡ true → ⊥
unfolding room_at
stored_not_past a b c d r p q = let z : ◌≡◌ {A = ℕ} 0 1 = cc in omega arith

same_outcome : (o : Outcome) (r r' : Answer) (d d' : List ℕ) → Leaves o r d → Leaves o r' d' → SameOutcome r r' d d'
same_outcome o r r' d d' p q = record { answer = same_answer o.answer r r' p.answers q.answers; lent = p.leaves ∙ sym q.leaves }

pub one_read : (s d : List ℕ) (r r' : Answer) (e e' : List ℕ) → Leaves (read_outcome s d) r e → Leaves (read_outcome s d) r' e' → SameOutcome r r' e e'
one_read s d r r' e e' p q = same_outcome (read_outcome s d) r r' e e' p q

pub one_write : (ws d : List ℕ) (r r' : Answer) (e e' : List ℕ) → Leaves (write_outcome ws d) r e → Leaves (write_outcome ws d) r' e' → SameOutcome r r' e e'
one_write ws d r r' e e' p q = same_outcome (write_outcome ws d) r r' e e' p q

sheet_read : read_outcome sheet_bytes room ≡ record { answer = Ok 4; lent = 1 ∷ 0 ∷ 2 ∷ 10 ∷ 3 ∷ 0 ∷ 0 ∷ 0 ∷ 0 ∷ 1 ∷ 2 ∷ 0 ∷ 2 ∷ 1 ∷ 0 ∷ 10 ∷ 9 ∷ [] }
unfolding read_into stored
sheet_read = ap (λ (h : Held). read_into h room) sheet_reads ∙ ap (λ (l : List ℕ). stored l 4 room) sheet_rows

-- the sheet's record isn't refused where there is room, and is not three entries
pub read_not_20 : (e : List ℕ) (n : ℕ) → Leaves (read_outcome sheet_bytes room) (Err (TooShort, n)) e → ⊥
read_not_20 e n p =
    let a : ◌≡◌ {A = Answer} (Err (TooShort, n)) (Ok 4) = p.answers ∙ ap (λ (o : Outcome). o.answer) sheet_read in
    let z : ◌≡◌ {A = ℕ} 0 1 = cc in omega arith

pub read_not_three : (r : Answer) (e : List ℕ) → Leaves (read_outcome sheet_bytes room) r e → count_in r ≡ 3 → ⊥
unfolding count_in
read_not_three r e p q = omega (arith, ap count_in (p.answers ∙ ap (λ (o : Outcome). o.answer) sheet_read))

-- what stands beyond the four rows isn't cleared
pub read_not_cleared : (r : Answer) (e : List ℕ) → Leaves (read_outcome sheet_bytes room) r e → drop 16 e ≡ 0 ∷ [] → ⊥
read_not_cleared r e p q =
    let a : drop 16 e ≡ 9 ∷ [] = ap (drop 16) (p.leaves ∙ ap (λ (o : Outcome). o.lent) sheet_read) in
    let z : ◌≡◌ {A = ℕ} 0 9 = cc in omega arith

-- a read that is refused for its second entry doesn't write its first
pub read_not_begun : (r : Answer) → Leaves (read_outcome (0x01 ∷ 0x00 ∷ 0x02 ∷ 0x0A ∷ 0x09 ∷ []) (9 ∷ 9 ∷ 9 ∷ 9 ∷ [])) r (1 ∷ 0 ∷ 2 ∷ 10 ∷ []) → ⊥
unfolding read_into
read_not_begun r p =
    let a : ◌≡◌ {A = List ℕ} (1 ∷ 0 ∷ 2 ∷ 10 ∷ []) (9 ∷ 9 ∷ 9 ∷ 9 ∷ []) = p.leaves ∙ ap (λ (h : Held). (read_into h (9 ∷ 9 ∷ 9 ∷ 9 ∷ [])).lent) second_faulty in
    let z : ◌≡◌ {A = ℕ} 1 9 = cc in omega arith

-- nor does one that has no room for its last
pub read_not_cut : (r : Answer) → Leaves (read_outcome sheet_bytes (9 ∷ 9 ∷ 9 ∷ 9 ∷ [])) r (1 ∷ 0 ∷ 2 ∷ 10 ∷ []) → ⊥
unfolding read_into stored
read_not_cut r p =
    let a : ◌≡◌ {A = List ℕ} (1 ∷ 0 ∷ 2 ∷ 10 ∷ []) (9 ∷ 9 ∷ 9 ∷ 9 ∷ []) =
    p.leaves ∙ ap (λ (h : Held). (read_into h (9 ∷ 9 ∷ 9 ∷ 9 ∷ [])).lent) sheet_reads ∙ ap (λ (l : List ℕ). (stored l 4 (9 ∷ 9 ∷ 9 ∷ 9 ∷ [])).lent) sheet_rows in
    let z : ◌≡◌ {A = ℕ} 1 9 = cc in omega arith

-- a row of client 8 isn't written
pub write_not_client_8 : (d e : List ℕ) (n : ℕ) → Leaves (write_outcome (0 ∷ 8 ∷ 0 ∷ 0 ∷ []) d) (Ok n) e → ⊥
unfolding write_into
write_not_client_8 d e n p =
    let a : ◌≡◌ {A = Answer} (Ok n) (Err (FieldAbove, 0)) = p.answers ∙ ap (λ (h : Held). (write_into h d).answer) row_client_8 in
    let z : ◌≡◌ {A = ℕ} 0 1 = cc in omega arith

one_written : write_outcome (0 ∷ 0 ∷ 2 ∷ 77 ∷ []) (9 ∷ 9 ∷ 9 ∷ []) ≡ record { answer = Ok 3; lent = 0 ∷ 0 ∷ 2 ∷ [] }
unfolding write_into stored all_of entry_bytes groups_of
one_written = ap (λ (h : Held). write_into h (9 ∷ 9 ∷ 9 ∷ [])) one_row

-- three bytes are room for a read asked, and are then written
pub write_not_20 : (e : List ℕ) (n : ℕ) → Leaves (write_outcome (0 ∷ 0 ∷ 2 ∷ 77 ∷ []) (9 ∷ 9 ∷ 9 ∷ [])) (Err (TooShort, n)) e → ⊥
write_not_20 e n p =
    let a : ◌≡◌ {A = Answer} (Err (TooShort, n)) (Ok 3) = p.answers ∙ ap (λ (o : Outcome). o.answer) one_written in
    let z : ◌≡◌ {A = ℕ} 0 1 = cc in omega arith

pub write_not_left : (r : Answer) → Leaves (write_outcome (0 ∷ 0 ∷ 2 ∷ 77 ∷ []) (9 ∷ 9 ∷ 9 ∷ [])) r (9 ∷ 9 ∷ 9 ∷ []) → ⊥
write_not_left r p =
    let a : ◌≡◌ {A = List ℕ} (9 ∷ 9 ∷ 9 ∷ []) (0 ∷ 0 ∷ 2 ∷ []) = p.leaves ∙ ap (λ (o : Outcome). o.lent) one_written in
    let z : ◌≡◌ {A = ℕ} 9 0 = cc in omega arith

-- a told that has no room isn't begun, one that just fits isn't refused, and its value of 5 isn't written as 5
pub entry_not_begun : (r : Option ℕ) → Placed (9 ∷ 9 ∷ []) 0 (entry_bytes (Told (record { 0 = 1 }) (pos 5))) r (2 ∷ 1 ∷ []) → ⊥
unfolding put_bytes entry_bytes groups_of alternating_of
entry_not_begun r p =
    let a : ◌≡◌ {A = List ℕ} (2 ∷ 1 ∷ []) (9 ∷ 9 ∷ []) = p.bytes in
    let z : ◌≡◌ {A = ℕ} 2 9 = cc in omega arith

pub entry_not_20 : (e : List ℕ) → Placed (9 ∷ 9 ∷ 9 ∷ []) 0 (entry_bytes (Told (record { 0 = 1 }) (pos 5))) None e → ⊥
unfolding put_answer entry_bytes groups_of alternating_of
entry_not_20 e p =
    let a : ◌≡◌ {A = Option ℕ} None (Some 3) = p.answer in
    let z : ◌≡◌ {A = ℕ} 0 1 = cc in omega arith

pub entry_not_plain : (r : Option ℕ) → Placed (9 ∷ 9 ∷ 9 ∷ []) 0 (entry_bytes (Told (record { 0 = 1 }) (pos 5))) r (2 ∷ 1 ∷ 5 ∷ []) → ⊥
unfolding put_bytes entry_bytes groups_of alternating_of
entry_not_plain r p =
    let a : ◌≡◌ {A = List ℕ} (2 ∷ 1 ∷ 5 ∷ []) (2 ∷ 1 ∷ 10 ∷ []) = p.bytes in
    let z : ◌≡◌ {A = ℕ} 5 10 = cc in omega arith
