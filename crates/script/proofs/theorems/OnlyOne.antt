-- No other outcome fits a call: two that both meet its contract mean the same and are the same, and wrong ones do not meet it.
use Rattle.std.specs.Prelude.{ℕ, List, [], ◌∷◌, ◌≡◌, Ok, Err}
use Rattle.std.proofs.Common.{ap, ◌∙◌, sym, arith}
use Rattle.number.specs.Number.{taken, last_of, value_of, number_of, number_at, and_then}
use Rattle.refusal.specs.declared.Refusal.TheVariants.{UnknownCode}
use Rattle.refusal.specs.Number.{paper_number}
use Rattle.script.specs.declared.Filled.{Filled}
use Rattle.script.specs.Script.{Words, last_at, head_of, cell_at, fields_at, event_at, script_of, Fills}
use Rattle.script.specs.Answers.{refusal_of, place_in, four_in}
use Rattle.script.specs.Examples.{bench}
use Rattle.script.specs.laws.Sheet.{bench_head, bench_write, bench_count, bench_place, empty_script, cut_script, unknown_code}
use Rattle.script.specs.Same.{SameWords, SameFilled}

alike : (r r' : Words) → r ≡ r' → SameWords r r'
alike r r' e = record { refusal = ap refusal_of e; place = ap place_in e; four = ap four_in e; same = e }

-- ---- read_head

pub one_head : (s : List ℕ) (r r' : Words) → r ≡ head_of s → r' ≡ head_of s → SameWords r r'
one_head s r r' p q = alike r r' (p ∙ sym q)

-- clients and cells are not replicas, and the first event stands after the allowance
pub not_other_order : (r : Words) → r ≡ head_of bench → r ≡ Ok (1, 1, 3, 100, 4) → ⊥
unfolding four_in
not_other_order r p q = let e : ◌≡◌ {A = List ℕ} (3 ∷ 1 ∷ 1 ∷ 100 ∷ []) (1 ∷ 1 ∷ 3 ∷ 100 ∷ []) = ap four_in (sym bench_head ∙ sym p ∙ q) in
    let z : ◌≡◌ {A = ℕ} 3 1 = cc in omega arith

pub not_at_allowance : (r : Words) → r ≡ head_of bench → r ≡ Ok (3, 1, 1, 100, 3) → ⊥
unfolding place_in
not_at_allowance r p q = let z : ◌≡◌ {A = ℕ} 4 3 = ap place_in (sym bench_head ∙ sym p ∙ q) in omega arith

-- ---- read_event

pub one_event : (s : List ℕ) (at : ℕ) (r r' : Words) → r ≡ event_at s at → r' ≡ event_at s at → SameWords r r'
one_event s at r r' p q = alike r r' (p ∙ sym q)

-- a start of a write has its value, as it is written in a record
pub not_without_value : (r : Words) → r ≡ event_at bench 4 → r ≡ Ok (1, 0, 0, 0, 7) → ⊥
unfolding place_in
not_without_value r p q = let z : ◌≡◌ {A = ℕ} 8 7 = ap place_in (sym bench_write ∙ sym p ∙ q) in omega arith

pub not_signed : (r : Words) → r ≡ event_at bench 4 → r ≡ Ok (1, 0, 0, 9, 8) → ⊥
unfolding four_in
not_signed r p q = let e : ◌≡◌ {A = List ℕ} (1 ∷ 0 ∷ 0 ∷ 18 ∷ []) (1 ∷ 0 ∷ 0 ∷ 9 ∷ []) = ap four_in (sym bench_write ∙ sym p ∙ q) in
    let z : ◌≡◌ {A = ℕ} 18 9 = cc in omega arith

-- ---- check

pub one_check : (s : List ℕ) (r r' : Words) → r ≡ script_of s → r' ≡ script_of s → SameWords r r'
one_check s r r' p q = alike r r' (p ∙ sym q)

-- no bytes are no script, and a script that ends inside an event has no events before it
pub not_empty : (r : Words) → r ≡ script_of [] → r ≡ Ok (0, 0, 0, 0, 0) → ⊥
not_empty r p q = let z : ◌≡◌ {A = ℕ} 0 1 = cc empty_script in omega arith

pub not_cut : (r : Words) → r ≡ script_of (0x03 ∷ 0x01 ∷ 0x01 ∷ 0x64 ∷ 0x01 ∷ 0x00 ∷ []) → r ≡ Ok (3, 1, 1, 100, 4) → ⊥
not_cut r p q = let z : ◌≡◌ {A = ℕ} 0 1 = cc cut_script in omega arith

-- nor is an unknown code refused at its script's begin
pub not_at_begin : (r : Words) → r ≡ script_of (0x03 ∷ 0x01 ∷ 0x01 ∷ 0x64 ∷ 0x02 ∷ 0x00 ∷ 0x09 ∷ 0x80 ∷ []) → r ≡ Err (UnknownCode, 0) → ⊥
unfolding place_in
not_at_begin r p q = let z : ◌≡◌ {A = ℕ} 6 0 = ap place_in (sym unknown_code ∙ sym p ∙ q) in omega arith

-- ---- fill

pub one_fill : (s : List ℕ) (at : ℕ) (d : List ℕ) (r r' : Filled) (e e' : List ℕ) → Fills s at d r e → Fills s at d r' e' → SameFilled r r' e e'
one_fill s at d r r' e e' p q = record {
  count = p.count ∙ sym q.count;
  next = p.next ∙ sym q.next;
  words = p.words ∙ sym q.words;
}

-- where two events stand and both fit, not one is stored, and the place after them is not the place before
pub not_one : (r : Filled) (e : List ℕ) → Fills bench 8 (7 ∷ 7 ∷ 7 ∷ 7 ∷ 7 ∷ 7 ∷ 7 ∷ 7 ∷ 7 ∷ []) r e → r.count ≡ 1 → ⊥
not_one r e p q = let z : ◌≡◌ {A = ℕ} 1 2 = sym q ∙ p.count ∙ bench_count in omega arith

pub not_back : (r : Filled) (e : List ℕ) → Fills bench 8 (7 ∷ 7 ∷ 7 ∷ 7 ∷ 7 ∷ 7 ∷ 7 ∷ 7 ∷ 7 ∷ []) r e → r.next ≡ 8 → ⊥
not_back r e p q = let z : ◌≡◌ {A = ℕ} 8 12 = sym q ∙ p.next ∙ bench_place in omega arith

-- ---- what answers say

-- client 2 writes 9 to cell 5: the four numbers, and place 4 after them; an unknown code: 15 at byte 6, and no numbers
pub says_words : (r : Words) → r ≡ event_at (0x01 ∷ 0x02 ∷ 0x05 ∷ 0x12 ∷ []) 0 → (refusal_of r ≡ 0) × (place_in r ≡ 4) × (four_in r ≡ 1 ∷ 2 ∷ 5 ∷ 18 ∷ [])
unfolding event_at fields_at cell_at last_at and_then number_at number_of taken last_of value_of refusal_of place_in four_in
says_words r p = let e : r ≡ Ok (1, 2, 5, 18, 4) = p in (ap refusal_of e, ap place_in e, ap four_in e)

pub says_15 : (r : Words) → r ≡ script_of (0x03 ∷ 0x01 ∷ 0x01 ∷ 0x64 ∷ 0x02 ∷ 0x00 ∷ 0x09 ∷ 0x80 ∷ []) → (refusal_of r ≡ 15) × (place_in r ≡ 6) × (four_in r ≡ [])
unfolding refusal_of paper_number place_in four_in
says_15 r p = let e : r ≡ Err (UnknownCode, 6) = p ∙ unknown_code in (ap refusal_of e, ap place_in e, ap four_in e)
