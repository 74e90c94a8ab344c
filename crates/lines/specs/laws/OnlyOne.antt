-- No other outcome fits a call, and wrong ones do not meet its contract.
use Rattle.std.specs.Prelude.{ℕ, ◌<◌, ◌≡◌, List, [], ◌∷◌, length}
use Rattle.std.proofs.Common.{arith}
use Rattle.text.specs.Text.{Printed}
use Rattle.text.specs.laws.OnlyOne.{only_one}
use Rattle.record.specs.Record.{bytes_of}
use Rattle.rack.specs.declared.Rack.{Rack}
use Rattle.rack.specs.declared.Ran.{Ran}
use Rattle.rack.specs.Places.{record_of}
use Rattle.lines.specs.Lines.{refused_line, ran_text, fault_line}

pub one_ran : (before : List ℕ) (at : ℕ) (q : Ran) {r s : ℕ} {after other : List ℕ} → Printed before at (ran_text q) r after → Printed before at (ran_text q) s other
    → (r ≡ s) × (after ≡ other)
one_ran before at q a b = only_one before at (ran_text q) a b

pub one_fault : (before : List ℕ) (at refusal byte : ℕ) {r s : ℕ} {after other : List ℕ} → Printed before at (fault_line refusal byte) r after
    → Printed before at (fault_line refusal byte) s other → (r ≡ s) × (after ≡ other)
one_fault before at refusal byte a b = only_one before at (fault_line refusal byte) a b

pub one_refused : (before : List ℕ) (at refusal : ℕ) {r s : ℕ} {after other : List ℕ} → Printed before at (refused_line refusal) r after
    → Printed before at (refused_line refusal) s other → (r ≡ s) × (after ≡ other)
one_refused before at refusal a b = only_one before at (refused_line refusal) a b

pub one_record : (before : List ℕ) (at : ℕ) (rack : Rack) {r s : ℕ} {after other : List ℕ} → Printed before at (bytes_of (record_of rack)) r after
    → Printed before at (bytes_of (record_of rack)) s other → (r ≡ s) × (after ≡ other)
one_record before at rack a b = only_one before at (bytes_of (record_of rack)) a b

-- no line is left unsaid, and none is said where there is no room
pub not_silent : (q : Ran) (after : List ℕ) → Printed (7 ∷ []) 0 (ran_text q) 0 after → ⊥
unfolding ran_text
not_silent q after p = omega (arith, p.place)

pub not_past : (q : Ran) (after : List ℕ) → Printed [] 0 (ran_text q) 1 after → ⊥
not_past q after p = omega (arith, p.place)

pub not_silent_fault : (refusal byte : ℕ) (after : List ℕ) → Printed (7 ∷ []) 0 (fault_line refusal byte) 0 after → ⊥
unfolding fault_line
not_silent_fault refusal byte after p = omega (arith, p.place)

pub not_past_fault : (refusal byte : ℕ) (after : List ℕ) → Printed [] 0 (fault_line refusal byte) 1 after → ⊥
not_past_fault refusal byte after p = omega (arith, p.place)

pub not_silent_refused : (refusal : ℕ) (after : List ℕ) → Printed (7 ∷ []) 0 (refused_line refusal) 0 after → ⊥
not_silent_refused refusal after p = omega (arith, p.place)

pub not_past_refused : (refusal : ℕ) (after : List ℕ) → Printed [] 0 (refused_line refusal) 1 after → ⊥
not_past_refused refusal after p = omega (arith, p.place)

-- no byte of a record is left out where there is room, and none is written where there is none
pub not_a_byte_less : (before : List ℕ) (rack : Rack) (after : List ℕ) → length (bytes_of (record_of rack)) < length before
    → Printed before 1 (bytes_of (record_of rack)) (length (bytes_of (record_of rack))) after → ⊥
not_a_byte_less before rack after h p = omega (arith, p.place)

pub not_past_record : (rack : Rack) (after : List ℕ) → Printed [] 0 (bytes_of (record_of rack)) 1 after → ⊥
not_past_record rack after p = omega (arith, p.place)
