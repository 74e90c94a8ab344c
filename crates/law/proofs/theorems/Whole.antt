-- A record without a fault is lawful exactly when each cell's part is.
use Rattle.std.specs.Prelude.{◌≡◌, ◌↔◌, List, [], ℕ, ◌≤◌, ◌<◌}
use mathlib.Core.List.Memᴰ.{not-nil as no_mem}
use Rattle.std.proofs.Common.{arith}
use Rattle.std.proofs.Math.Decide.{dec_lt}
use Rattle.record.specs.Entry.{cell_limit}
use Rattle.record.specs.declared.Entry.{Entry}
use Rattle.record.specs.Legal.{Legal}
use Rattle.number.specs.Below.{Bytes}
use Rattle.record.specs.Record.{entries, bytes_held}
use Rattle.record.proofs.theorems.Trip.{reading_legal}
use Rattle.law.specs.Operation.{Op, operations}
use Rattle.law.specs.Order.{In, Lawful}
use Rattle.law.specs.Part.{part_of, of_cell}
use Rattle.law.specs.laws.Lists.{of_cell_of}
use Rattle.law.proofs.theorems.Locality.{lawful_by, locality}
use Rattle.law.proofs.theorems.Operations.{number_apart, stops_after, legal_cell}
use Rattle.law.proofs.theorems.Renumber.{renumber}
use Rattle.law.proofs.theorems.Parts.{cell_part}

-- nothing to order is lawful
pub lawful_none : (s : List Op) → ((x : Op) → In x s → ⊥) → Lawful s
lawful_none s none =
    lawful_by []
    (record {
      of = λ m. absurd (no_mem m);
      all = λ {x} m t. absurd (none x m);
      ended = λ m. absurd (no_mem m);
      once = tt;
      respects = tt;
      reads = tt;
    })

-- a cell's operations are lawful exactly when its part is
pub part_lawful : (c : ℕ) (es : List Entry) → Legal es → Lawful (of_cell c (operations es)) ↔ Lawful (operations (part_of c es))
part_lawful c es h =
    let p = cell_part c es h in
    let r = renumber p.place p.rises (operations (part_of c es)) in
    (λ l. r.0 (rw p.same l), λ l. rw p.same at (r.1 l))

-- the one theorem
pub record_locality : (es : List Entry) → Legal es → Lawful (operations es) ↔ ((c : ℕ) → Lawful (operations (part_of c es)))
record_locality es h =
    let l = locality (operations es) cell_limit (legal_cell es h) (stops_after es) (number_apart es) in
    (λ o c. (part_lawful c es h).0 (l.0 o c), λ f. l.1 (λ c. (part_lawful c es h).1 (f c)))

-- a cell above 15 has no operations
past_cells : (es : List Entry) → Legal es → (c : ℕ) → cell_limit ≤ c → Lawful (operations (part_of c es))
past_cells es h c b =
    (part_lawful c es h).0
    (lawful_none (of_cell c (operations es)) (λ x m. let w = of_cell_of c (operations es) m in let k = legal_cell es h x w.0 in let e = w.1 in omega arith))

-- the sixteen cells are enough
pub record_locality_16 : (es : List Entry) → Legal es → Lawful (operations es) ↔ ((c : ℕ) → c < cell_limit → Lawful (operations (part_of c es)))
record_locality_16 es h =
    let l = record_locality es h in (
      λ o c b. l.0 o c,
      λ f. l.1 (λ c. elim (dec_lt c cell_limit) [ yes b ↦ f c (omega (arith, b)) | no b ↦ past_cells es h c (omega (arith, b)) ]),
    )

-- for every record that reads without fault
pub read_locality : (s : List ℕ) (es : List Entry) → Bytes s → bytes_held s ≡ entries es → Lawful (operations es) ↔ ((c : ℕ) → Lawful (operations (part_of c es)))
read_locality s es bytes e = record_locality es (reading_legal s es bytes e)
