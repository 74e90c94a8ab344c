-- A record that has no fault: its entries are in range, and each may follow those before it. Reading gives such records only, and the
-- writer takes them all (specs/Trip.antt here and in crate rows).
use Rattle.std.specs.Prelude.{◌≤◌, ◌≡◌, List, [], ◌∷◌, length, None}
use Rattle.std.specs.Int.{w32}
use Rattle.std.proofs.Common.{SFits}
use Rattle.record.specs.declared.Entry.{Entry}
use Rattle.record.specs.declared.Entry.TheVariants.{ReadAsked, WriteAsked, Told, Done}
use Rattle.record.specs.declared.Standing.{Standing}
use Rattle.record.specs.Entry.{last_client, last_cell}
use Rattle.record.specs.Record.{entry_limit, fresh, fault_after, standing_after}

-- client at most 7, cell at most 15, a value of 32 bits
abbrev pub InRange : Entry → Type 0
InRange (ReadAsked client cell) = (client.0 ≤ last_client) × (cell.0 ≤ last_cell)
InRange (WriteAsked client cell v) = (client.0 ≤ last_client) × (cell.0 ≤ last_cell) × SFits w32 v
InRange (Told client v) = (client.0 ≤ last_client) × SFits w32 v
InRange (Done client) = client.0 ≤ last_client

-- each entry is in range and is no 26 or 27 after those before it
abbrev pub Follows : Standing → List Entry → Type 0
Follows st [] = Unit {0}
Follows st (e ∷ es) = InRange e × (fault_after st e ≡ None) × Follows (standing_after st e) es

-- a whole record without a fault
pub record Legal (es : List Entry) : Type 0 where
  pub follows : Follows fresh es
  pub few : length es ≤ entry_limit
