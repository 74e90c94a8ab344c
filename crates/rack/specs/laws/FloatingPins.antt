-- Errors that look healthy, as far as they are of the wire's slots, and what refuses each: proved of the definitions alone. The paper: "Floating pins".
use Rattle.std.specs.Prelude.{ℕ, ◌+◌, ◌≤◌, ◌≡◌, true, Ok}
use Rattle.std.specs.Int.Count.{ones}
use Rattle.std.proofs.Common.{le-ltb}
use Rattle.method.specs.declared.Note.TheVariants.{Nothing}
use Rattle.method.specs.declared.Plan.{Plan}
use Rattle.rack.specs.Refusals.{noted, freed, checked}

-- a delivered slot counts as free for what its delivery sends: with one more to send than free slots it is done
pub delivered_slot_is_free : (p : Plan) (taken room : ℕ) → p.clear ≡ true → p.note ≡ Nothing → ones p.to ≤ room + 1 → checked (Ok p) taken room ≡ Ok p
unfolding checked noted freed
delivered_slot_is_free p taken room c n fits = rw (n, c, le-ltb (room + 1) (ones p.to) fits)
