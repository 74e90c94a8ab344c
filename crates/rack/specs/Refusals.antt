-- When the rack says no: for each number when it applies to a rack and an event, and the smallest that does. The paper: "When the rack says no".
use Rattle.std.specs.Prelude.{ℕ, zero, suc, ◌+◌, ◌-◌, Bool, true, false, cond, not, ◌&&◌, ltb, eqb, Err, Ok}
use Rattle.std.specs.Int.Count.{ones}
use Rattle.record.specs.Record.{entry_limit}
use Rattle.method.specs.declared.Event.{Event}
use Rattle.method.specs.declared.Note.{Note}
use Rattle.method.specs.declared.Note.TheVariants.{Nothing, Asked, Ended}
use Rattle.method.specs.declared.Plan.{Plan}
use Rattle.method.specs.Decision.{Decision, refused}
use Rattle.method.specs.Plan.{plan_of}
use Rattle.method.specs.Refusals.{is_start, slot_empty, client_stopped, already_open, none_open, replica_off, switched_so, op_spent, number_spent}
use Rattle.rack.specs.declared.Rack.{Rack}
use Rattle.rack.specs.Places.{room_of}
use Rattle.rack.specs.Sound.{owed, sound_of}
use Rattle.rack.specs.Looking.{in_rack, looked_held, sight}

-- what the event does if it isn't refused
abbrev pub plan_for : Rack → Event → Plan
plan_for r e = plan_of (sight r e) (looked_held r e) e

-- start, and entries + answers owed + 2 exceeds 2,048
unfoldable pub record_full : Rack → Event → Bool
record_full r e = is_start e && ltb entry_limit (r.count + owed r + 2)

-- a delivered slot counts as free
unfoldable pub freed : Bool → ℕ
freed true = 1
freed false = 0

-- more to send than free slots
abbrev pub too_many : ℕ → Plan → Bool
too_many room p = ltb (room + freed p.clear) (ones p.to)

-- more to send than free slots: start, deliver, copy and resend send
unfoldable pub wire_full : Rack → Event → Bool
wire_full r e = too_many (room_of r.wire) (plan_for r e)

-- the table: when each number applies (1 is the maker's)
unfoldable pub applies : ℕ → Rack → Event → Bool
applies k r e =
    cond (eqb k 2) (not (sound_of r))
    (cond (eqb k 3) (not (in_rack r.settings e))
    (cond (eqb k 4) (slot_empty (looked_held r e) e)
    (cond (eqb k 5) (client_stopped (sight r e) e)
    (cond (eqb k 6) (already_open (sight r e) e)
    (cond (eqb k 7) (none_open (sight r e) e)
    (cond (eqb k 8) (replica_off (sight r e) (looked_held r e) e)
    (cond (eqb k 9) (switched_so (sight r e) e)
    (cond (eqb k 10) (op_spent (sight r e) e)
    (cond (eqb k 11) (record_full r e)
    (cond (eqb k 12) (number_spent (sight r e) (looked_held r e) e)
    (cond (eqb k 13) (wire_full r e)
    false)))))))))))

-- the least of n numbers from k on that passes a test; 0 if none does
unfoldable pub least_from : ℕ → ℕ → (ℕ → Bool) → ℕ
least_from zero k f = 0
least_from (suc n) k f = cond (f k) k (least_from n (k + 1) f)

-- the table's first and last number
abbrev pub first_refusal : ℕ
first_refusal = 2

abbrev pub last_refusal : ℕ
last_refusal = 13

-- the smallest number of the table that applies is given, 0 if none does
unfoldable pub refusal_of : Rack → Event → ℕ
refusal_of r e = least_from (last_refusal + 1 - first_refusal) first_refusal (λ k. applies k r e)

-- an event that isn't refused is done as planned
unfoldable pub decided : Rack → Event → Decision
decided r e = cond (eqb (refusal_of r e) 0) (Ok (plan_for r e)) (Err (refusal_of r e))

-- ---- 11 and 13 by themselves, for a decision that is made so far: entries + answers owed are `taken`, and so many slots are free

-- 11, of a plan that begins an operation
unfoldable pub noted : Note → ℕ → Decision → Decision
noted Nothing taken d = d
noted (Asked entry) taken d = cond (ltb entry_limit (taken + 2)) (refused 11) d
noted (Ended entry) taken d = d

-- 11, then 13
unfoldable pub checked : Decision → ℕ → ℕ → Decision
checked (Err k) taken room = Err k
checked (Ok p) taken room = noted p.note taken (cond (too_many room p) (refused 13) (Ok p))
