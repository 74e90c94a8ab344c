-- The writes that events ask for.
use Rattle.std.specs.Prelude.{ℕ, ◌≡◌, List, [], ◌∷◌, ◌++◌}
use Rattle.record.specs.declared.Entry.{Entry}
use Rattle.record.specs.declared.Entry.TheVariants.{WriteAsked}
use Rattle.record.specs.Record.{entries}
use Rattle.verdict.specs.Verdict.{distinct}
use Rattle.method.specs.declared.Event.{Event}
use Rattle.method.specs.declared.Event.TheVariants.{StartRead, StartWrite, Deliver, Lose, Copy, Resend, Stop, Off, On, Unknown}
use Rattle.rack.specs.Run.{event_of}

-- the entry that a start write adds
unfoldable pub writes_by : Event → List Entry
writes_by (StartRead client cell) = []
writes_by (StartWrite client cell v) = WriteAsked client cell v ∷ []
writes_by (Deliver slot) = []
writes_by (Lose slot) = []
writes_by (Copy slot) = []
writes_by (Resend client) = []
writes_by (Stop client) = []
writes_by (Off replica) = []
writes_by (On replica) = []
writes_by Unknown = []

-- those of all events, four words each; words after the last whole event are no event
unfoldable pub writes_of : List ℕ → List Entry
writes_of [] = []
writes_of (k ∷ []) = []
writes_of (k ∷ a ∷ []) = []
writes_of (k ∷ a ∷ b ∷ []) = []
writes_of (k ∷ a ∷ b ∷ v ∷ ws) = writes_by (event_of k a b v) ++ writes_of ws

-- none asks for 0, and no two ask for the same value of a cell: nothing for refusal 29
abbrev pub Differ : List ℕ → Type 0
Differ events = distinct (entries (writes_of events)) ≡ entries (writes_of events)
