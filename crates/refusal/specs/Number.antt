-- The number that the paper gives a refusal. The paper: "When the rack says no" for 1 to 13, "The record and its bytes" for 20 to 29.
use Rattle.std.specs.Prelude.{ℕ}
use Rattle.refusal.specs.declared.Refusal.{Refusal}
use Rattle.refusal.specs.declared.Refusal.TheVariants.{SizeOutOfRange, Unsound, Unknown, SlotEmpty, ClientStopped, AlreadyOpen, NoneOpen, ReplicaOff, SwitchedSo, OpSpent, RecordFull, NumberSpent, WireFull}
use Rattle.refusal.specs.declared.Refusal.TheVariants.{UnknownCode, TooShort, EndsFirst, LastIsZero, FifthAbove, KindAbove, FieldAbove, AskedWhileOpen, EndedUnasked, TooMany, AskedAgain}

-- each refusal's number
unfoldable pub paper_number : Refusal → ℕ
paper_number SizeOutOfRange = 1
paper_number Unsound = 2
paper_number Unknown = 3
paper_number SlotEmpty = 4
paper_number ClientStopped = 5
paper_number AlreadyOpen = 6
paper_number NoneOpen = 7
paper_number ReplicaOff = 8
paper_number SwitchedSo = 9
paper_number OpSpent = 10
paper_number RecordFull = 11
paper_number NumberSpent = 12
paper_number WireFull = 13
paper_number UnknownCode = 15
paper_number TooShort = 20
paper_number EndsFirst = 21
paper_number LastIsZero = 22
paper_number FifthAbove = 23
paper_number KindAbove = 24
paper_number FieldAbove = 25
paper_number AskedWhileOpen = 26
paper_number EndedUnasked = 27
paper_number TooMany = 28
paper_number AskedAgain = 29
