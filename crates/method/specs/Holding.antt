-- What a client holds after a tell, and the entries of an operation. The paper: "What each event does".
use Rattle.std.specs.Prelude.{None, Some, Option}
use Rattle.record.specs.declared.Client.{Client}
use Rattle.record.specs.declared.Cell.{Cell}
use Rattle.record.specs.declared.Entry.{Entry}
use Rattle.record.specs.declared.Entry.TheVariants.{ReadAsked, WriteAsked, Told, Done}
use Rattle.stamps.specs.declared.Pair.{Pair}
use Rattle.stamps.specs.Stamp.{raised}
use Rattle.method.specs.declared.Goal.{Goal}
use Rattle.method.specs.declared.Goal.TheVariants.{Read, Write}

-- the first tell of a phase is held whole; a later one replaces it only with a greater stamp
unfoldable pub holds : Option Pair → Pair → Pair
holds None told = told
holds (Some held) told = raised held told

-- the entry of a start: read asked, or write asked with its value
abbrev pub first_entry : Goal → Client → Cell → Entry
first_entry Read client cell = ReadAsked client cell
first_entry (Write v) client cell = WriteAsked client cell v

-- the entry that ends an operation: a read gives the held value
unfoldable pub last_entry : Goal → Client → Pair → Entry
last_entry Read client held = Told client held.value
last_entry (Write v) client held = Done client
