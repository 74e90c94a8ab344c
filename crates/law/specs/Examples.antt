-- What the wrong answers that are ruled out are said of: examples.
use Rattle.std.specs.Prelude.{ℕ, ℤ}
use Rattle.record.specs.declared.Entry.{Entry}
use Rattle.record.specs.declared.Entry.TheVariants.{ReadAsked, WriteAsked, Told, Done}

-- read asked, by the numbers of client and cell
abbrev pub reads : ℕ → ℕ → Entry
reads client cell = ReadAsked (record { 0 = client }) (record { 0 = cell })

-- write asked, by the numbers of client and cell, with the value
abbrev pub writes : ℕ → ℕ → ℤ → Entry
writes client cell value = WriteAsked (record { 0 = client }) (record { 0 = cell }) value

-- the entry that ends a read and gives the value, by the number of its client
abbrev pub told_by : ℕ → ℤ → Entry
told_by client value = Told (record { 0 = client }) value

-- the entry that ends a write, by the number of its client
abbrev pub done_by : ℕ → Entry
done_by client = Done (record { 0 = client })
