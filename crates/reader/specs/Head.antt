-- The reading head, which holds the record's bytes and its place, and takes one entry at a time. The paper: "The record and its bytes".
use Rattle.std.specs.Prelude.{ℕ, Ok, Err}
use Rattle.reader.specs.declared.ReadingHead.{ReadingHead}
use Rattle.record.specs.Entry.{Found, entry_at}

-- what stands at the head's place
abbrev pub under_head : ReadingHead → Found
under_head h = entry_at h.bytes.now h.place

-- the place after what was found; a fault leaves the place as it is
unfoldable pub place_after : Found → ℕ → ℕ
place_after (Ok (e, next)) place = next
place_after (Err k) place = place

-- the head after it took what stands there: the same bytes, and the place after it
abbrev pub head_after : ReadingHead → ReadingHead
head_after h = record { bytes = h.bytes; place = place_after (under_head h) h.place }
