-- What holds of the text that the program `drill` writes for a script without a fault, and of the bytes that the program `recorder` writes.
use Rattle.std.specs.Prelude.{◌≡◌, List, ◌++◌, length, take, ℕ, Ok}
use Rattle.record.specs.Record.{entries, bytes_of, bytes_held}
use Rattle.law.specs.Operation.{operations}
use Rattle.law.specs.Order.{Lawful}
use Rattle.rack.specs.declared.Ran.{Ran}
use Rattle.rack.specs.Places.{record_of}
use Rattle.text.specs.Text.{hex_text, line_feed}
use Rattle.lines.specs.Words.{record_start}
use Rattle.lines.specs.Lines.{ran_text}
use Rattle.back.specs.Reading.{ReadsBack}
use Rattle.play.specs.Play.{Recorded}

-- The text is the lines of the run q, and its last line gives the bytes of q's record in hex. These bytes, read, are that record, which is lawful; and
-- writer, reader and judge take it.
pub record Drilled (q : Ran) (text : List ℕ) : Type 0 where
  pub lines : text ≡ ran_text q
  pub before : List ℕ
  pub last : text ≡ before ++ (record_start ++ (hex_text (bytes_of (record_of q.rack)) ++ line_feed))
  pub reads : bytes_held (bytes_of (record_of q.rack)) ≡ entries (record_of q.rack)
  pub lawful : Lawful (operations (record_of q.rack))
  pub back : ReadsBack (record_of q.rack)

-- The answer r is the refusal of the run q and the length of its record's bytes, and these stand whole in front of the lent bytes. Read, they are that
-- record, which is lawful; and writer, reader and judge take it.
pub record InFull (q : Ran) (r : Recorded) (after : List ℕ) : Type 0 where
  pub answer : r ≡ Ok (q.refusal, length (bytes_of (record_of q.rack)))
  pub front : take (length (bytes_of (record_of q.rack))) after ≡ bytes_of (record_of q.rack)
  pub reads : bytes_held (bytes_of (record_of q.rack)) ≡ entries (record_of q.rack)
  pub lawful : Lawful (operations (record_of q.rack))
  pub back : ReadsBack (record_of q.rack)
