-- What the wrong answers that are ruled out are said of: examples.
use Rattle.report.specs.Line.{line_room}
use Rattle.std.specs.Prelude.{ℕ, List, replicate}

-- bytes to be written over, as many as have room for every line
abbrev pub room : List ℕ
room = replicate line_room 9
