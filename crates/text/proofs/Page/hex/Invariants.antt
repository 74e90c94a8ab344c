-- `text::Page::hex` meets its contract. The loop's invariant: the bytes up to the next are written. Assumes nothing.
use Rattle.std.proofs.Common.{◌≡◌, take}
use Rattle.text.specs.Text.{hex_text}
use Rattle.text.specs.Pages.{with_text}
use Rattle.text.proofs.Page.hex.Given as goal

abbrev pub invariant-loop-b : goal.invariant-loop-b
invariant-loop-b l = l.self ≡ with_text l.initial.self (hex_text (take l.b-index l.bytes))
