-- `text::Page::words` meets its contract. The loop's invariant: the words up to the next are written. Assumes nothing.
use Rattle.std.proofs.Common.{◌≡◌, take}
use Rattle.text.specs.Pages.{with_text}
use Rattle.text.proofs.Page.words.Given as goal

abbrev pub invariant-loop-b : goal.invariant-loop-b
invariant-loop-b l = l.self ≡ with_text l.initial.self (take l.b-index l.words)
