-- What writing a text on a page leaves.
use Rattle.std.specs.Prelude.{ℕ, ◌+◌, min, max, List, length}
use Rattle.std.proofs.lemmas.List.Edits.{sets}
use Rattle.text.specs.declared.Page.{Page}

-- A page with a text from its place on, as far as its bytes go: the same lent bytes, with the text in them, and the place after what was written.
unfoldable pub with_text : Page → List ℕ → Page
with_text p text = record {
  bytes = record p.bytes { now = sets p.bytes.now p.place text };
  place = max p.place (min (p.place + length text) (length p.bytes.now));
}
