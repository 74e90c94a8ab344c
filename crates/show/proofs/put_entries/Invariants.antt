-- `show::put_entries` meets its contract. The loop's invariant: with the bytes of the entries that are left, the page is as it is to be. Assumes nothing.
use Rattle.std.proofs.Common.{◌≡◌, map, take}
use Rattle.text.specs.Pages.{with_text}
use Rattle.record.specs.Record.{bytes_of}
use Rattle.rack.specs.declared.Line.{Line}
use Rattle.rack.specs.Places.{record_of}
use Rattle.show.specs.laws.Forms.{in_form}
use Rattle.show.proofs.put_entries.Given as goal

abbrev pub invariant-loop-line : goal.invariant-loop-line
invariant-loop-line l =
    with_text l.page (in_form l.form (bytes_of (map (λ (x : Line). x.entry) (take l.line-iterator.n l.line-iterator.iter.rest.now))))
    ≡ with_text l.initial.page (in_form l.form (bytes_of (record_of l.rack)))
