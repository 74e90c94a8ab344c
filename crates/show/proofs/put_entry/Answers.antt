-- `show::put_entry` meets its contract: no entry has more than twenty bytes. Assumes nothing.
use Rattle.std.proofs.Common.{List, ℕ, refl, sym, ap, ◌∙◌, length-take-le}
use Rattle.text.specs.Pages.{with_text}
use Rattle.show.specs.laws.Forms.{in_form}
use Rattle.show.proofs.Laws.{entry_front, entry_room}
use Rattle.show.proofs.put_entry.Goals as goal

pub slice_bounds-bytes-end : goal.slice_bounds-bytes-end
slice_bounds-bytes-end c = (entry_front _ _ _ _ refl c.write_entry.ensures _ c.in-Some.is).0

pub slice_bounds-put_bytes-end : goal.slice_bounds-put_bytes-end
slice_bounds-put_bytes-end c =
    sym
    (length-take-le _ _ (entry_front _ _ _ _ refl c.write_entry.ensures _ c.in-Some.is).0)

pub returns-in-Some : goal.returns-in-Some
returns-in-Some c =
    c.put_bytes.ensures ∙ ap (λ (t : List ℕ). with_text c.args.page.now (in_form c.args.form t))
    (entry_front _ _ _ _ refl c.write_entry.ensures _ c.in-Some.is).1

pub returns-in_default : goal.returns-in_default
returns-in_default c = absurd (entry_room _ _ _ _ refl c.write_entry.ensures c.in_default.is)
