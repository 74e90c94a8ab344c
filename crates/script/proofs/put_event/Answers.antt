-- `script::put_event` meets its contract. Assumes nothing.
use Rattle.std.proofs.Common.{sym, ◌∙◌, arith, ◌+◌, ◌-◌, ◌≡◌, ◌∷◌, [], take, List, ℕ}
use Rattle.std.proofs.lemmas.List.{append_assoc, drop-drop}
use Rattle.std.proofs.lemmas.List.Edits.{sets-eq}
use Rattle.script.proofs.put_event.Goals as goal

pub returns : goal.returns
returns c =
    let a = c.args in
    let four : a.at + 4 - a.at ≡ 4 = omega arith in
    let event : List ℕ = a.kind ∷ a.a ∷ a.b ∷ a.value ∷ [] in
    rw (c.copy_from_slice.ensures.after, four, drop-drop 4 a.at a.words.now) (sym (sets-eq event a.words.now a.at (omega arith) ∙ append_assoc (take a.at a.words.now) event _))
