-- One text after another on a page is one text.
use Rattle.std.specs.Prelude.{ℕ, ◌≡◌, refl, List, [], ◌++◌}
use Rattle.text.specs.Text.{Printed}
use Rattle.text.specs.declared.Page.{Page}
use Rattle.text.specs.Pages.{with_text}
use Rattle.text.specs.laws.Printing.{nothing, join}

-- nothing
pub with_nothing : (p : Page) → with_text p [] ≡ p
unfolding with_text
with_nothing p = let j : Printed p.bytes.now p.place [] p.place p.bytes.now = nothing in rw (← j.place) refl

-- one text after another
pub with_both : (p : Page) (xs ys : List ℕ) → with_text (with_text p xs) ys ≡ with_text p (xs ++ ys)
unfolding with_text
with_both p xs ys =
    let j : Printed p.bytes.now p.place (xs ++ ys) (with_text (with_text p xs) ys).place (with_text (with_text p xs) ys).bytes.now = join {xs = xs} {ys = ys} (record { place = refl; list = refl }) (record { place = refl; list = refl }) in
    rw (j.place, j.list) refl

-- both, for proofs of what writes on a page
pub ruleset page_steps = (with_both, with_nothing)
