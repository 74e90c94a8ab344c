-- No other outcome fits a call, and wrong ones do not meet its contract.
use Rattle.std.specs.Prelude.{ℕ, ◌+◌, ◌≡◌, List, [], ◌∷◌, length, min, max}
use Rattle.std.proofs.Common.{sym, ap, ap₂, ◌∙◌, arith}
use Rattle.std.proofs.lemmas.List.Edits.{sets}
use Rattle.text.specs.Text.{Printed}
use Rattle.text.specs.declared.Page.{Page}
use Rattle.text.specs.Pages.{with_text}

-- the place and the bytes afterwards are settled, whatever the text
pub only_one : (before : List ℕ) (at : ℕ) (text : List ℕ) {r s : ℕ} {after other : List ℕ} → Printed before at text r after → Printed before at text s other
    → (r ≡ s) × (after ≡ other)
only_one before at text a b = (a.place ∙ sym b.place, a.list ∙ sym b.list)

-- a byte that fits is written and counted, and one that doesn't is neither
pub not_unwritten : (r : ℕ) → Printed (7 ∷ []) 0 (9 ∷ []) r (7 ∷ []) → ⊥
not_unwritten r p = let b : ◌≡◌ {A = List ℕ} (7 ∷ []) (9 ∷ []) = p.list in
    let z : ◌≡◌ {A = ℕ} 7 9 = cc in omega arith

pub not_past : (after : List ℕ) → Printed (7 ∷ []) 1 (9 ∷ []) 2 after → ⊥
not_past after p = omega (arith, p.place)

-- a page with a text on it is settled as well, whatever the text
pub one_page : (p q q' : Page) (text : List ℕ) → q ≡ with_text p text → q' ≡ with_text p text → q ≡ q'
one_page p q q' text a b = a ∙ sym b

-- a byte that fits is written on the page, and its place is moved on by no other
pub page_not_unwritten : (p q : Page) → p.bytes.now ≡ 7 ∷ [] → p.place ≡ 0 → q ≡ with_text p (9 ∷ []) → q.bytes.now ≡ 7 ∷ [] → ⊥
unfolding with_text
page_not_unwritten p q b h e w =
    let t : sets (7 ∷ []) 0 (9 ∷ []) ≡ sets p.bytes.now p.place (9 ∷ []) = ap₂ (λ (l : List ℕ) (i : ℕ). sets l i (9 ∷ [])) (sym b) (sym h) in
    let s : ◌≡◌ {A = List ℕ} (9 ∷ []) (7 ∷ []) = t ∙ sym (ap (λ (x : Page). x.bytes.now) e) ∙ w in
    let z : ◌≡◌ {A = ℕ} 9 7 = cc in omega arith

pub page_not_past : (p q : Page) → p.bytes.now ≡ 7 ∷ [] → p.place ≡ 1 → q ≡ with_text p (9 ∷ []) → q.place ≡ 2 → ⊥
unfolding with_text
page_not_past p q b h e w =
    let l : length p.bytes.now ≡ 1 = ap length b in
    let s : q.place ≡ max p.place (min (p.place + 1) (length p.bytes.now)) = ap (λ (x : Page). x.place) e in
    omega arith
