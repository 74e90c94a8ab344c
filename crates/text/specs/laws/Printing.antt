-- One text after another is one text.
use Rattle.std.specs.Prelude.{ℕ, suc, ◌+◌, ◌≤◌, ◌<◌, min, max, ◌≡◌, refl, List, [], ◌∷◌, ◌++◌, Bool, true, false, length, set, leb}
use Rattle.std.proofs.Common.{sym, ap, ◌∙◌, append_assoc, arith, length-append, leb-true, leb-false}
use Rattle.std.proofs.lemmas.List.Edits.{sets}
use Rattle.std.proofs.Math.Seq.{length-sets, set_out}
use Rattle.number.specs.laws.WroteLaws.{sets_append}
use Rattle.text.specs.Text.{hex_byte, hex_text, Printed}

-- what would stand past the end is dropped
past : (l : List ℕ) (i : ℕ) (xs : List ℕ) → length l ≤ i → sets l i xs ≡ l
past l i [] h = refl
past l i (x ∷ xs) h = ap (λ (m : List ℕ). sets m (suc i) xs) (set_out l i x h) ∙ past l (suc i) xs (omega arith)

module _ {l : List ℕ} {at : ℕ} where
  -- nothing
  pub nothing : Printed l at [] at l
  nothing = record { place = omega arith; list = refl }

  -- a byte that fits, and one that doesn't
  pub byte_in : (b : ℕ) → at < length l → Printed l at (b ∷ []) (at + 1) (set l at b)
  byte_in b h = record { place = omega arith; list = refl }

  pub byte_out : (b : ℕ) → length l ≤ at → Printed l at (b ∷ []) at l
  byte_out b h = record { place = omega arith; list = sym (past l at (b ∷ []) h) }

  -- one text after another
  pub join : {xs : List ℕ} {a : ℕ} {l' : List ℕ} {ys : List ℕ} {r : ℕ} {l'' : List ℕ} → Printed l at xs a l' → Printed l' a ys r l'' → Printed l at (xs ++ ys) r l''
  join {xs} {a} {l'} {ys} v w = record {
    place = let e : length l' ≡ length l = ap length v.list ∙ length-sets l at xs in
        let f : length (xs ++ ys) ≡ length xs + length ys = length-append xs ys in
        omega (arith, v.place, w.place);
    list = w.list ∙ ap (λ (m : List ℕ). sets m a ys) v.list ∙ go (leb (at + length xs) (length l)) refl;
  }
    where
      go : (t : Bool) → leb (at + length xs) (length l) ≡ t → sets (sets l at xs) a ys ≡ sets l at (xs ++ ys)
      go true h =
          let k = leb-true (at + length xs) (length l) h in
          let e : a ≡ at + length xs = omega (arith, k, v.place) in
          ap (λ (i : ℕ). sets (sets l at xs) i ys) e ∙ sets_append l at xs ys
      go false h =
          let k : length l < at + length xs = leb-false (at + length xs) (length l) h in
          let e : length (sets l at xs) ≡ length l = length-sets l at xs in
          past (sets l at xs) a ys (omega (arith, v.place))
          ∙ sym (past (sets l at xs) (at + length xs) ys (omega arith))
          ∙ sets_append l at xs ys

-- no length changes
pub printed_length : {l : List ℕ} {at : ℕ} {xs : List ℕ} {r : ℕ} {l' : List ℕ} → Printed l at xs r l' → length l' ≡ length l
printed_length {l} {at} {xs} w = ap length w.list ∙ length-sets l at xs

-- an equal text
pub same_text : {l : List ℕ} {at : ℕ} {xs ys : List ℕ} {r : ℕ} {l' : List ℕ} → xs ≡ ys → Printed l at xs r l' → Printed l at ys r l'
same_text {l} {at} e w = record {
  place = w.place ∙ ap (λ (t : List ℕ). max at (min (at + length t) (length l))) e;
  list = w.list ∙ ap (λ (t : List ℕ). sets l at t) e;
}

-- bytes one after another
pub hex_append : (xs ys : List ℕ) → hex_text xs ++ hex_text ys ≡ hex_text (xs ++ ys)
unfolding hex_text
hex_append [] ys = refl
hex_append (x ∷ xs) ys = append_assoc (hex_byte x) (hex_text xs) (hex_text ys) ∙ ap (λ (t : List ℕ). hex_byte x ++ t) (hex_append xs ys)
