-- What one more text, entry or place leaves.
use Rattle.std.specs.Prelude.{Some, None, Option}
use Prim.Native.Nat.{ℕ, zero, suc, ◌+◌, ◌≤◌, ◌<◌}
use mathlib.Core.Path.{◌≡◌, refl}
use mathlib.Core.List.{List, [], ◌∷◌, ◌++◌, map}
use native.Mathlib.Omega.{arith}
use native.Mathlib.Numerals.{add-one}
use lib.ListN.{length, take}
use Rattle.text.specs.Text.{hex_text}
use Rattle.text.specs.Pages.{with_text}
use Rattle.text.specs.declared.Page.{Page}
use Rattle.text.specs.laws.Printing.{hex_append}
use Rattle.text.specs.laws.Paging.{with_nothing, with_both}
use Rattle.number.specs.Number.{Placed}
use Rattle.number.specs.laws.NumberLaws.{placed_next, placed_fits}
use Rattle.number.specs.laws.WroteLaws.{wrote_front}
use Rattle.record.specs.declared.Entry.{Entry}
use Rattle.record.specs.Entry.{entry_bytes}
use Rattle.record.proofs.theorems.EntryTrip.{entry_most}
use Rattle.record.specs.Record.{all_of, bytes_of}
use Rattle.rack.specs.declared.Line.{Line}
use Rattle.lines.specs.Lines.{each_below}
use Rattle.show.specs.declared.Form.{Form}
use Rattle.show.specs.declared.Form.TheVariants.{Hex, Plain}
use Rattle.show.specs.laws.Forms.{in_form}

-- ---- the texts of the numbers below n

module _ (f : ℕ → List ℕ) where
  pub each_none : each_below 0 f ≡ []
  unfolding each_below
  each_none = refl

  pub each_next : (i : ℕ) → each_below (i + 1) f ≡ each_below i f ++ f i
  unfolding each_below
  each_next i = rw add-one

-- ---- the record's entries

-- twenty bytes have room for an entry, and its bytes are what then stands in front
module _ (d d' : List ℕ) (e : Entry) (r : Option ℕ) (h : length d ≡ 20) (p : Placed d 0 (entry_bytes e) r d') where
  pub entry_front : (next : ℕ) → r ≡ Some next → (next ≤ length d') × (take next d' ≡ entry_bytes e)
  entry_front next q =
      let few = entry_most e in
      wrote_front (omega arith) (placed_next d 0 (entry_bytes e) d' next r (omega arith) p q)

  pub entry_room : r ≡ None → ⊥
  entry_room q = let few = entry_most e in placed_fits d 0 (entry_bytes e) d' r (omega arith) p q

-- the bytes of lines' entries
abbrev pub entries_of : List Line → List ℕ
entries_of ls = bytes_of (map (λ (l : Line). l.entry) ls)

-- two runs of bytes one after another, in either form
form_append : (form : Form) (xs ys : List ℕ) → in_form form xs ++ in_form form ys ≡ in_form form (xs ++ ys)
form_append Hex xs ys = hex_append xs ys
form_append Plain xs ys = refl

form_nothing : (form : Form) → in_form form [] ≡ []
unfolding hex_text
form_nothing Hex = refl
form_nothing Plain = refl

-- the next line's bytes are written, and those of the lines after it are left
pub next_entry : (form : Form) (q r : Page) (n m : ℕ) (l : Line) (ls ks : List Line) → r ≡ with_text q (in_form form (entry_bytes l.entry)) → ls ≡ l ∷ ks → m + 1 ≡ n
    → with_text r (in_form form (entries_of (take m ks))) ≡ with_text q (in_form form (entries_of (take n ls)))
unfolding all_of
next_entry form q r n m l ls ks w e k = rw (w, e, ← k, add-one, with_both, form_append)

-- no more are left
pub last_entry : (form : Form) (q : Page) (n : ℕ) (ls : List Line) → (0 < n → length ls ≡ 0) → with_text q (in_form form (entries_of (take n ls))) ≡ q
unfolding all_of
last_entry form q zero ls h = rw (form_nothing form, with_nothing)
last_entry form q (suc n) [] h = rw (form_nothing form, with_nothing)
last_entry form q (suc n) (l ∷ ls) h = let none : length (l ∷ ls) ≡ 0 = h (omega arith) in absurd (omega arith)
