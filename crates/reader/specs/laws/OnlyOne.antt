-- No other outcome fits `ReadingHead::take`: two that both meet its contract mean the same and are the same, and wrong ones do not meet it.
-- What `entry_at` and `survey` answer is defined in crate record, and its OnlyOne.antt says that no other answer fits.
use Rattle.std.specs.Prelude.{ℕ, List, [], ◌∷◌, ◌≡◌}
use Rattle.std.proofs.Common.{ap, ◌∙◌, sym, arith}
use Rattle.record.specs.Entry.{Found, entry_at}
use Rattle.record.specs.laws.Sheet.{client_8, done_short}
use Rattle.record.proofs.theorems.OnlyOne.{one_entry}
use Rattle.reader.specs.declared.ReadingHead.{ReadingHead}
use Rattle.reader.specs.Head.{under_head, place_after, head_after}
use Rattle.reader.specs.Same.{SameTake}

pub one_take : (h : ReadingHead) (r r' : Found) (k k' : ReadingHead) → (r ≡ under_head h) × (k ≡ head_after h) → (r' ≡ under_head h) × (k' ≡ head_after h) → SameTake r r' k k'
one_take h r r' k k' p q = record { answer = one_entry h.bytes.now h.place r r' p.0 q.0; head = p.1 ∙ sym q.1 }

-- the place of a head that took what was found there
place_is : (s : List ℕ) (at : ℕ) (f : Found) (h k : ReadingHead) → entry_at s at ≡ f → h.bytes.now ≡ s → h.place ≡ at → k ≡ head_after h → k.place ≡ place_after f at
place_is s at f h k e b p q =
    ap (λ (x : ReadingHead). x.place) q
    ∙ (ap (λ (l : List ℕ). place_after (entry_at l h.place) h.place) b ∙ (ap (λ (n : ℕ). place_after (entry_at s n) n) p ∙ ap (λ (x : Found). place_after x at) e))

-- a head doesn't stay before the entry that it took, and doesn't pass one that is refused
pub not_standing : (h k : ReadingHead) → h.bytes.now ≡ 0x03 ∷ 0x00 ∷ 0x07 ∷ [] → h.place ≡ 0 → k ≡ head_after h → k.place ≡ 0 → ⊥
unfolding place_after
not_standing h k b p q z = omega (arith, place_is (0x03 ∷ 0x00 ∷ 0x07 ∷ []) 0 _ h k done_short b p q)

pub not_past_a_fault : (h k : ReadingHead) → h.bytes.now ≡ 0x00 ∷ 0x08 ∷ 0x00 ∷ [] → h.place ≡ 0 → k ≡ head_after h → k.place ≡ 2 → ⊥
unfolding place_after
not_past_a_fault h k b p q z = omega (arith, place_is (0x00 ∷ 0x08 ∷ 0x00 ∷ []) 0 _ h k client_8 b p q)
