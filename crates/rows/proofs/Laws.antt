-- Laws of single rows.
use Prim.Native.Nat.{ℕ, ◌+◌, ◌≤◌}
use mathlib.Core.Path.{◌≡◌, sym, ap, ◌∙◌}
use mathlib.Core.List.{List, ◌++◌, append_assoc}
use lib.ListN.{length, take, drop}
use Rattle.std.proofs.Common.{drop-drop}
use lib.Seq.{sets, sets-eq}
use borrow.Rule.Slice.PartMut.{put_mid}

-- a row in the place of as many numbers
pub put_whole : (d row : List ℕ) (at k : ℕ) → k ≡ length row → at + length row ≤ length d → put_mid at k d row ≡ sets d at row
put_whole d row at k e h =
    rw e (ap (λ (l : List ℕ). take at d ++ (row ++ l)) (drop-drop (length row) at d) ∙ sym (sets-eq row d at h ∙ append_assoc (take at d) row (drop (at + length row) d)))
