-- Stamps as numbers, in whose order they stand.
use Rattle.std.specs.Prelude.{◌≡◌, refl, Bool, true, false, ◌||◌, ◌&&◌, ltb, eqb}
use Rattle.std.proofs.Common.{sym, arith, lt-ltb, le-ltb, ltb-true, ltb-false, eqb-true}
use Rattle.std.proofs.lemmas.Bool.{eqb-false}
use Rattle.stamps.specs.declared.Stamp.{Stamp}
use Rattle.stamps.specs.Stamp.{stamp_less}
use Rattle.stamps.specs.StampOrder.{stamp_of, Ranked}

-- stamps compare as these numbers do
pub stamp_order : (s t : Stamp) → Ranked s → Ranked t → stamp_less s t ≡ ltb (stamp_of s) (stamp_of t)
unfolding stamp_less
stamp_order s t hs ht = go (ltb s.number t.number) refl (eqb s.number t.number) refl (ltb s.rank t.rank) refl
  where
    go : (a : Bool) → ltb s.number t.number ≡ a → (b : Bool) → eqb s.number t.number ≡ b → (c : Bool) → ltb s.rank t.rank ≡ c
        → (a || (b && c)) ≡ ltb (stamp_of s) (stamp_of t)
    go true p b q c u = let h = ltb-true s.number t.number p in sym (lt-ltb (stamp_of s) (stamp_of t) (omega arith))
    go false p true q true u =
        let h = eqb-true s.number t.number q in let l = ltb-true s.rank t.rank u in sym (lt-ltb (stamp_of s) (stamp_of t) (omega arith))
    go false p true q false u =
        let h = eqb-true s.number t.number q in let l = ltb-false s.rank t.rank u in sym (le-ltb (stamp_of s) (stamp_of t) (omega arith))
    go false p false q c u =
        let h = ltb-false s.number t.number p in
        let d : s.number ≡ t.number → ⊥ = eqb-false s.number t.number q in
        sym (le-ltb (stamp_of s) (stamp_of t) (omega (arith, d)))
