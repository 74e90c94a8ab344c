-- Answers owed, from the clients alone.
use Rattle.std.specs.Prelude.{ℕ, zero, suc, ◌+◌, ◌≤◌, ◌<◌, min, ◌≡◌, refl, Bool, true, false, cond, List, [], ◌∷◌, eqb, ltb, get_or, set, length, None, Some, Option}
use Rattle.std.proofs.Common.{ap, sym, ◌∙◌, arith, get_or-set_same, get_or-set_other, eqb-true, ltb-true, ltb-false}
use Rattle.std.proofs.lemmas.Bool.{eqb-false}
use Rattle.method.specs.declared.Operation.{Operation}
use Rattle.method.specs.declared.Party.{Party}
use Rattle.rack.specs.declared.Rack.{Rack}
use Rattle.rack.specs.Places.{idle}
use Rattle.rack.specs.Sound.{owes, owed_by, owed_in, owed}

-- the answers that a rack owes are those of its clients
pub owed_in_lem : (r : Rack) → owed r ≡ owed_in r.settings.clients r.parties
unfolding owed
owed_in_lem r = refl

-- a client owes one answer at most
owes_most : (w : Option Operation) → owes w ≤ 1
unfolding owes
owes_most None = omega arith
owes_most (Some o) = omega arith

pub owed_one : (p : Party) → owed_by p ≤ 1
unfolding owed_by
owed_one p = go p.stopped
  where
    go : (t : Bool) → cond t 0 (owes p.work) ≤ 1
    go true = omega arith
    go false = owes_most p.work

pub owed_most : (n : ℕ) (ps : List Party) → owed_in n ps ≤ n
unfolding owed_in
owed_most zero ps = omega arith
owed_most (suc n) ps = omega (arith, owed_most n ps, owed_one (get_or ps n idle))

-- a place that is not there has the default
past : (ps : List Party) (n : ℕ) (d : Party) → length ps ≤ n → get_or ps n d ≡ d
past [] n d h = refl
past (p ∷ ps) zero d h = absurd (omega arith)
past (p ∷ ps) (suc n) d h = past ps n d (omega arith)

-- clients that are not there owe nothing
pub owed_beyond : (n : ℕ) (ps : List Party) → owed_in (min n (length ps)) ps ≡ owed_in n ps
unfolding owed_in owed_by owes
owed_beyond zero ps = let e : min 0 (length ps) ≡ 0 = omega arith in rw e
owed_beyond (suc n) ps = go (ltb n (length ps)) refl (owed_beyond n ps)
  where
    go : (t : Bool) → ltb n (length ps) ≡ t → owed_in (min n (length ps)) ps ≡ owed_in n ps → owed_in (min (suc n) (length ps)) ps ≡ owed_in (suc n) ps
    go true q ih = let l : n < length ps = ltb-true n (length ps) q in let e : min (suc n) (length ps) ≡ suc n = omega arith in ap (λ (k : ℕ). owed_in k ps) e
    go false q ih =
        let l : length ps ≤ n = ltb-false n (length ps) q in
        let e : min (suc n) (length ps) ≡ min n (length ps) = omega arith in
        let z : owed_by (get_or ps n idle) ≡ 0 = ap owed_by (past ps n idle l) in
        ap (λ (k : ℕ). owed_in k ps) e ∙ ih ∙ omega arith

owed_same : (n i : ℕ) (ps : List Party) (p : Party) → n ≤ i → owed_in n (set ps i p) ≡ owed_in n ps
unfolding owed_in
owed_same zero i ps p h = refl
owed_same (suc n) i ps p h =
    let e : get_or (set ps i p) n idle ≡ get_or ps n idle = get_or-set_other ps i n p idle (λ q. omega arith) in
    rw (owed_same n i ps p (omega arith), e)

-- another client in place i
pub owed_set : (n i : ℕ) (ps : List Party) (p : Party) → i < n → i < length ps → owed_in n (set ps i p) + owed_by (get_or ps i idle) ≡ owed_in n ps + owed_by p
unfolding owed_in
owed_set zero i ps p h l = absurd (omega arith)
owed_set (suc n) i ps p h l = go (eqb i n) refl (λ w. owed_set n i ps p w l)
  where
    go : (t : Bool) → eqb i n ≡ t → (i < n → owed_in n (set ps i p) + owed_by (get_or ps i idle) ≡ owed_in n ps + owed_by p)
        → owed_in (suc n) (set ps i p) + owed_by (get_or ps i idle) ≡ owed_in (suc n) ps + owed_by p
    go true q ih =
        let e : i ≡ n = eqb-true i n q in
        let a : owed_by (get_or (set ps i p) n idle) ≡ owed_by p = ap (λ (k : ℕ). owed_by (get_or (set ps i p) k idle)) (sym e) ∙ ap owed_by (get_or-set_same ps i p idle l) in
        let b : owed_by (get_or ps i idle) ≡ owed_by (get_or ps n idle) = ap (λ (k : ℕ). owed_by (get_or ps k idle)) e in
        omega (arith, owed_same n i ps p (omega arith))
    go false q ih =
        let m : i ≡ n → ⊥ = eqb-false i n q in
        let a : owed_by (get_or (set ps i p) n idle) ≡ owed_by (get_or ps n idle) = ap owed_by (get_or-set_other ps i n p idle (λ e. m (sym e))) in
        omega (arith, ih (omega (arith, m)))
