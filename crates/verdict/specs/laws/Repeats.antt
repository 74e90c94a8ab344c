-- Refusal 29 by the table of writes: where no entry asks again the record is taken for its entries, else the first that does is named.
use Rattle.std.specs.Prelude.{ℕ, ◌+◌, ◌≤◌, ◌<◌, ◌≡◌, refl, ◌≢◌, Bool, true, false, cond, ◌&&◌, ◌||◌, List, [], ◌∷◌, eqb, ℤ, length}
use Rattle.std.proofs.Common.{sym, ap, ◌∙◌, subst, inl, inr, ⊎_elim, true≢false, arith, eqb-true}
use Rattle.std.proofs.Math.Decide.{ℕ_discrete}
use Rattle.std.proofs.lemmas.Bool.{eqb-false}
use Rattle.number.specs.Value.{alternating_of}
use Rattle.record.specs.declared.Entry.{Entry}
use Rattle.record.specs.declared.Entry.TheVariants.{ReadAsked, WriteAsked, Told, Done}
use Rattle.record.specs.Record.{Held, entries, fault}
use Rattle.refusal.specs.declared.Refusal.TheVariants.{AskedAgain}
use Rattle.chains.specs.Chains.{Asks, Again}
use Rattle.clusters.specs.laws.Arrays.{Arrays, cell_at, value_at, Fresh}
use Rattle.clusters.specs.laws.Shown.{Shows, AllShow}
use Rattle.chains.specs.laws.Entering.{Decides}
use Rattle.verdict.specs.Verdict.{asks_for, asked_among, repeats, distinct_from, distinct}

-- entry p asks to write v to cell c
abbrev AsksAt : Arrays → ℕ → ℕ → ℤ → Type 0
AsksAt a p c v = Asks a.kinds a.cells a.values p c (alternating_of v)

-- entry p asks to write 0, or what an earlier entry asks for that cell
abbrev AgainAt : Arrays → ℕ → Type 0
AgainAt a p = Again a.kinds a.cells a.values p

never : (P : Type 0) → (P → ⊥) → Decides P false
never P n = record { yes = λ e. absurd (true≢false (sym e)); no = λ e. n }

-- what the arrays show of the entries before n, the last first
abbrev EarlierShow : Arrays → ℕ → List Entry → Type 0
EarlierShow a n [] = n ≡ 0
EarlierShow a n (e ∷ es) = (m : ℕ) × (n ≡ m + 1) × Shows a m e × EarlierShow a m es

says_asks : (a : Arrays) (p c : ℕ) (v : ℤ) (e : Entry) → Shows a p e → Decides (AsksAt a p c v) (asks_for c v e)
unfolding asks_for
says_asks a p c v (ReadAsked client cell) s = never (AsksAt a p c v) (λ k. s k.write)
says_asks a p c v (Told client w) s = never (AsksAt a p c v) (λ k. s k.write)
says_asks a p c v (Done client) s = never (AsksAt a p c v) (λ k. s k.write)
says_asks a p c v (WriteAsked client cell w) s = go (eqb cell.0 c) refl (eqb (alternating_of w) (alternating_of v)) refl
  where
    go : (x : Bool) → eqb cell.0 c ≡ x → (y : Bool) → eqb (alternating_of w) (alternating_of v) ≡ y → Decides (AsksAt a p c v) (x && y)
    go true d true e = record {
      yes = λ t. record { write = s.write; cell = s.cell ∙ eqb-true cell.0 c d; value = s.value ∙ eqb-true (alternating_of w) (alternating_of v) e };
      no = λ t. absurd (true≢false t);
    }
    go true d false e = never (AsksAt a p c v) (λ k. eqb-false (alternating_of w) (alternating_of v) e (sym s.value ∙ k.value))
    go false d y e = never (AsksAt a p c v) (λ k. eqb-false cell.0 c d (sym s.cell ∙ k.cell))

-- an earlier entry asks it
abbrev AskedBefore : Arrays → ℕ → ℕ → ℤ → Type 0
AskedBefore a n c v = (q : ℕ) × ((q < n) × AsksAt a q c v)

says_among : (a : Arrays) (n c : ℕ) (v : ℤ) (es : List Entry) → EarlierShow a n es → Decides (AskedBefore a n c v) (asked_among c v es)
unfolding asked_among
says_among a n c v [] s = never (AskedBefore a n c v) (λ k. omega (arith, k.1.0, s))
says_among a n c v (e ∷ es) (m, l, h, r) = go (asks_for c v e) (says_asks a m c v e h) (asked_among c v es) (says_among a m c v es r)
  where
    go : (x : Bool) → Decides (AsksAt a m c v) x → (y : Bool) → Decides (AskedBefore a m c v) y → Decides (AskedBefore a n c v) (x || y)
    go true p y q = record { yes = λ t. (m, (omega arith, p.yes refl)); no = λ t. absurd (true≢false t) }
    go false p true q = record { yes = λ t. let b = q.yes refl in (b.0, (omega (arith, b.1.0), b.1.1)); no = λ t. absurd (true≢false t) }
    go false p false q = never (AskedBefore a n c v) (λ k. at k (ℕ_discrete k.0 m))
      where
        at : (k : AskedBefore a n c v) → Dec (k.0 ≡ m) → ⊥
        at k (yes e) = p.no refl (subst (λ (j : ℕ). AsksAt a j c v) e k.1.1)
        at k (no d) = q.no refl (k.0, (omega (arith, k.1.0, d, l), k.1.1))

says_repeats : (a : Arrays) (n : ℕ) (earlier : List Entry) (e : Entry) → EarlierShow a n earlier → Shows a n e → Decides (AgainAt a n) (repeats earlier e)
unfolding repeats
says_repeats a n earlier (ReadAsked client cell) r s = never (AgainAt a n) (λ k. s k.write)
says_repeats a n earlier (Told client v) r s = never (AgainAt a n) (λ k. s k.write)
says_repeats a n earlier (Done client) r s = never (AgainAt a n) (λ k. s k.write)
says_repeats a n earlier (WriteAsked client cell v) r s =
    go (eqb (alternating_of v) 0) refl (asked_among cell.0 v earlier) (says_among a n cell.0 v earlier r)
  where
    -- what is asked here is asked there
    here : (q : ℕ) → AsksAt a q cell.0 v → Asks a.kinds a.cells a.values q (cell_at a n) (value_at a n)
    here q k = record { write = k.write; cell = k.cell ∙ sym s.cell; value = k.value ∙ sym s.value }

    there : (q : ℕ) → Asks a.kinds a.cells a.values q (cell_at a n) (value_at a n) → AsksAt a q cell.0 v
    there q k = record { write = k.write; cell = k.cell ∙ s.cell; value = k.value ∙ s.value }

    go : (x : Bool) → eqb (alternating_of v) 0 ≡ x → (y : Bool) → Decides (AskedBefore a n cell.0 v) y → Decides (AgainAt a n) (x || y)
    go true d y p = record { yes = λ t. record { write = s.write; again = inl (s.value ∙ eqb-true (alternating_of v) 0 d) }; no = λ t. absurd (true≢false t) }
    go false d true p = record {
      yes = λ t. let b = p.yes refl in record { write = s.write; again = inr (b.0, (b.1.0, here b.0 b.1.1)) };
      no = λ t. absurd (true≢false t);
    }
    go false d false p = never (AgainAt a n) (λ k. ⊎_elim
        (λ z. eqb-false (alternating_of v) 0 d (sym s.value ∙ z))
        (λ b. p.no refl (b.0, (b.1.0, there b.0 b.1.1))) k.again)

-- none asks again: nothing is refused
distinct_from_lem : (a : Arrays) (n : ℕ) (earlier es : List Entry) (whole : Held) → EarlierShow a n earlier → AllShow a n es → Fresh a (n + length es)
    → distinct_from earlier n es whole ≡ whole
unfolding distinct_from
distinct_from_lem a n earlier [] whole r s f = refl
distinct_from_lem a n earlier (e ∷ es) whole r s f =
    go (repeats earlier e) (says_repeats a n earlier e r s.0)
    (distinct_from_lem a (n + 1) (e ∷ earlier) es whole (n, refl, s.0, r) s.1 (λ p l. f p (omega arith)))
  where
    go : (t : Bool) → Decides (AgainAt a n) t → distinct_from (e ∷ earlier) (n + 1) es whole ≡ whole → cond t (fault AskedAgain n) (distinct_from (e ∷ earlier) (n + 1) es whole) ≡ whole
    go true p i = absurd (f n (omega arith) (p.yes refl))
    go false p i = i

-- the first that asks again is named
named_from : (a : Arrays) (n : ℕ) (earlier es : List Entry) (whole : Held) (p : ℕ) → EarlierShow a n earlier → AllShow a n es → n ≤ p → p < n + length es → AgainAt a p → Fresh a p
    → distinct_from earlier n es whole ≡ fault AskedAgain p
unfolding distinct_from
named_from a n earlier [] whole p r s l m k f = absurd (omega arith)
named_from a n earlier (e ∷ es) whole p r s l m k f =
    go (repeats earlier e) (says_repeats a n earlier e r s.0)
    (λ d. named_from a (n + 1) (e ∷ earlier) es whole p (n, refl, s.0, r) s.1 (omega (arith, d)) (omega arith) k f)
  where
    go : (t : Bool) → Decides (AgainAt a n) t → (n ≢ p → distinct_from (e ∷ earlier) (n + 1) es whole ≡ fault AskedAgain p)
        → cond t (fault AskedAgain n) (distinct_from (e ∷ earlier) (n + 1) es whole) ≡ fault AskedAgain p
    go true q i = ap (fault AskedAgain) (elim (ℕ_discrete n p) [ yes d ↦ d | no d ↦ absurd (f n (omega (arith, d)) (q.yes refl)) ])
    go false q i = i (λ d. q.no refl (subst (AgainAt a) (sym d) k))

pub distinct_none : (a : Arrays) (es : List Entry) → AllShow a 0 es → Fresh a (length es) → distinct (entries es) ≡ entries es
unfolding distinct
distinct_none a es s f = distinct_from_lem a 0 [] es (entries es) refl s (λ p l. f p (omega arith))

pub distinct_named : (a : Arrays) (es : List Entry) (p : ℕ) → AllShow a 0 es → p < length es → AgainAt a p → Fresh a p → distinct (entries es) ≡ fault AskedAgain p
unfolding distinct
distinct_named a es p s l k f = named_from a 0 [] es (entries es) p refl s (omega arith) (omega arith) k f
