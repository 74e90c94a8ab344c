-- Each call has one outcome, and wrong answers are ruled out.
use Rattle.std.specs.Prelude.{ℕ, zero, suc, ◌+◌, ◌≤◌, ◌≡◌, refl, false, List, [], ◌∷◌, length}
use Rattle.std.proofs.Common.{ap, sym, ◌∙◌, arith, eq-eqb, ne_eqb}
use Rattle.record.specs.Entry.{client_limit, cell_limit}
use Rattle.rack.specs.declared.Rack.{Rack}
use Rattle.rack.specs.Places.{replica_limit}
use Rattle.rack.specs.Sound.{settings_fit, sound_of}
use Rattle.rack.specs.Run.{made_of, event_of, ran_of, turn, run_from, run_of}
use Rattle.rack.proofs.theorems.Table.{decided_unsound}
use Rattle.layout.specs.declared.WordsAnswer.{WordsAnswer}
use Rattle.layout.specs.Layout.{word_count}
use Rattle.layout.specs.Reading.{rack_of}
use Rattle.layout.specs.Calls.{answer_of, makes, made_outcome, leaves, run_outcome}

-- ---- one outcome

pub one_made : (x y z : ℕ) (ws : List ℕ) (a a' : WordsAnswer) (e e' : List ℕ) → (a ≡ (made_outcome x y z ws).answer) × (e ≡ (made_outcome x y z ws).lent)
    → (a' ≡ (made_outcome x y z ws).answer) × (e' ≡ (made_outcome x y z ws).lent) → (a ≡ a') × (e ≡ e')
one_made x y z ws a a' e e' p q = (p.0 ∙ sym q.0, p.1 ∙ sym q.1)

pub one_run : (ws : List ℕ) (n : ℕ) (es : List ℕ) (a a' : WordsAnswer) (e e' : List ℕ) → (a ≡ (run_outcome ws n es).answer) × (e ≡ (run_outcome ws n es).lent)
    → (a' ≡ (run_outcome ws n es).answer) × (e' ≡ (run_outcome ws n es).lent) → (a ≡ a') × (e ≡ e')
one_run ws n es a a' e e' p q = (p.0 ∙ sym q.0, p.1 ∙ sym q.1)

-- ---- wrong answers

-- the greatest sizes with a replica more are refused, and the greatest are not
pub not_made : (ws : List ℕ) (a : WordsAnswer) → length ws ≡ word_count → a ≡ (made_outcome (replica_limit + 1) client_limit cell_limit ws).answer → a.refusal ≡ 0 → ⊥
unfolding made_outcome makes made_of settings_fit
not_made ws a h p q = let e : a ≡ answer_of 0 1 = p ∙ rw (eq-eqb (length ws) word_count h) in let r = ap (λ (k : WordsAnswer). k.refusal) e in omega arith

pub not_refused : (ws : List ℕ) (a : WordsAnswer) → length ws ≡ word_count → a ≡ (made_outcome replica_limit client_limit cell_limit ws).answer → a.refusal ≡ 1 → ⊥
unfolding made_outcome makes made_of settings_fit
not_refused ws a h p q = let e : a ≡ answer_of 0 0 = p ∙ rw (eq-eqb (length ws) word_count h) in let r = ap (λ (k : WordsAnswer). k.refusal) e in omega arith

-- with other lengths nothing is done, and with allowance 0 nothing is refused
pub not_run : (ws : List ℕ) (n : ℕ) (es : List ℕ) (a : WordsAnswer) → (length ws ≡ word_count → ⊥) → a ≡ (run_outcome ws n es).answer → a.refusal ≡ 0 → ⊥
unfolding run_outcome
not_run ws n es a h p q = let e : a ≡ answer_of 0 20 = p ∙ rw (ne_eqb (length ws) word_count h) in let r = ap (λ (k : WordsAnswer). k.refusal) e in omega arith

pub not_stopped : (ws : List ℕ) (es : List ℕ) (a : WordsAnswer) → length ws ≡ word_count → a ≡ (run_outcome ws 0 es).answer → a.refusal ≡ 2 → ⊥
unfolding run_outcome leaves run_of run_from
not_stopped ws es a h p q = let e : a ≡ answer_of 0 0 = p ∙ rw (eq-eqb (length ws) word_count h) in let r = ap (λ (k : WordsAnswer). k.refusal) e in omega arith

unsound_run : (r : Rack) (n : ℕ) (es : List ℕ) → sound_of r ≡ false → (n ≡ 0 → ⊥) → 4 ≤ length es → run_of r n es ≡ ran_of 0 2 r
unfolding run_of run_from turn
unsound_run r zero es s l k = absurd (l refl)
unsound_run r (suc n) [] s l k = absurd (omega arith)
unsound_run r (suc n) (a ∷ []) s l k = absurd (omega arith)
unsound_run r (suc n) (a ∷ b ∷ []) s l k = absurd (omega arith)
unsound_run r (suc n) (a ∷ b ∷ c ∷ []) s l k = absurd (omega arith)
unsound_run r (suc n) (a ∷ b ∷ c ∷ d ∷ es) s l k = rw (decided_unsound r (event_of a b c d) s)

-- words of an unsound rack are refused 2 as soon as an event is tried, and stay as they were
pub unsound_stays : (ws : List ℕ) (n : ℕ) (es : List ℕ) → length ws ≡ word_count → sound_of (rack_of ws) ≡ false → (n ≡ 0 → ⊥) → 4 ≤ length es
    → ((run_outcome ws n es).answer ≡ answer_of 0 2) × ((run_outcome ws n es).lent ≡ ws)
unfolding run_outcome leaves
unsound_stays ws n es h s l k =
    let e = eq-eqb (length ws) word_count h in
    let q = unsound_run (rack_of ws) n es s l k in
    (rw (e, q), rw (e, q))
