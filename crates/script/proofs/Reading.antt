-- What reading gives: a number, or its refusal and the place where it begins, which is passed up as it is.
use Rattle.std.specs.Prelude.{ℕ, ◌≡◌, List, Result, Ok, Err, MatchResult, IsErrAnd}
use Rattle.std.proofs.Common.{sym, ap, ◌∙◌}
use Rattle.std.proofs.lemmas.Result.{err_from_is_err_and}
use Rattle.number.specs.Number.{Number, number_at, and_then}
use Rattle.refusal.specs.declared.Refusal.{Refusal}
use Rattle.script.specs.Script.{reading}

pub with_place : {Q : Refusal → Refusal × ℕ → Type 0} (s : List ℕ) (at : ℕ) (m : Number) (r : Result (ℕ × ℕ) (Refusal × ℕ)) → m ≡ number_at s at
    → ((k : Refusal) (e : Refusal × ℕ) → Q k e → e ≡ (k, at)) → MatchResult m (λ x. r ≡ Ok x) (λ k. IsErrAnd r (Q k)) → r ≡ reading {A = ℕ × ℕ} s at (λ n next. Ok (n, next))
unfolding and_then
with_place {Q} s at m r e h p = rw (sym e) (by m p)
  where
    by : (m : Number) → MatchResult m (λ x. r ≡ Ok x) (λ k. IsErrAnd r (Q k)) → r ≡ and_then (λ k. Err (k, at)) m (λ n next. Ok (n, next))
    by (Ok (n, next)) q = q
    by (Err k) q = let x = err_from_is_err_and r q in x.1 ∙ ap Err (h k x.0 x.2)

pub passed_up : {A : Type 0} {r w : Result A (Refusal × ℕ)} {e : Refusal × ℕ} → IsErrAnd r (λ x. x ≡ e) → w ≡ Err e → r ≡ w
passed_up {A} {r} {w} {e} q h = let x = err_from_is_err_and r q in x.1 ∙ ap Err x.2 ∙ sym h
