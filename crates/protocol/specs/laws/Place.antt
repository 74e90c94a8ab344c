-- A function changed at one place. What holds of the new at that place and of the old at all others holds of the changed function.
use Rattle.std.specs.Prelude.{◌≡◌, refl, ◌≢◌, Bool, true, false, cond, ℕ, eqb}
use Rattle.std.proofs.Common.{eqb-true, eq-eqb}
use Rattle.std.proofs.lemmas.Bool.{eqb-false}
use Rattle.protocol.specs.Move.{put}

pub put_one : {A : Type 0} (P : ℕ → A → Type 0) (f : ℕ → A) (o : ℕ) (n : A) → P o n → ((i : ℕ) → i ≢ o → P i (f i)) → (i : ℕ) → P i (put f o n i)
put_one P f o n h g i = go (eqb i o) refl
  where
    go : (t : Bool) → eqb i o ≡ t → P i (cond t n (f i))
    go true e = rw (eqb-true i o e) h
    go false e = g i (eqb-false i o e)

pub put_two : {A : Type 0} (P : ℕ → A → ℕ → A → Type 0) (f : ℕ → A) (o : ℕ) (n : A)
    → P o n o n
    → ((j : ℕ) → j ≢ o → P o n j (f j))
    → ((i : ℕ) → i ≢ o → P i (f i) o n)
    → ((i j : ℕ) → i ≢ o → j ≢ o → P i (f i) j (f j))
    → (i j : ℕ) → P i (put f o n i) j (put f o n j)
put_two P f o n a b c d i j =
    put_one (λ i x. P i x j (put f o n j)) f o n (put_one (λ j y. P o n j y) f o n a b j) (λ k h. put_one (λ j y. P k (f k) j y) f o n (c k h) (λ l q. d k l h q) j) i

pub put_here : {A : Type 0} (f : ℕ → A) (o : ℕ) (n : A) → put f o n o ≡ n
put_here f o n = rw (eq-eqb o o refl) refl
