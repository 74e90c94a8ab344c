-- The clients while one operation changes: what each is at stays so, and the operation's own client goes on.
use Rattle.std.specs.Prelude.{ℕ, ◌≤◌, ◌≡◌, refl, ◌≢◌, None, Some, Option}
use Rattle.std.proofs.Common.{sym, ap, ◌∙◌, arith}
use Rattle.std.proofs.Math.Decide.{ℕ_discrete}
use Rattle.method.specs.declared.Phase.{Phase}
use Rattle.method.specs.declared.Phase.TheVariants.{Asking, Keeping}
use Rattle.method.specs.declared.Operation.{Operation}
use Rattle.protocol.specs.View.{Op}
use Rattle.promise.specs.Tie.{Past, Stands, At, open_phase, open_at}

-- what is open is its client's, and has begun
open_client : (ph : Phase) (o c : ℕ) (x : Operation) → (open_phase ph o c x).call.client ≡ c
open_client (Asking held) o c x = refl
open_client (Keeping held) o c x = refl

open_begun : (ph : Phase) (o c : ℕ) (x : Operation) → 1 ≤ (open_phase ph o c x).phase
open_begun (Asking held) o c x = omega arith
open_begun (Keeping held) o c x = omega arith

-- operation o changes, and no other
module _ (f g : ℕ → Op) (o : ℕ) (other : (i : ℕ) → i ≢ o → g i ≡ f i) where
  past_else : (c i : ℕ) → i ≢ o → Past f c i → Past g c i
  past_else c i d h = rw (other i d) h

  -- it is client c's: another client d
  module _ (c d : ℕ) (new : (g o).call.client ≡ c) (old : 1 ≤ (f o).phase → (f o).call.client ≡ c) (differ : d ≢ c) where
    past_other : (i : ℕ) → Dec (i ≡ o) → Past f d i → Past g d i
    past_other i (yes q) h = λ e p. absurd (differ (sym e ∙ (ap (λ (k : ℕ). (g k).call.client) q ∙ new)))
    past_other i (no q) h = past_else d i q h

    stands_other : (u : ℕ) (x : Op) → x.call.client ≡ d → 1 ≤ x.phase → Stands f d u x → Stands g d u x
    stands_other u x e p (q, h) = (other u away ∙ q, λ i n. past_other i (ℕ_discrete i o) (h i n))
      where
        away : u ≢ o
        away z =
            let here : f o ≡ x = ap f (sym z) ∙ q in
            let begun : 1 ≤ (f o).phase = rw here p in
            differ (sym e ∙ (ap (λ (y : Op). y.call.client) (sym here) ∙ old begun))

    pub at_other : (u : ℕ) (w : Option Operation) → At f d u w → At g d u w
    at_other u None h = λ i. past_other i (ℕ_discrete i o) (h i)
    at_other u (Some x) h = stands_other u (open_at u d x) (open_client x.phase u d x) (open_begun x.phase u d x) h

  -- the client whose operation it is
  pub stands_on : (c : ℕ) (x : Op) → g o ≡ x → ((i : ℕ) → i ≢ o → Past f c i) → Stands g c o x
  stands_on c x e h = (e, λ i d. past_else c i d (h i d))

  -- it has ended: the client is idle
  pub idle_now : (c : ℕ) → 3 ≤ (g o).phase → ((i : ℕ) → i ≢ o → Past f c i) → (i : ℕ) → Past g c i
  idle_now c p h i = go (ℕ_discrete i o)
    where
      go : Dec (i ≡ o) → Past g c i
      go (yes q) = λ e z. rw q p
      go (no q) = past_else c i q (h i q)
