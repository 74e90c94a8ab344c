-- Moves that change one operation, one after the other.
use Rattle.std.specs.Prelude.{ℕ, ◌≡◌, refl, ◌≢◌}
use Rattle.std.proofs.Common.{◌∙◌, subst}
use Rattle.method.specs.declared.Body.{Body}
use Rattle.protocol.specs.View.{Setting, Op, View}
use Rattle.protocol.specs.Move.{Move, Legal, changed, after, Reached, then}
use Rattle.protocol.specs.laws.Place.{put_one, put_here}
use Rattle.protocol.specs.Later.{Later}
use Rattle.protocol.proofs.theorems.Steps.{step}
use Rattle.protocol.proofs.theorems.Atomic.{reached_keeps}
use Rattle.promise.specs.Tie.{Means}
use Rattle.promise.specs.laws.Wire.{means_stays}

-- legal moves lead from v to w: operation o is then x, the time t, and all else is as it was
pub record Moved (S : Setting) (v w : View) (o : ℕ) (x : Op) (t : ℕ) : Type 0 where
  pub reached : Reached S w
  pub stays : (i k y : ℕ) (b : Body) → Means S v i k y b → Means S w i k y b
  pub here : w.ops o ≡ x
  pub other : (i : ℕ) → i ≢ o → w.ops i ≡ v.ops i
  pub pair : (k y : ℕ) → w.pair k y ≡ v.pair k y
  pub now : w.now ≡ t

module _ (S : Setting) (v : View) (h : Reached S v) where
  -- one move, that makes n of operation o, which is x
  pub moved : (m : Move) → Legal S v m → (o : ℕ) (n x : Op) (t : ℕ) → after S v m ≡ changed v o n t → n ≡ x → Moved S v (changed v o n t) o x t
  moved m l o n x t e q =
      record {
        reached = subst (Reached S) e (then h m l);
        stays = means_stays S v (changed v o n t) (reached_keeps S h) (subst (Later v) e (step S v (reached_keeps S h) m l).later);
        here = put_here v.ops o n ∙ q;
        other = put_one (λ i y. i ≢ o → y ≡ v.ops i) v.ops o n (λ d. absurd (d refl)) (λ i d z. refl);
        pair = λ k y. refl;
        now = refl;
      }

-- and another
pub moved_on : (S : Setting) (u v w : View) (o : ℕ) (x y : Op) (s t : ℕ) → Moved S u v o x s → Moved S v w o y t → Moved S u w o y t
moved_on S u v w o x y s t a b =
    record {
      reached = b.reached;
      stays = λ i k z c m. b.stays i k z c (a.stays i k z c m);
      here = b.here;
      other = λ i d. b.other i d ∙ a.other i d;
      pair = λ k z. b.pair k z ∙ a.pair k z;
      now = b.now;
    }
