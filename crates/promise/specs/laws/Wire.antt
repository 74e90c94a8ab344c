-- The wire: what is true of its messages stays true, and what is sent is true.
use Rattle.std.specs.Prelude.{ℕ, ◌≡◌, refl, ◌≢◌, ◌⊎◌, Bool, set}
use Rattle.std.proofs.Common.{sym, ◌∙◌, inl, inr, arith}
use Rattle.std.proofs.Math.Bool.{true, false}
use mathlib.Core.List.Memᴰ.{cases_cons as mem_cons}
use mathlib.Core.List.Memᴰ.{head as here}
use mathlib.Core.List.Memᴰ.{not-nil as no_mem}
use mathlib.Core.List.Memᴰ.{tail as there}
use mathlib.Core.List.{List, [], ◌∷◌}
use Rattle.law.specs.Order.{In}
use Rattle.slots.specs.Free.{first_free}
use Rattle.method.specs.declared.Body.{Body}
use Rattle.method.specs.declared.Body.TheVariants.{Ask, Tell, Keep, Kept}
use Rattle.method.specs.declared.Message.{Message}
use Rattle.rack.specs.declared.Slot.{Slot}
use Rattle.method.specs.Plan.{message_of}
use Rattle.rack.specs.Places.{empty, full, held_in, free_at, sent_of}
use Rattle.rack.specs.Run.{addressed, cleared}
use Rattle.runs.specs.laws.Stays.{set_either}
use Rattle.protocol.specs.View.{Setting, View}
use Rattle.protocol.specs.Move.{put}
use Rattle.protocol.specs.Invariant.{Invariant}
use Rattle.protocol.specs.laws.Place.{put_one, put_here}
use Rattle.protocol.specs.Later.{Later}
use Rattle.protocol.specs.laws.Growth.{same_cell}
use Rattle.protocol.proofs.theorems.Stays.{tell_stays, keep_stays, kept_stays}
use Rattle.promise.specs.Tie.{pair_of, Means, Holding}

-- ---- true messages stay true

pub means_stays : (S : Setting) (v w : View) → Invariant S v → Later v w → (o k x : ℕ) (b : Body) → Means S v o k x b → Means S w o k x b
means_stays S v w h g o k x Ask (p, e) = (omega (arith, (g.ops o).phase), sym (same_cell (g.ops o) p) ∙ e)
means_stays S v w h g o k x (Tell p) m = tell_stays v w g S h o k (pair_of p) m
means_stays S v w h g o k x (Keep p) m = keep_stays v w g o x (pair_of p) m
means_stays S v w h g o k x Kept m = kept_stays v w g o k m

-- ---- slots

-- what holds of every message on a wire holds after an event: of what stayed, and of what was sent
module _ (P : Message → Type 0) where
  -- P holds of every message on the wire
  abbrev All : List Slot → Type 0
  All w = (i : ℕ) → Holding P (held_in w i)

  set_all : (w : List Slot) (j : ℕ) (s : Slot) → Holding P s.held → All w → All (set w j s)
  set_all w j s h a i = set_either (λ (x : Slot). Holding P x.held) w j s empty i h (a i)

  pub cleared_all : (b : Bool) (j : ℕ) (w : List Slot) → All w → All (cleared b j w)
  unfolding cleared
  cleared_all true j w a = set_all w j empty tt a
  cleared_all false j w a = a

  pub sent_all : (ms : List Message) (w : List Slot) → ((m : Message) → In m ms → P m) → All w → All (sent_of w ms)
  unfolding sent_of
  sent_all [] w h a = a
  sent_all (m ∷ ms) w h a = sent_all ms (set w (first_free (free_at w)) (full m)) (λ n i. h n (there i)) (set_all w (first_free (free_at w)) (full m) (h m (here refl)) a)

-- a message that was addressed is the one sent, to a replica of the list
pub addressed_of : (m : Message) (ks : List ℕ) (n : Message) → In n (addressed m ks)
    → (k : ℕ) × (In k ks × (n ≡ message_of m.client (record { 0 = k }) m.cell m.op m.body))
unfolding addressed
addressed_of m [] n i = absurd (no_mem i)
addressed_of m (k ∷ ks) n i = go (mem_cons i) (addressed_of m ks n)
  where
    one : ℕ → Message
    one j = message_of m.client (record { 0 = j }) m.cell m.op m.body

    go : (n ≡ one k) ⊎ In n (addressed m ks) → (In n (addressed m ks) → (j : ℕ) × (In j ks × (n ≡ one j))) → (j : ℕ) × (In j (k ∷ ks) × (n ≡ one j))
    go (inl e) ih = (k, (here refl, e))
    go (inr l) ih = let w = ih l in (w.0, (there w.1.0, w.1.1))

-- ---- names

-- client c's operation number k is operation o
abbrev pub named : (ℕ → ℕ → ℕ) → ℕ → ℕ → ℕ → ℕ → ℕ → ℕ
named name c k o = put name c (put (name c) k o)

pub named_here : (name : ℕ → ℕ → ℕ) (c k o : ℕ) → named name c k o c k ≡ o
named_here name c k o = rw (put_here name c (put (name c) k o)) (put_here (name c) k o)

-- all other names stay
pub named_else : (name : ℕ → ℕ → ℕ) (c k o d j : ℕ) → (d ≡ c → j ≢ k) → named name c k o d j ≡ name d j
named_else name c k o d j h =
    put_one (λ e f. (e ≡ c → j ≢ k) → f j ≡ name e j) name c (put (name c) k o)
    (λ q. put_one (λ i x. i ≢ k → x ≡ name c i) (name c) k o (λ z. absurd (z refl)) (λ i a z. refl) j (q refl))
    (λ e a q. refl) d h
