-- Operations only grow and stamps only rise: from this alone, what is said of them stays true.
use Rattle.std.specs.Prelude.{◌≡◌, refl, ◌⊎◌, ℕ, ◌≤◌, ◌<◌}
use Rattle.std.proofs.Common.{sym, ap, ◌∙◌, inl, inr, arith}
use Rattle.protocol.specs.View.{Pair, Call, Op, Before, Wrote, Minted}
use Rattle.protocol.specs.Move.{put}
use Rattle.protocol.specs.laws.Place.{put_one}
use Rattle.protocol.specs.Later.{Grown, Grows}

pub grown_same : (t : ℕ) (a : Op) → Grown t a a
grown_same t a = record { phase = omega arith; call = λ h. refl; held = λ h. refl; stop = λ h. refl; set = λ h. refl; ends = λ h. inl h }

-- an operation that hasn't ended may change thus
pub grown_open : (t : ℕ) (a b : Op) → a.phase < 3 → a.phase ≤ b.phase → (1 ≤ a.phase → a.call ≡ b.call) → (2 ≤ a.phase → a.held ≡ b.held)
    → (3 ≤ b.phase → t ≤ b.stop) → Grown t a b
grown_open t a b p le call held stop =
    record {
      phase = le;
      call = call;
      held = held;
      stop = λ h. absurd (omega arith);
      set = λ h. absurd (omega arith);
      ends = λ h. inr (stop h);
    }

pub grows_put : (t : ℕ) (f : ℕ → Op) (o : ℕ) (n : Op) → Grown t (f o) n → Grows t f (put f o n)
grows_put t f o n g = put_one (λ i x. Grown t (f i) x) f o n g (λ i h. grown_same t (f i))

-- ---- what stays

module _ {t : ℕ} {a b : Op} (g : Grown t a b) where
  pub same_cell : 1 ≤ a.phase → a.call.cell ≡ b.call.cell
  same_cell p = ap (λ (k : Call). k.cell) (g.call p)

  pub same_start : 1 ≤ a.phase → a.call.start ≡ b.call.start
  same_start p = ap (λ (k : Call). k.start) (g.call p)

  pub same_client : 1 ≤ a.phase → a.call.client ≡ b.call.client
  same_client p = ap (λ (k : Call). k.client) (g.call p)

  pub same_write : 1 ≤ a.phase → a.call.write ≡ b.call.write
  same_write p = ap (λ (k : Call). k.write) (g.call p)

  pub same_stamp : 2 ≤ a.phase → a.held.stamp ≡ b.held.stamp
  same_stamp p = ap (λ (k : Pair). k.stamp) (g.held p)

  wrote_grown : (c : ℕ) (p : Pair) → Wrote c p a → Wrote c p b
  wrote_grown c p h =
      let k : 1 ≤ a.phase = omega (arith, h.chosen) in
      record {
        write = sym (same_write k) ∙ h.write;
        chosen = omega (arith, h.chosen, g.phase);
        cell = sym (same_cell k) ∙ h.cell;
        held = sym (g.held h.chosen) ∙ h.held;
      }

  -- what b ended before, if it began in the past, a had ended before already
  pub ended_before : (x : Op) → x.call.start < t → Before b x → Before a x
  ended_before x s e = go (g.ends e.0)
    where
      go : (3 ≤ a.phase) ⊎ (t ≤ b.stop) → Before a x
      go (inl p) = (p, omega (arith, g.stop p, e.1))
      go (inr p) = absurd (omega (arith, e.1))

pub minted_grows : {t : ℕ} {f g : ℕ → Op} → Grows t f g → (c : ℕ) (p : Pair) → Minted f c p → Minted g c p
minted_grows k c p (inl h) = inl h
minted_grows k c p (inr (i, h)) = inr (i, wrote_grown (k i) c p h)
