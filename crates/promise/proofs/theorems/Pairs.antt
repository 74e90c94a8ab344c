-- The method's choices between pairs are those of the view.
use Rattle.std.specs.Prelude.{ℕ, ◌≡◌, refl, ◌≢◌, Bool, true, false, cond, ◌||◌, ℤ, None, Some, Option}
use Rattle.std.proofs.Common.{sym, ◌∙◌, ap, eq-eqb, ne_eqb}
use Rattle.record.specs.declared.Cell.{Cell}
use Rattle.quorum.specs.declared.Quorums.{Quorums}
use Rattle.stamps.specs.declared.Pair.{Pair}
use Rattle.stamps.specs.Stamp.{stamp_less, raised}
use Rattle.stamps.specs.StampOrder.{Ranked, stamp_of}
use Rattle.stamps.specs.laws.StampOrderLaws.{stamp_order}
use Rattle.method.specs.laws.Tests.{whichever}
use Rattle.method.specs.declared.Goal.{Goal}
use Rattle.method.specs.declared.Goal.TheVariants.{Read, Write}
use Rattle.protocol.specs.View.{Pair as Seen}
use Rattle.protocol.specs.Move.{newer, held_of, chosen_of, newer_of}
use Rattle.promise.specs.Setting.{setting_of}
use Rattle.promise.proofs.theorems.SettingLaws.{next_stamp}
use Rattle.method.specs.Holding.{holds}
use Rattle.method.specs.Method.{Written, Chosen}
use Rattle.promise.specs.Tie.{pair_of, held_in, open_with}

-- a stamp is greater where the view's is
newer_is : (own given : Pair) → Ranked own.stamp → Ranked given.stamp → (t : Bool) → stamp_less own.stamp given.stamp ≡ t
    → newer (pair_of own) (pair_of given) ≡ t
newer_is own given ho hg t e = sym (stamp_order own.stamp given.stamp ho hg) ∙ e

pub raised_seen : (own given after : Pair) → Ranked own.stamp → Ranked given.stamp → after ≡ raised own given
    → newer_of (pair_of own) (pair_of given) ≡ pair_of after
unfolding raised
raised_seen own given after ho hg q = go (stamp_less own.stamp given.stamp) refl q
  where
    go : (t : Bool) → stamp_less own.stamp given.stamp ≡ t → after ≡ cond t given own → newer_of (pair_of own) (pair_of given) ≡ pair_of after
    go true e q = rw (newer_is own given ho hg true e, q)
    go false e q = rw (newer_is own given ho hg false e, q)

-- what is held in the ask phase: nothing with an empty set, and else a pair whose rank is a client's
abbrev pub HeldRanked : ℕ → Option Pair → Type 0
HeldRanked set None = set ≡ 0
HeldRanked set (Some p) = (set ≢ 0) × Ranked p.stamp

-- what an asking operation holds after a tell
pub holds_seen : (o c : ℕ) (cell : Cell) (goal : Goal) (set : ℕ) (held : Option Pair) (told : Pair) → HeldRanked set held → Ranked told.stamp
    → held_of (open_with 1 o c cell goal set (held_in held)) (pair_of told) ≡ pair_of (holds held told)
unfolding holds
holds_seen o c cell goal set None told h ht = rw (eq-eqb set 0 h)
holds_seen o c cell goal set (Some p) told h ht =
    ap (λ (t : Bool). cond (t || newer (pair_of p) (pair_of told)) (pair_of told) (pair_of p)) (ne_eqb set 0 h.0)
    ∙ raised_seen p told (raised p told) h.1 ht refl

-- its rank is one of theirs
raised_rank : (own given after : Pair) → Ranked own.stamp → Ranked given.stamp → after ≡ raised own given → Ranked after.stamp
unfolding raised
raised_rank own given after ho hg q = rw q (whichever (λ (p : Pair). Ranked p.stamp) (stamp_less own.stamp given.stamp) given own hg ho)

pub holds_rank : (set : ℕ) (held : Option Pair) (told : Pair) → HeldRanked set held → Ranked told.stamp → Ranked (holds held told).stamp
unfolding holds
holds_rank set None told h ht = ht
holds_rank set (Some p) told h ht = raised_rank p told (raised p told) h.1 ht refl

-- what it chooses
written_seen : (q : Quorums) (c : ℕ) (v : ℤ) (held chosen : Pair) → Ranked held.stamp → Written c v held chosen
    → ◌≡◌ {A = Seen} (record { stamp = (setting_of q).next (stamp_of held.stamp) c; value = v }) (pair_of chosen)
written_seen q c v held chosen h w =
    ap (λ (s : ℕ). record { stamp = s; value = v }) (next_stamp q c held.stamp chosen.stamp h w.stamp)
    ∙ ap (λ (y : ℤ). record { stamp = stamp_of chosen.stamp; value = y }) (sym w.value)

pub chosen_seen : (q : Quorums) (o c : ℕ) (cell : Cell) (goal : Goal) (set : ℕ) (held chosen : Pair) → Ranked held.stamp → Chosen goal c held chosen
    → chosen_of (setting_of q) (open_with 1 o c cell goal set (pair_of held)) ≡ pair_of chosen
chosen_seen q o c cell Read set held chosen h e = ap pair_of (sym e)
chosen_seen q o c cell (Write v) set held chosen h w = written_seen q c v held chosen h w
