-- Words that are no state at all give an unsound rack. Said the other way round: the words of a sound rack are a state in each part.
use Rattle.std.specs.Prelude.{ℕ, ◌+◌, ◌≤◌, ◌<◌, ◌≡◌, Bool, ◌||◌, List, eqb}
use Rattle.std.proofs.Math.Path.{refl, ap}
use Rattle.std.proofs.Common.{sym, ◌∙◌}
use Rattle.std.proofs.Math.Bool.{true, false, cond, not}
use native.Mathlib.Omega.{arith}
use Rattle.std.proofs.Math.Dec.{ltb}
use borrow.Author.Tests.{le-ltb, ltb-true, ltb-false}
use Rattle.record.specs.Entry.{client_limit, cell_limit}
use Rattle.record.specs.Record.{entry_limit}
use Rattle.method.specs.declared.Party.{Party}
use Rattle.rack.specs.declared.Settings.{Settings}
use Rattle.rack.specs.declared.Slot.{Slot}
use Rattle.rack.specs.Places.{slot_limit, replica_limit, empty, idle, party_at, held_at}
use Rattle.rack.specs.Sound.{all_below, held_fits, message_fits, operation_fits, work_fits, owed, sound_of}
use Rattle.rack.specs.laws.SoundLaws.{Sound, sound_of_lem}
use Rattle.method.specs.laws.Tests.{never}
use Rattle.rack.specs.laws.Tests.{all_at}
use Rattle.layout.specs.Layout.{party_place, slot_place, entry_place, stray_number, power_limit, word}
use Rattle.layout.specs.Reading.{byte_of, party_in, message_known, held_of, slot_in, line_known, entry_count, count_in, settings_in, rack_of}
use Rattle.layout.specs.laws.Firsts.{firsts_at}
use Rattle.layout.specs.State.{State, party_known_at, slot_known_at}

-- ---- what is not known doesn't fit

stray_party_lem : (z : Settings) (ws : List ℕ) (at : ℕ) → z.cells ≤ cell_limit → party_known_at ws at ≡ false → work_fits z (party_in ws at).work ≡ false
unfolding party_in work_fits operation_fits
stray_party_lem z ws at h e = rw (e, le-ltb stray_number z.cells (omega arith))

stray_slot : (z : Settings) (ws : List ℕ) (at : ℕ) → z.clients ≤ client_limit → slot_known_at ws at ≡ false → held_fits z (held_of ws at) ≡ false
unfolding held_of held_fits message_fits
stray_slot z ws at h e = go (eqb (word ws at) 0) refl (message_known (word ws at) (word ws (at + 1)) (word ws (at + 5))) refl
  where
    go : (t : Bool) → eqb (word ws at) 0 ≡ t → (k : Bool) → message_known (word ws at) (word ws (at + 1)) (word ws (at + 5)) ≡ k → held_fits z (held_of ws at) ≡ false
    go true p k q = never (sym e ∙ rw p)
    go false p true q = never (sym e ∙ rw (p, q))
    go false p false q = rw (p, q, le-ltb stray_number z.clients (omega arith))

-- ---- so what is sound is known

module _ (ws : List ℕ) (s : sound_of (rack_of ws) ≡ true) where
  sound : Sound (rack_of ws)
  sound = sound_of_lem (rack_of ws) s

  known_power : word ws 3 < power_limit
  unfolding rack_of settings_in
  known_power = go (ltb (word ws 3) power_limit) refl sound.settings.replicas
    where
      go : (t : Bool) → ltb (word ws 3) power_limit ≡ t → cond t (byte_of (word ws 0)) stray_number ≤ replica_limit → word ws 3 < power_limit
      go true e h = ltb-true (word ws 3) power_limit e
      go false e h = absurd (omega arith)

  known_party : (i : ℕ) → i < (rack_of ws).settings.clients → party_known_at ws (party_place i) ≡ true
  unfolding rack_of
  known_party i h = go (party_known_at ws (party_place i)) refl
    where
      go : (t : Bool) → party_known_at ws (party_place i) ≡ t → party_known_at ws (party_place i) ≡ true
      go true e = e
      go false e =
          let p : party_at (rack_of ws) i ≡ party_in ws (party_place i) = firsts_at client_limit i (λ j. party_in ws (party_place j)) idle (omega (arith, sound.settings.clients)) in
          never (sym (stray_party_lem (rack_of ws).settings ws (party_place i) sound.settings.cells e) ∙ ap (λ (q : Party). work_fits (rack_of ws).settings q.work) (sym p)
          ∙ sound.parties i h)

  known_slot : (i : ℕ) → i < slot_limit → slot_known_at ws (slot_place i) ≡ true
  unfolding rack_of slot_in
  known_slot i h = go (slot_known_at ws (slot_place i)) refl
    where
      go : (t : Bool) → slot_known_at ws (slot_place i) ≡ t → slot_known_at ws (slot_place i) ≡ true
      go true e = e
      go false e =
          let p : held_at (rack_of ws) i ≡ held_of ws (slot_place i) = ap (λ (q : Slot). q.held) (firsts_at slot_limit i (λ j. slot_in ws (slot_place j)) empty h) in
          never (sym (stray_slot (rack_of ws).settings ws (slot_place i) sound.settings.clients e) ∙ ap (held_fits (rack_of ws).settings) (sym p) ∙ sound.slots i h)

  few : count_in ws ≤ entry_limit
  unfolding rack_of
  few = let h : count_in ws + owed (rack_of ws) ≤ entry_limit = sound.entries in omega arith

  known_count : (word ws 4 ≤ entry_limit) × ((i : ℕ) → i < word ws 4 → line_known ws (entry_place i) ≡ true)
  unfolding count_in entry_count
  known_count = go (ltb entry_limit (word ws 4)) refl (all_below (entry_count ws) (λ i. line_known ws (entry_place i))) refl few
    where
      go : (a : Bool) → ltb entry_limit (word ws 4) ≡ a → (b : Bool) → all_below (entry_count ws) (λ i. line_known ws (entry_place i)) ≡ b
          → cond (a || not b) (entry_limit + 1) (word ws 4) ≤ entry_limit → (word ws 4 ≤ entry_limit) × ((i : ℕ) → i < word ws 4 → line_known ws (entry_place i) ≡ true)
      go true e b f h = absurd (omega arith)
      go false e false f h = absurd (omega arith)
      go false e true f h =
          let m = ltb-false entry_limit (word ws 4) e in
          (omega (arith, m), λ i l. all_at (entry_count ws) (λ j. line_known ws (entry_place j)) f i (omega (arith, m)))

  pub state_of : State ws
  state_of = record { power = known_power; count = known_count.0; entries = known_count.1; parties = known_party; slots = known_slot }
