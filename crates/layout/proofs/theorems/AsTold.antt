-- A client that asks holds a pair exactly when somebody has told. So does every client that is read from words, and every client of a sound rack.
use Rattle.std.specs.Prelude.{ℕ, ◌+◌, ◌≡◌, refl, Bool, true, false, cond, List, ltb, eqb, None, Some, Option}
use Rattle.std.proofs.Common.{arith, eqb-true, ltb-true, ltb-false}
use Rattle.std.proofs.Math.ListN.{get_or-eq_default}
use Rattle.std.proofs.lemmas.Bool.{eqb-false}
use Rattle.method.specs.declared.Operation.{Operation}
use Rattle.record.specs.Entry.{client_limit}
use Rattle.stamps.specs.declared.Pair.{Pair}
use Rattle.method.specs.declared.Phase.{Phase}
use Rattle.method.specs.declared.Phase.TheVariants.{Asking, Keeping}
use Rattle.method.specs.declared.Party.{Party}
use Rattle.rack.specs.declared.Settings.{Settings}
use Rattle.rack.specs.Places.{idle, party_at}
use Rattle.rack.specs.Sound.{work_fits}
use Rattle.rack.specs.laws.SoundLaws.{PhaseFits, opened}
use Rattle.layout.specs.Layout.{party_place, word, firsts}
use Rattle.layout.specs.Reading.{set_of, pair_in, holding_of, phase_of, operation_of, operation_in, work_in, party_known, stray_party, party_in, rack_of}
use Rattle.layout.specs.laws.Firsts.{firsts_long, firsts_at}
use Rattle.layout.specs.laws.AsTold.{PhaseAsTold, AsTold}

-- ---- what is read, whatever the words

phase_read : (phase set : ℕ) (pair : Pair) → PhaseAsTold set (phase_of phase set pair)
unfolding phase_of holding_of
phase_read phase set pair = go (eqb phase 1) (eqb set 0) refl
  where
    go : (t u : Bool) → eqb set 0 ≡ u → PhaseAsTold set (cond t (Asking (cond u None (Some pair))) (Keeping pair))
    go true true e = eqb-true set 0 e
    go true false e = eqb-false set 0 e
    go false u e = tt

pub work_read : (ws : List ℕ) (at : ℕ) → AsTold (work_in ws at)
unfolding work_in operation_in operation_of
work_read ws at = go (eqb (word ws at) 0)
  where
    go : (t : Bool) → AsTold (cond t None (Some (operation_in ws at)))
    go true = tt
    go false = phase_read (word ws at) (set_of (word ws (at + 4))) (pair_in ws (at + 5))

pub party_read : (ws : List ℕ) (at : ℕ) → AsTold (party_in ws at).work
unfolding party_in
party_read ws at = go (party_known (word ws at) (word ws (at + 1)) (word ws (at + 2)) (word ws (at + 4)))
  where
    go : (t : Bool) → AsTold (cond {A = Party} t (record { stopped = eqb (word ws at) 1; op = word ws (at + 1); work = work_in ws (at + 2) }) stray_party).work
    go true = work_read ws (at + 2)
    go false = tt

-- every client of the rack that any words are read as
pub read_as_told : (ws : List ℕ) (i : ℕ) → AsTold (party_at (rack_of ws) i).work
unfolding rack_of
read_as_told ws i = go (ltb i client_limit) refl
  where
    f : ℕ → Party
    f j = party_in ws (party_place j)

    go : (t : Bool) → ltb i client_limit ≡ t → AsTold (party_at (rack_of ws) i).work
    go true e = rw (firsts_at client_limit i f idle (ltb-true i client_limit e)) (party_read ws (party_place i))
    go false e = rw (get_or-eq_default (firsts client_limit f) idle {n = i} (omega (arith, firsts_long client_limit f, ltb-false i client_limit e))) tt

-- ---- what is sound

phase_sound : (z : Settings) (set : ℕ) (ph : Phase) → PhaseFits z set ph → PhaseAsTold set ph
phase_sound z set (Asking None) h = h.0
phase_sound z set (Asking (Some p)) h = h.0.0
phase_sound z set (Keeping p) h = tt

pub sound_as_told : (z : Settings) (w : Option Operation) → work_fits z w ≡ true → AsTold w
sound_as_told z None h = tt
sound_as_told z (Some o) h = phase_sound z o.set o.phase (opened z o h).phase
