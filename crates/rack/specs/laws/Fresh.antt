-- The fresh rack of permitted sizes is sound, and so is what the maker gives.
use Prim.Native.Nat.{ℕ, zero, suc, ◌≤◌, ◌<◌}
use Rattle.std.specs.Prelude.{◌≡◌, Bool, true, false, cond}
use Rattle.std.proofs.Math.Path.{refl, ap}
use Rattle.std.proofs.Common.{arith}
use Rattle.std.proofs.Math.ListN.{get_or-replicate}
use Rattle.rack.specs.declared.Settings.{Settings}
use Rattle.method.specs.declared.Party.{Party}
use Rattle.rack.specs.declared.Made.{Made}
use Rattle.stamps.specs.Stamp.{fresh_pair}
use Rattle.rack.specs.Places.{of_sizes, slot_limit, empty, idle, party_at, pair_at, pair_place, held_at}
use Rattle.rack.specs.Sound.{settings_fit, pair_fits, held_fits, work_fits, owes, owed_by, owed_in, owed, sound_of}
use Rattle.rack.specs.Run.{fresh_rack, made_of}
use Rattle.rack.specs.laws.SoundLaws.{Sized, sized, rank_fits, of_sound}

-- what the maker gives, by its test
abbrev made_if : Bool → ℕ → ℕ → ℕ → Made
made_if t replicas clients cells =
    cond t (record { refusal = 0; rack = fresh_rack (of_sizes replicas clients cells) }) (record { refusal = 1; rack = fresh_rack (of_sizes 1 1 1) })

module _ (replicas clients cells : ℕ) where
  -- the three sizes that the maker is given
  abbrev sizes : Settings
  sizes = record { replicas = replicas; clients = clients; cells = cells }

  slot : (i : ℕ) → i < slot_limit → held_fits sizes (held_at (fresh_rack (of_sizes replicas clients cells)) i) ≡ true
  unfolding fresh_rack held_fits
  slot i h = rw (get_or-replicate slot_limit i empty empty h)

  pair : Sized sizes → (k x : ℕ) → k < replicas → x < cells → pair_fits sizes (pair_at (fresh_rack (of_sizes replicas clients cells)) k x) ≡ true
  unfolding fresh_rack
  pair n k x hk hx =
      rw (get_or-replicate 240 (pair_place k x) fresh_pair fresh_pair (omega (arith, n.replicas, n.cells))) (rank_fits sizes fresh_pair n.some_client)

  party : (i : ℕ) → i < 8 → party_at (fresh_rack (of_sizes replicas clients cells)) i ≡ idle
  unfolding fresh_rack
  party i h = get_or-replicate 8 i idle idle h

  work : (i : ℕ) → i < 8 → work_fits sizes (party_at (fresh_rack (of_sizes replicas clients cells)) i).work ≡ true
  unfolding work_fits
  work i h = ap (λ (p : Party). work_fits sizes p.work) (party i h)

  nothing_owed : (n : ℕ) → n ≤ 8 → owed_in n (fresh_rack (of_sizes replicas clients cells)).parties ≡ 0
  unfolding owed_in owed_by owes
  nothing_owed zero h = refl
  nothing_owed (suc n) h =
      let e : owed_by (party_at (fresh_rack (of_sizes replicas clients cells)) n) ≡ 0 = ap owed_by (party n (omega arith)) in
      omega (arith, nothing_owed n (omega arith))

  pub fresh_sound : settings_fit (of_sizes replicas clients cells) ≡ true → sound_of (fresh_rack (of_sizes replicas clients cells)) ≡ true
  unfolding fresh_rack owed
  fresh_sound e =
      let n = sized sizes e in
      of_sound (fresh_rack (of_sizes replicas clients cells))
      (record {
        settings = n;
        slots = slot;
        pairs = pair n;
        parties = λ i h. work i (omega (arith, n.clients));
        entries = omega (arith, nothing_owed clients n.clients);
      })

-- what the maker gives is sound, whatever the sizes
pub made_sound : (replicas clients cells : ℕ) → sound_of (made_of (of_sizes replicas clients cells)).rack ≡ true
unfolding made_of settings_fit
made_sound replicas clients cells = go (settings_fit (of_sizes replicas clients cells)) refl
  where
    go : (t : Bool) → settings_fit (of_sizes replicas clients cells) ≡ t
        → sound_of (made_if t replicas clients cells).rack ≡ true
    go true e = fresh_sound replicas clients cells e
    go false e = fresh_sound 1 1 1 refl
