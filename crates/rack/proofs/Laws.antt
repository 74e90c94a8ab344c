-- What a test that the code makes says of a definition.
use Prim.Native.Nat.{ℕ, suc, ◌+◌, ◌≤◌, ◌<◌, min}
use mathlib.Core.Path.{◌≡◌, ap, ◌∙◌}
use mathlib.Core.Bool.{true}
use native.Mathlib.Omega.{arith}
use mathlib.Core.List.{List}
use lib.ListN.{get_or, length, take}
use Rattle.std.proofs.lemmas.List.{length-take}
use Rattle.method.specs.declared.Party.{Party}
use Rattle.rack.specs.Places.{of_sizes, idle}
use Rattle.rack.specs.Sound.{settings_fit, owed_by, owed_in}
use Rattle.rack.specs.laws.SoundLaws.{sized}
use Rattle.rack.specs.laws.Owed.{owed_beyond}

-- ---- the loop over clients

pub owed_next : (i : ℕ) (ps : List Party) → owed_in (i + 1) ps ≡ owed_in i ps + owed_by (get_or ps i idle)
unfolding owed_in
owed_next i ps = let e : i + 1 ≡ suc i = omega arith in ap (λ (k : ℕ). owed_in k ps) e

pub owed_first : (n clients i : ℕ) (ps : List Party) → n ≡ min clients 8 → length ps ≡ 8 → length (take n ps) ≤ i → i ≤ length (take n ps) → owed_in i ps ≡ owed_in clients ps
owed_first n clients i ps e l h k =
    let q : i ≡ min clients (length ps) = omega (arith, length-take n ps) in
    ap (λ (j : ℕ). owed_in j ps) q ∙ owed_beyond clients ps

-- ---- sizes

-- sizes that fit are bytes
pub record Bytes (replicas clients cells : ℕ) : Type 0 where
  pub first : replicas < 256
  pub second : clients < 256
  pub third : cells < 256

pub bytes : (replicas clients cells : ℕ) → settings_fit (of_sizes replicas clients cells) ≡ true → Bytes replicas clients cells
bytes replicas clients cells e =
    let z = sized (record { replicas = replicas; clients = clients; cells = cells }) e in
    record { first = omega (arith, z.replicas); second = omega (arith, z.clients); third = omega (arith, z.cells) }
