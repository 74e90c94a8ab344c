-- The empty set has no member, and enough for an ask and enough for a keep share one.
use Rattle.std.specs.Prelude.{ℕ, ◌≡◌, Bool, true, false}
use Rattle.std.proofs.Common.{sym, ◌∙◌, arith}
use Rattle.quorum.specs.declared.Quorums.{Quorums}
use Rattle.quorum.specs.Sets.{asks_enough, keeps_enough, within}
use Rattle.quorum.proofs.theorems.SetLaws.{within_below, none_has, meet}
use Rattle.promise.specs.Has.{Has}

pub none : (k : ℕ) → Has 0 k → ⊥
none k h = let e : ◌≡◌ {A = Bool} false true = sym (none_has k) ∙ h in let z : ◌≡◌ {A = ℕ} 0 1 = cc in omega arith

pub met : (q : Quorums) (a b : ℕ) → (within q.replicas a ≡ true) × (asks_enough q a ≡ true) → (within q.replicas b ≡ true) × (keeps_enough q b ≡ true)
    → (k : ℕ) × (Has a k × Has b k)
met q a b (wa, ea) (wb, eb) =
    let m = meet q a b (within_below q.replicas a wa) (within_below q.replicas b wb) ea eb in
    (m.replica, (m.first, m.second))
