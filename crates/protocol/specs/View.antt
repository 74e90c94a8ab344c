-- The rack as the argument sees it: operations, the replicas' pairs and the time. There are no messages and no lists.
use Rattle.std.specs.Prelude.{◌≡◌, ◌⊎◌, Bool, true, ℕ, ◌≤◌, ◌<◌, ℤ, pos}

-- What the argument knows of sets of replicas, of quorums and of stamps: nothing else of them is used. A set is a number, and so is a stamp.
pub record Setting : Type 1 where
  -- the set has the replica
  pub Has : ℕ → ℕ → Type 0
  -- the set with one replica more
  pub join : ℕ → ℕ → ℕ
  -- the empty set is 0
  pub none : (r : ℕ) → Has 0 r → ⊥
  pub joined : (s r q : ℕ) → Has (join s r) q → (q ≡ r) ⊎ Has s q
  -- the replicas that answered are enough to end an ask phase, and to end a keep phase
  pub AskEnough : ℕ → Type 0
  pub KeepEnough : ℕ → Type 0
  -- the one law of quorums: they share a replica
  pub meet : (a b : ℕ) → AskEnough a → KeepEnough b → (r : ℕ) × (Has a r × Has b r)
  -- the clients that there are
  pub Rank : ℕ → Type 0
  -- the stamp that a client writes under when it holds a stamp, and whose a stamp is
  pub next : ℕ → ℕ → ℕ
  pub owner : ℕ → ℕ
  -- the laws of stamps: the next one is greater, and names its client
  pub rises : (s c : ℕ) → s < next s c
  pub owned : (s c : ℕ) → Rank c → owner (next s c) ≡ c

-- A pair: a stamp, and the value written under it.
pub record Pair : Type 0 where
  pub stamp : ℕ
  pub value : ℤ

-- the pair of a fresh rack
abbrev pub zero_pair : Pair
zero_pair = record { stamp = 0; value = pos 0 }

-- What was asked, by whom and when. The value is that of a write.
pub record Call : Type 0 where
  pub client : ℕ
  pub cell : ℕ
  pub write : Bool
  pub value : ℤ
  pub start : ℕ

-- An operation. Its phase only rises: 0 not begun, 1 asking, 2 keeping, 3 ended. The set has the replicas that answered in this phase, and
-- stays when the operation ends. The pair held is, from phase 2 on, the operation's own: it no longer changes.
pub record Op : Type 0 where
  pub phase : ℕ
  pub call : Call
  pub set : ℕ
  pub held : Pair
  pub stop : ℕ

-- The operations by their numbers, the pairs by replica and cell, and the time, which is the number of entries in the record.
pub record View : Type 0 where
  pub ops : ℕ → Op
  pub pair : ℕ → ℕ → Pair
  pub now : ℕ

-- a ended before b began
abbrev pub Before : Op → Op → Type 0
Before a b = (3 ≤ a.phase) × (a.stop < b.call.start)

-- x is a write to cell c that has chosen the pair p
pub record Wrote (c : ℕ) (p : Pair) (x : Op) : Type 0 where
  pub write : x.call.write ≡ true
  pub chosen : 2 ≤ x.phase
  pub cell : x.call.cell ≡ c
  pub held : x.held ≡ p

-- a pair that can be met for cell c: the fresh one, or one that a write chose
abbrev pub Minted : (ℕ → Op) → ℕ → Pair → Type 0
Minted ops c p = (p ≡ zero_pair) ⊎ ((i : ℕ) × Wrote c p (ops i))
