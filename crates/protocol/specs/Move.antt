-- The method, move by move. The paper: "What each event does". What loses, copies, sends again or answers an ask changes no view.
use Rattle.std.specs.Prelude.{◌≡◌, Bool, false, cond, ◌||◌, ℕ, suc, ◌≤◌, eqb, ltb, ℤ, pos}
use Rattle.protocol.specs.View.{Setting, Pair, zero_pair, Call, Op, View}
use Rattle.protocol.specs.Message.{Tell, Keep, Kept}

-- what may happen to a view, move by move: o is an operation by its number, r a replica
pub data Move : Type 0 where
  -- operation o starts
  start : (o client cell : ℕ) (write : Bool) (value : ℤ) → Move
  -- o counts the tell of replica r
  hear : (o r : ℕ) (told : Pair) → Move
  -- enough told: o chooses its pair and goes on to keep it
  choose : (o : ℕ) → Move
  -- replica r is given the keep of o
  take : (o r cell : ℕ) (given : Pair) → Move
  -- o counts the kept of replica r
  count : (o r : ℕ) → Move
  -- enough kept: o ends
  finish : (o : ℕ) → Move

-- What must hold for a move. A start: the number is new, and whatever the client began has ended. The others: the phase fits, and the message
-- that is acted on means something true, or enough have answered.
abbrev pub Legal : Setting → View → Move → Type 0
Legal S v (start o client cell write value) =
    ((v.ops o).phase ≡ 0) × (S.Rank client × ((i : ℕ) → (v.ops i).call.client ≡ client → 1 ≤ (v.ops i).phase → 3 ≤ (v.ops i).phase))
Legal S v (hear o r told) = ((v.ops o).phase ≡ 1) × Tell S v o r told
Legal S v (choose o) = ((v.ops o).phase ≡ 1) × S.AskEnough (v.ops o).set
Legal S v (take o r cell given) = Keep v o cell given
Legal S v (count o r) = ((v.ops o).phase ≡ 2) × Kept v o r
Legal S v (finish o) = ((v.ops o).phase ≡ 2) × S.KeepEnough (v.ops o).set

-- ---- the choices between pairs

-- the second pair has the greater stamp
abbrev pub newer : Pair → Pair → Bool
newer a b = ltb a.stamp b.stamp

-- "The first tell of a phase (the set was empty) is held whole; a later one replaces it only with a greater stamp."
abbrev pub held_of : Op → Pair → Pair
held_of x told = cond (eqb x.set 0 || newer x.held told) told x.held

-- "For a write (held number + 1, own rank) and the new value"
abbrev pub new_of : Setting → Op → Pair
new_of S x = record { stamp = S.next x.held.stamp x.call.client; value = x.call.value }

-- "For a read the held pair"
abbrev pub chosen_of : Setting → Op → Pair
chosen_of S x = cond x.call.write (new_of S x) x.held

-- "The replica takes stamp and value if the stamp is greater than its own."
abbrev pub newer_of : Pair → Pair → Pair
newer_of own given = cond (newer own given) given own

-- ---- the operation after each move

-- an operation that has just started has an empty set and holds nothing
abbrev pub begun : Call → Op
begun call = record { phase = 1; call = call; set = 0; held = zero_pair; stop = 0 }

-- the replica that told is in the set, and the pair is the one then held
abbrev pub heard : Setting → Op → ℕ → Pair → Op
heard S x r told = record { phase = x.phase; call = x.call; set = S.join x.set r; held = held_of x told; stop = x.stop }

-- the set is emptied, and the pair sent is then the held one
abbrev pub keeping : Setting → Op → Op
keeping S x = record { phase = 2; call = x.call; set = 0; held = chosen_of S x; stop = x.stop }

-- the replica that kept is in the set
abbrev pub counted : Setting → Op → ℕ → Op
counted S x r = record { phase = x.phase; call = x.call; set = S.join x.set r; held = x.held; stop = x.stop }

-- the operation is over at this time; its set and its pair stay
abbrev pub ended : Op → ℕ → Op
ended x time = record { phase = 3; call = x.call; set = x.set; held = x.held; stop = time }

-- ---- the view after each move

-- a function changed at one place
abbrev pub put : {A : Type 0} → (ℕ → A) → ℕ → A → ℕ → A
put f o n i = cond (eqb i o) n (f i)

-- operation o becomes n, and the time t
abbrev pub changed : View → ℕ → Op → ℕ → View
changed v o n t = record { ops = put v.ops o n; pair = v.pair; now = t }

-- the pair of replica r for cell c becomes p
abbrev pub stored : View → ℕ → ℕ → Pair → View
stored v r c p = record { ops = v.ops; pair = put v.pair r (put (v.pair r) c p); now = v.now }

-- a start and an end take one entry of the record each
abbrev pub after : Setting → View → Move → View
after S v (start o client cell write value) =
    changed v o (begun (record { client = client; cell = cell; write = write; value = value; start = v.now })) (suc v.now)
after S v (hear o r told) = changed v o (heard S (v.ops o) r told) v.now
after S v (choose o) = changed v o (keeping S (v.ops o)) v.now
after S v (take o r cell given) = stored v r cell (newer_of (v.pair r cell) given)
after S v (count o r) = changed v o (counted S (v.ops o) r) v.now
after S v (finish o) = changed v o (ended (v.ops o) v.now) (suc v.now)

-- ---- runs

-- an operation that has not begun
abbrev pub nothing : Op
nothing =
    record {
      phase = 0;
      call = record { client = 0; cell = 0; write = false; value = pos 0; start = 0 };
      set = 0;
      held = zero_pair;
      stop = 0;
    }

-- no operation has begun, every replica has the fresh pair, the record is empty
abbrev pub fresh : View
fresh = record { ops = λ i. nothing; pair = λ r c. zero_pair; now = 0 }

-- the views that moves lead to from the fresh one, each legal where it is made
pub data Reached (S : Setting) : View → Type 0 where
  first : Reached S fresh
  then : {v : View} → Reached S v → (m : Move) → Legal S v m → Reached S (after S v m)
