-- The second pass of the reader and of the writer: each entry's numbers are stored after those of the entries before it.
use Rattle.std.proofs.Math.ListN.{length, length-append, drop}
use Rattle.record.specs.Record.{Answer, Held, entries, fault, bytes_of, standing_after, held_from, all_of}
use Rattle.std.specs.Prelude.{ℕ, ◌+◌, ◌≤◌, ◌<◌, ◌≡◌, Bool, true, false, Ok, Err}
use Rattle.std.proofs.Common.{sym, ap, ◌∙◌, arith, le-ltb, lt-ltb}
use mathlib.Core.List.{List, [], ◌∷◌, ◌++◌}
use Rattle.std.proofs.Math.Seq.{sets, length-sets}
use Rattle.record.specs.declared.Entry.{Entry}
use Rattle.record.specs.Entry.{Found}
use Rattle.record.specs.declared.Standing.{Standing}
use Rattle.record.specs.laws.Steps.{first, ends, empty}
use Rattle.rows.specs.Rows.{rows_of, refused, stored}
use Rattle.refusal.specs.declared.Refusal.TheVariants.{TooShort}
use Rattle.number.specs.laws.WroteLaws.{sets_append, sets_front}

-- what rows hold, without memory for it: how many bytes it takes
unfoldable pub measure_of : Held → Answer
measure_of (entries es) = Ok (length (bytes_of es))
measure_of (fault k n) = Err (k, n)

-- where storing has come to: storing the rest from place out on gives what storing all of it at the front of d₀ gives
pub record Going (more : ℕ → Bool) (found : ℕ → Found) (f : Entry → List ℕ) (d₀ : List ℕ) (all : List Entry) (d : List ℕ) (at out : ℕ) : Type 0 where
  pub left : ℕ
  pub n : ℕ
  pub st : Standing
  pub rest : List Entry
  pub held : held_from more found left at n st ≡ entries rest
  pub same : sets d out (all_of f rest) ≡ sets d₀ 0 (all_of f all)
  pub room : out + length (all_of f rest) ≤ length d
  pub long : length d ≡ length d₀

module _ (more : ℕ → Bool) (found : ℕ → Found) (f : Entry → List ℕ) (d₀ : List ℕ) (all : List Entry) where
  -- an entry that is left to store
  pub record Next (d : List ℕ) (at out count : ℕ) : Type 0 where
    pub e : Entry
    pub next : ℕ
    pub stands : more at ≡ true
    pub is : found at ≡ Ok (e, next)
    pub room : out + length (f e) ≤ length d
    pub going : Going more found f d₀ all (sets d out (f e)) next (out + length (f e))
    pub fewer : length going.rest + 1 ≡ count

  pub step : (d : List ℕ) (at out : ℕ) (g : Going more found f d₀ all d at out) → 0 < length g.rest → Next d at out (length g.rest)
  unfolding all_of
  step d at out g h = go g.rest g.held g.same g.room h
    where
      go : (rest : List Entry) → held_from more found g.left at g.n g.st ≡ entries rest → sets d out (all_of f rest) ≡ sets d₀ 0 (all_of f all)
          → out + length (all_of f rest) ≤ length d → 0 < length rest → Next d at out (length rest)
      go [] p same room l = absurd (omega arith)
      go (e ∷ es) p same room l =
          let w = first more found g.left at g.n g.st e es p in
          let long : length (f e ++ all_of f es) ≡ length (f e) + length (all_of f es) = length-append (f e) (all_of f es) in
          record {
            e = e;
            next = w.next;
            stands = w.stands;
            is = w.is;
            room = omega arith;
            going = record {
              left = w.fewer;
              n = g.n + 1;
              st = standing_after g.st e;
              rest = es;
              held = w.others;
              same = sets_append d out (f e) (all_of f es) ∙ same;
              room = simp length-sets (omega arith);
              long = length-sets d out (f e) ∙ g.long;
            };
            fewer = omega arith;
          }

  -- an entry is left just where one stands
  pub some_left : (d : List ℕ) (at out : ℕ) (g : Going more found f d₀ all d at out) → more at ≡ true → 0 < length g.rest
  some_left d at out g h = go g.rest g.held
    where
      go : (rest : List Entry) → held_from more found g.left at g.n g.st ≡ entries rest → 0 < length rest
      go [] p = absurd (empty more found g.left at g.n g.st p h)
      go (e ∷ es) p = omega arith

  pub none_left : (d : List ℕ) (at out : ℕ) (g : Going more found f d₀ all d at out) → more at ≡ false → length g.rest ≡ 0
  none_left d at out g h =
      let p = sym g.held ∙ ends more found g.left at g.n g.st h in
      let q : g.rest ≡ [] = cc in
      ap length q

  -- the same at equal places
  unfoldable pub same_going : {d d' : List ℕ} {at at' out out' : ℕ} → Going more found f d₀ all d at out → d ≡ d' → at ≡ at' → out ≡ out' → Going more found f d₀ all d' at' out'
  same_going g p q r = record {
    left = g.left;
    n = g.n;
    st = g.st;
    rest = g.rest;
    held = rw (← q) g.held;
    same = rw (← p, ← r) g.same;
    room = rw (← p, ← r) g.room;
    long = rw (← p) g.long;
  }

  -- nothing is left, so all of it stands at the front
  pub finish : (d : List ℕ) (at out : ℕ) (g : Going more found f d₀ all d at out) → length g.rest ≡ 0 → length (all_of f all) ≤ length d₀
      → d ≡ all_of f all ++ drop (length (all_of f all)) d₀
  unfolding all_of
  finish d at out g h room = go g.rest g.same h
    where
      go : (rest : List Entry) → sets d out (all_of f rest) ≡ sets d₀ 0 (all_of f all) → length rest ≡ 0 → d ≡ all_of f all ++ drop (length (all_of f all)) d₀
      go [] same l = same ∙ sets_front (all_of f all) d₀ room
      go (e ∷ es) same l = absurd (omega arith)

-- n entries are held, and their rows fit
pub record Storable (h : Held) (n : ℕ) (d : List ℕ) : Type 0 where
  pub all : List Entry
  pub held : h ≡ entries all
  pub count : length all ≡ n
  pub room : length (rows_of all) ≤ length d

-- entries are held, and their bytes fit
pub record Writable (h : Held) (d : List ℕ) : Type 0 where
  pub all : List Entry
  pub held : h ≡ entries all
  pub room : length (bytes_of all) ≤ length d

-- what is stored where it fits, and where it doesn't
pub stored_fits : (out : List ℕ) (count : ℕ) (d : List ℕ) → length out ≤ length d → stored out count d ≡ record { answer = Ok count; lent = out ++ drop (length out) d }
unfolding stored
stored_fits out count d h = simp (le-ltb (length d) (length out) h)

pub stored_short : (out : List ℕ) (count : ℕ) (d : List ℕ) → length d < length out → stored out count d ≡ refused TooShort 0 d
unfolding stored
stored_short out count d h = simp (lt-ltb (length d) (length out) h)
