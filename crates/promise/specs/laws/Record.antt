-- The record shows the view's operations: an entry more shows one begun, or one ended.
use Rattle.std.specs.Prelude.{ℕ, suc, ◌+◌, ◌≤◌, ◌<◌, ◌≡◌, refl, ◌≢◌, List, [], ◌∷◌, ◌++◌, map, length, take}
use Rattle.std.proofs.Common.{sym, ap, ◌∙◌, ⊎_elim, arith, length-take-le, take-suc-set, eq-eqb, le-leb}
use mathlib.Core.List.Memᴰ.{append_left as mem_left}
use mathlib.Core.List.Memᴰ.{append_right as mem_right}
use mathlib.Core.List.Memᴰ.{cast as mem_cast}
use mathlib.Core.List.Memᴰ.{head as here}
use mathlib.Core.List.Memᴰ.{map as mem_map}
use mathlib.Core.List.Memᴰ.{of_map as mem_of_map}
use Rattle.std.proofs.lemmas.List.{map-append, length-map}
use Rattle.std.proofs.Math.Decide.{ℕ_discrete}
use Rattle.std.proofs.Math.IntN.{ℤ}
use Rattle.record.specs.declared.Cell.{Cell}
use Rattle.record.specs.declared.Entry.{Entry}
use Rattle.law.specs.Operation.{Op as Operation, note, operations}
use Rattle.law.specs.Order.{In}
use Rattle.law.specs.laws.Lists.{in_next}
use Rattle.law.specs.laws.Steps.{ending, ending_keeps, ending_other, ending_over}
use Rattle.law.proofs.theorems.Operations.{operations_next, numbered}
use Rattle.stamps.specs.declared.Pair.{Pair}
use Rattle.method.specs.declared.Goal.{Goal}
use Rattle.method.specs.declared.Goal.TheVariants.{Read, Write}
use Rattle.rack.specs.declared.Line.{Line}
use Rattle.rack.specs.declared.Rack.{Rack}
use Rattle.method.specs.Plan.{asked}
use Rattle.method.specs.declared.Event.{Event}
use Rattle.method.specs.declared.Note.{Note}
use Rattle.method.specs.declared.Note.TheVariants.{Nothing, Asked, Ended}
use Rattle.method.specs.declared.Plan.{Plan}
use Rattle.rack.specs.Places.{record_of}
use Rattle.rack.specs.Run.{recorded, entries_in, applied_of}
use Rattle.protocol.specs.View.{Op}
use Rattle.protocol.specs.Move.{ended}
use Rattle.method.specs.Holding.{first_entry, last_entry}
use Rattle.promise.specs.Tie.{pair_of, Past, open_with, open_at, shown, Book}

-- ---- entries of a rack

-- a record of n lines
abbrev entries_of : ℕ → List Line → List Entry
entries_of n lines = map (λ (l : Line). l.entry) (take n lines)

entry_next : (n : ℕ) (lines : List Line) (x : Entry) → n < length lines → entries_of (n + 1) (recorded (Asked x) n lines) ≡ entries_of n lines ++ (x ∷ [])
unfolding recorded
entry_next n lines x h =
    let e : n + 1 ≡ suc n = omega arith in
    rw (e, take-suc-set lines n (record { entry = x }) h) (map-append (λ (l : Line). l.entry) (take n lines) (record { entry = x } ∷ []))

-- how many entries a note adds
pub none_added : (n : Note) → n ≡ Nothing → entries_in n ≡ 0
unfolding entries_in
none_added n e = rw e

pub asked_added : (n : Note) (x : Entry) → n ≡ Asked x → entries_in n ≡ 1
unfolding entries_in
asked_added n x e = rw e

pub ended_added : (n : Note) (x : Entry) → n ≡ Ended x → entries_in n ≡ 1
unfolding entries_in
ended_added n x e = rw e

pub record_length : (r : Rack) → r.count ≤ length r.lines → length (record_of r) ≡ r.count
unfolding record_of
record_length r h = length-map (take r.count r.lines) (λ (l : Line). l.entry) ∙ length-take-le r.count r.lines h

pub record_same : (r : Rack) (e : Event) (p : Plan) → p.note ≡ Nothing → record_of (applied_of r e p) ≡ record_of r
unfolding record_of applied_of recorded entries_in
record_same r e p q =
    let z : r.count + 0 ≡ r.count = omega arith in
    rw (q, z)

pub record_asked : (r : Rack) (e : Event) (p : Plan) (x : Entry) → r.count < length r.lines → p.note ≡ Asked x → record_of (applied_of r e p) ≡ record_of r ++ (x ∷ [])
unfolding record_of applied_of entries_in
record_asked r e p x h q = rw q (entry_next r.count r.lines x h)

pub record_ended : (r : Rack) (e : Event) (p : Plan) (x : Entry) → r.count < length r.lines → p.note ≡ Ended x → record_of (applied_of r e p) ≡ record_of r ++ (x ∷ [])
unfolding record_of applied_of entries_in recorded
record_ended r e p x h q = rw q (entry_next r.count r.lines x h)

-- an entry more, at time t
pub operations_after : (es fs : List Entry) (x : Entry) (t : ℕ) → fs ≡ es ++ (x ∷ []) → length es ≡ t → operations fs ≡ note t x (operations es)
operations_after es fs x t e l = ap operations e ∙ (operations_next es x ∙ ap (λ (n : ℕ). note n x (operations es)) l)

-- an operation of the view that has begun is below the number of entries
pub begun_below : (ops : ℕ → Op) (es : List Entry) → Book ops (operations es) → (i : ℕ) → 1 ≤ (ops i).phase → i < length es
begun_below ops es b i h = ((numbered es).timed (shown i (ops i)) (b.every i h)).below

-- ---- operation o changes, and no other

module _ (f g : ℕ → Op) (o : ℕ) (other : (i : ℕ) → i ≢ o → g i ≡ f i) (s : List Operation) (b : Book f s) where
  -- and the record doesn't show it
  pub book_same : 1 ≤ (f o).phase → 1 ≤ (g o).phase → shown o (g o) ≡ shown o (f o) → Book g s
  book_same pf pg e =
      record {
        begun = λ x m. go x.number (ℕ_discrete x.number o) (b.begun x m);
        known = λ x m. b.known x m ∙ sym (alike x.number (ℕ_discrete x.number o));
        every = λ i h. mem_cast (alike i (ℕ_discrete i o)) (b.every i (back i (ℕ_discrete i o) h));
      }
    where
      alike : (i : ℕ) → Dec (i ≡ o) → shown i (g i) ≡ shown i (f i)
      alike i (yes q) = rw q e
      alike i (no q) = ap (shown i) (other i q)

      go : (i : ℕ) → Dec (i ≡ o) → 1 ≤ (f i).phase → 1 ≤ (g i).phase
      go i (yes q) h = rw q pg
      go i (no q) h = rw (other i q) h

      back : (i : ℕ) → Dec (i ≡ o) → 1 ≤ (g i).phase → 1 ≤ (f i).phase
      back i (yes q) h = rw q pf
      back i (no q) h = rw (other i q) at h

  -- it begins, with entry o
  pub book_start : (c : ℕ) (cell : Cell) (goal : Goal) → g o ≡ open_at o c (asked cell goal) → ((x : Operation) → In x s → x.number < o)
      → Book g (note o (first_entry goal (record { 0 = c }) cell) s)
  unfolding note
  book_start c cell goal e early = rw (noted goal) after
    where
      new : Operation
      new = shown o (open_at o c (asked cell goal))

      noted : (k : Goal) → note o (first_entry k (record { 0 = c }) cell) s ≡ s ++ (shown o (open_at o c (asked cell k)) ∷ [])
      noted Read = refl
      noted (Write v) = refl

      phase : 1 ≤ (g o).phase
      phase = rw e (omega arith)

      apart : (x : Operation) → In x s → x.number ≢ o
      apart x m q = omega (arith, early x m)

      at : (i : ℕ) → Dec (i ≡ o) → 1 ≤ (g i).phase → In (shown i (g i)) (s ++ (new ∷ []))
      at i (yes q) h = mem_right s (here (rw (q, e)))
      at i (no q) h = mem_left (new ∷ []) (mem_cast (ap (shown i) (other i q)) (b.every i (rw (other i q) at h)))

      after : Book g (s ++ (new ∷ []))
      after =
          record {
            begun = λ x m. ⊎_elim (λ r. rw (other x.number (apart x r)) (b.begun x r)) (λ q. rw q phase) (in_next s m);
            known = λ x m. ⊎_elim (λ r. rw (other x.number (apart x r)) (b.known x r)) (λ q. q
                ∙ (ap (shown o) (sym e) ∙ ap (λ (y : Operation). shown y.number (g y.number)) (sym q)))
                (in_next s m);
            every = λ i h. at i (ℕ_discrete i o) h;
          }

  -- it ends, with entry t
  pub book_end : (c t : ℕ) (cell : Cell) (goal : Goal) (set : ℕ) (held : Pair) → f o ≡ open_with 2 o c cell goal set (pair_of held)
      → g o ≡ ended (open_with 2 o c cell goal set (pair_of held)) t → ((i : ℕ) → i ≢ o → Past f c i) → Book g (note t (last_entry goal (record { 0 = c }) held) s)
  unfolding note last_entry
  book_end c t cell goal set held ef eg past = rw (noted goal) after
    where
      given : Goal → ℤ → ℤ
      given Read old = held.value
      given (Write v) old = old

      close : Operation → Operation
      close = ending t c (given goal)

      noted : (k : Goal) → note t (last_entry k (record { 0 = c }) held) s ≡ map (ending t c (given k)) s
      noted Read = refl
      noted (Write v) = refl

      this : (k : Goal) → ending t c (given k) (shown o (open_with 2 o c cell k set (pair_of held))) ≡ shown o (ended (open_with 2 o c cell k set (pair_of held)) t)
      this Read = rw (eq-eqb c c refl)
      this (Write v) = rw (eq-eqb c c refl)

      else : (i : ℕ) → i ≢ o → 1 ≤ (f i).phase → Dec ((f i).call.client ≡ c) → close (shown i (f i)) ≡ shown i (f i)
      else i d h (yes q) = ending_over t c (given goal) (shown i (f i)) (le-leb 3 (f i).phase (past i d q h))
      else i d h (no q) = ending_other t c (given goal) (shown i (f i)) q

      closes : (i : ℕ) → 1 ≤ (f i).phase → Dec (i ≡ o) → close (shown i (f i)) ≡ shown i (g i)
      closes i h (yes q) = rw (q, ef, eg) (this goal)
      closes i h (no q) = else i q h (ℕ_discrete (f i).call.client c) ∙ ap (shown i) (sym (other i q))

      number : (y : Operation) → (close y).number ≡ y.number
      number y = ending_keeps (λ (x : Operation). x.number) (λ k v x. refl) t c (given goal) y

      phase : (i : ℕ) → 1 ≤ (f i).phase → Dec (i ≡ o) → 1 ≤ (g i).phase
      phase i h (yes q) = rw (q, eg) (omega arith)
      phase i h (no q) = rw (other i q) h

      back : (i : ℕ) → 1 ≤ (g i).phase → Dec (i ≡ o) → 1 ≤ (f i).phase
      back i h (yes q) = rw (q, ef) (omega arith)
      back i h (no q) = rw (other i q) at h

      -- y of s after the entry
      is : (y : Operation) → In y s → close y ≡ shown y.number (g y.number)
      is y m = ap close (b.known y m) ∙ closes y.number (b.begun y m) (ℕ_discrete y.number o)

      begins : (y : Operation) → In y s → 1 ≤ (g (close y).number).phase
      begins y m = rw (number y) (phase y.number (b.begun y m) (ℕ_discrete y.number o))

      knows : (y : Operation) → In y s → close y ≡ shown (close y).number (g (close y).number)
      knows y m = is y m ∙ ap (λ (i : ℕ). shown i (g i)) (sym (number y))

      after : Book g (map close s)
      after =
          record {
            begun = λ x m. let w = mem_of_map close s m in rw w.2 at (begins w.0 w.1);
            known = λ x m. let w = mem_of_map close s m in rw w.2 at (knows w.0 w.1);
            every = λ i h.
                let k : 1 ≤ (f i).phase = back i h (ℕ_discrete i o) in
                mem_cast (sym (closes i k (ℕ_discrete i o))) (mem_map close (b.every i k));
          }
