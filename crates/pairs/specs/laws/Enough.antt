-- The first 16,385 bytes decide. An entry takes at most 8 bytes, a fault shows within the 8 bytes from its entry's start, and a record
-- holds at most 2,048 entries; one byte more tells whether something remains after them.
use Prim.Native.Nat.{ℕ, zero, suc, ◌+◌, ◌*◌, ◌-◌, ◌%◌, ◌≤◌, ◌<◌}
use Rattle.std.specs.Prelude.{◌≡◌, Bool, length, take, drop, eqb, Result, Ok, Err}
use Rattle.std.proofs.Math.Path.{refl, ap, ap₂}
use Rattle.std.proofs.Common.{sym, ◌∙◌, length-take, lt-ltb, le-ltb, ltb-true, ltb-false}
use mathlib.Core.List.{List, [], ◌∷◌}
use Rattle.std.proofs.Math.Bool.{true, false, cond}
use native.Mathlib.Omega.{arith}
use Rattle.std.proofs.Math.Dec.{ltb}
use Rattle.std.proofs.lemmas.Bool.{eqb-false}
use Rattle.number.specs.Number.{group_size, fifth_most, Number, number_at, and_then}
use Rattle.number.specs.laws.Steps.{read_go, push, read_steps}
use Rattle.number.specs.Value.{signed_of}
use Rattle.record.specs.declared.Entry.{Entry}
use Rattle.record.specs.declared.Entry.TheVariants.{ReadAsked, WriteAsked, Told, Done}
use Rattle.record.specs.declared.Standing.{Standing}
use Rattle.record.specs.Entry.{Found, last_cell, last_client, longest_entry, up_to, fields_at, entry_at}
use Rattle.record.specs.Record.{entry_limit, fresh, fault_after, standing_after, Held, entries, fault, before, unless_refused, enter, held_from, bytes_held}
use Rattle.record.proofs.theorems.EntryTrip.{went, passed}
use Rattle.refusal.specs.declared.Refusal.{Refusal}
use Rattle.refusal.specs.declared.Refusal.TheVariants.{LastIsZero, FifthAbove, KindAbove, FieldAbove, TooMany}
use Rattle.pairs.specs.Pairs.{deciding_bytes}

-- what is found twice is one thing, and one place after it
same_found : {A : Type 0} {x y : A} {a b : ℕ} → ◌≡◌ {A = Result (A × ℕ) Refusal} (Ok (x, a)) (Ok (y, b)) → (x ≡ y) × (a ≡ b)
same_found {A} {x} {y} {a} {b} p = let q : ◌≡◌ {A = A × ℕ} (x, a) (y, b) = cc in (ap (λ (z : A × ℕ). z.0) q, ap (λ (z : A × ℕ). z.1) q)

-- ---- a number

no_number : {A : Type 0} {k : Refusal} {n next : ℕ} → ◌≡◌ {A = Number} (Err k) (Ok (n, next)) → A
no_number p = let z : ◌≡◌ {A = ℕ} 0 1 = cc in absurd (omega arith)

-- at most f + 1 bytes are taken
read_far : (f at n next : ℕ) (bs : List ℕ) → read_go f at bs ≡ Ok (n, next) → next ≤ at + f + 1
unfolding read_go push
read_far zero at n next [] p = no_number p
read_far zero at n next (b ∷ bs) p = go (ltb fifth_most b) p
  where
    go : (t : Bool) → cond {A = Number} t (Err FifthAbove) (Ok (b, at + 1)) ≡ Ok (n, next) → next ≤ at + 0 + 1
    go true q = no_number q
    go false q = let e = (same_found q).1 in omega arith
read_far (suc f) at n next [] p = no_number p
read_far (suc f) at n next (b ∷ bs) p = go (ltb b group_size) (read_go f (at + 1) bs) (λ m k e. read_far f (at + 1) m k bs e) p
  where
    pushed : (m k : ℕ) (t : Bool) → k ≤ at + 1 + f + 1 → cond {A = Number} t (Err LastIsZero) (Ok (b % group_size + group_size * m, k)) ≡ Ok (n, next) → next ≤ at + suc f + 1
    pushed m k true h q = no_number q
    pushed m k false h q = let e = (same_found q).1 in omega arith

    go : (t : Bool) (r : Number) → ((m k : ℕ) → r ≡ Ok (m, k) → k ≤ at + 1 + f + 1) → cond {A = Number} t (Ok (b, at + 1)) (push b r) ≡ Ok (n, next) → next ≤ at + suc f + 1
    go true r ih q = let e = (same_found q).1 in omega arith
    go false (Err k) ih q = no_number q
    go false (Ok (m, k)) ih q = pushed m k (eqb m 0) (ih m k refl) q

-- a number below 128 takes one byte
read_one : (f at n next : ℕ) (bs : List ℕ) → n < group_size → read_go f at bs ≡ Ok (n, next) → next ≡ at + 1
unfolding read_go push
read_one zero at n next [] l p = no_number p
read_one zero at n next (b ∷ bs) l p = go (ltb fifth_most b) p
  where
    go : (t : Bool) → cond {A = Number} t (Err FifthAbove) (Ok (b, at + 1)) ≡ Ok (n, next) → next ≡ at + 1
    go true q = no_number q
    go false q = sym (same_found q).1
read_one (suc f) at n next [] l p = no_number p
read_one (suc f) at n next (b ∷ bs) l p = go (ltb b group_size) (read_go f (at + 1) bs) p
  where
    pushed : (m k : ℕ) (t : Bool) → eqb m 0 ≡ t → cond {A = Number} t (Err LastIsZero) (Ok (b % group_size + group_size * m, k)) ≡ Ok (n, next) → next ≡ at + 1
    pushed m k true h q = no_number q
    pushed m k false h q = let e = (same_found q).0 in absurd (eqb-false m 0 h (omega arith))

    go : (t : Bool) (r : Number) → cond {A = Number} t (Ok (b, at + 1)) (push b r) ≡ Ok (n, next) → next ≡ at + 1
    go true r q = sym (same_found q).1
    go false (Err k) q = no_number q
    go false (Ok (m, k)) q = pushed m k (eqb m 0) refl q

-- bytes after those that may be taken are not looked at
read_part : (f at k : ℕ) (bs : List ℕ) → f < k → read_go f at (take k bs) ≡ read_go f at bs
unfolding read_go
read_part f at zero bs h = absurd (omega arith)
read_part zero at (suc k) [] h = refl
read_part zero at (suc k) (b ∷ bs) h = refl
read_part (suc f) at (suc k) [] h = refl
read_part (suc f) at (suc k) (b ∷ bs) h = ap (λ (r : Number). cond (ltb b group_size) (Ok (b, at + 1)) (push b r)) (read_part f (at + 1) k bs (omega arith))

take_none : (k : ℕ) → take {A = ℕ} k [] ≡ []
take_none zero = refl
take_none (suc k) = refl

drop_part : (i k : ℕ) (s : List ℕ) → drop i (take (i + k) s) ≡ take k (drop i s)
drop_part zero k s = let e : 0 + k ≡ k = omega arith in rw e
drop_part (suc i) k [] = let e : suc i + k ≡ suc (i + k) = omega arith in rw (e, take_none k)
drop_part (suc i) k (x ∷ s) = let e : suc i + k ≡ suc (i + k) = omega arith in rw e (drop_part i k s)

module _ (s : List ℕ) (at : ℕ) where
  -- reading a number looks at five bytes at most
  pub number_enough : (m : ℕ) → at + 5 ≤ m → number_at (take m s) at ≡ number_at s at
  number_enough m h =
      let e : at + (m - at) ≡ m = omega arith in
      let part : drop at (take m s) ≡ take (m - at) (drop at s) = ap (λ (j : ℕ). drop at (take j s)) (sym e) ∙ drop_part at (m - at) s in
      sym (read_steps (take m s) at) ∙ ap (read_go 4 at) part ∙ read_part 4 at (m - at) (drop at s) (omega arith) ∙ read_steps s at

  pub number_far : (n next : ℕ) → number_at s at ≡ Ok (n, next) → next ≤ at + 5
  number_far n next p = omega (arith, read_far 4 at n next (drop at s) (read_steps s at ∙ p))

  pub number_one : (n next : ℕ) → n < group_size → number_at s at ≡ Ok (n, next) → next ≡ at + 1
  number_one n next l p = read_one 4 at n next (drop at s) l (read_steps s at ∙ p)

  -- a number that is at most a small limit takes one byte
  limited_one : (limit : ℕ) (refusal : Refusal) (n next : ℕ) → limit < group_size → up_to limit refusal (number_at s at) ≡ Ok (n, next) → next ≡ at + 1
  limited_one limit refusal n next l p = let w = passed limit refusal n next (number_at s at) p in number_one n next (omega (arith, w.1)) w.0

-- ---- an entry

and_then_same : (r : Number) (f g : ℕ → ℕ → Found) → ((n next : ℕ) → r ≡ Ok (n, next) → f n next ≡ g n next) → and_then Err r f ≡ and_then Err r g
unfolding and_then
and_then_same (Err k) f g h = refl
and_then_same (Ok (n, next)) f g h = h n next refl

module _ (s : List ℕ) (m : ℕ) where
  -- the fields after kind and client are six bytes at most
  fields_enough : (at kind client : ℕ) → at + 6 ≤ m → fields_at (take m s) at kind client ≡ fields_at s at kind client
  unfolding fields_at
  fields_enough at kind client h = ap₂ (λ (x y : Found). cond {A = Found} (eqb kind 3) (Ok (Done (record { 0 = client }), at)) (cond (eqb kind 2) x y)) told (asks ∙ valued)
    where
      written : List ℕ → ℕ → ℕ → Found
      written t cell next = and_then {A = Found} Err (number_at t next) (λ v last. Ok (WriteAsked (record { 0 = client }) (record { 0 = cell }) (signed_of v), last))

      after : List ℕ → ℕ → ℕ → Found
      after t cell next = cond {A = Found} (eqb kind 0) (Ok (ReadAsked (record { 0 = client }) (record { 0 = cell }), next)) (written t cell next)

      told : and_then {A = Found} Err (number_at (take m s) at) (λ v next. Ok (Told (record { 0 = client }) (signed_of v), next))
          ≡ and_then {A = Found} Err (number_at s at) (λ v next. Ok (Told (record { 0 = client }) (signed_of v), next))
      told = ap (λ (r : Number). and_then {A = Found} Err r (λ v next. Ok (Told (record { 0 = client }) (signed_of v), next))) (number_enough s at m (omega arith))

      asks : and_then Err (up_to last_cell FieldAbove (number_at (take m s) at)) (after (take m s)) ≡ and_then Err (up_to last_cell FieldAbove (number_at s at)) (after (take m s))
      asks = ap (λ (r : Number). and_then Err (up_to last_cell FieldAbove r) (after (take m s))) (number_enough s at m (omega arith))

      valued : and_then Err (up_to last_cell FieldAbove (number_at s at)) (after (take m s)) ≡ and_then Err (up_to last_cell FieldAbove (number_at s at)) (after s)
      valued = and_then_same (up_to last_cell FieldAbove (number_at s at)) (after (take m s)) (after s) (λ cell next p.
          let e = limited_one s at last_cell FieldAbove cell next (omega arith) p in
          ap (λ (r : Number). cond {A = Found} (eqb kind 0) (Ok (ReadAsked (record { 0 = client }) (record { 0 = cell }), next))
          (and_then {A = Found} Err r (λ v last. Ok (WriteAsked (record { 0 = client }) (record { 0 = cell }) (signed_of v), last))))
          (number_enough s next m (omega arith)))

  -- reading an entry looks at eight bytes at most
  pub entry_enough : (at : ℕ) → at + longest_entry ≤ m → entry_at (take m s) at ≡ entry_at s at
  unfolding entry_at
  entry_enough at h = first ∙ and_then_same (up_to 3 KindAbove (number_at s at)) (after (take m s)) (after s) second
    where
      after : List ℕ → ℕ → ℕ → Found
      after t kind next = and_then {A = Found} Err (up_to last_client FieldAbove (number_at t next)) (λ client more. fields_at t more kind client)

      first : and_then Err (up_to 3 KindAbove (number_at (take m s) at)) (after (take m s)) ≡ and_then Err (up_to 3 KindAbove (number_at s at)) (after (take m s))
      first = ap (λ (r : Number). and_then Err (up_to 3 KindAbove r) (after (take m s))) (number_enough s at m (omega arith))

      second : (kind next : ℕ) → up_to 3 KindAbove (number_at s at) ≡ Ok (kind, next) → after (take m s) kind next ≡ after s kind next
      second kind next p =
          let e = limited_one s at 3 KindAbove kind next (omega arith) p in
          ap (λ (r : Number). and_then {A = Found} Err (up_to last_client FieldAbove r) (λ client more. fields_at (take m s) more kind client)) (number_enough s next m (omega arith))
          ∙ and_then_same (up_to last_client FieldAbove (number_at s next)) (λ client more. fields_at (take m s) more kind client) (λ client more. fields_at s more kind client)
          (λ client more q. let d = limited_one s next last_client FieldAbove client more (omega arith) q in fields_enough more kind client (omega arith))

module _ (s : List ℕ) where
  fields_far : (at kind client : ℕ) (e : Entry) (last : ℕ) → fields_at s at kind client ≡ Ok (e, last) → last ≤ at + 6
  unfolding fields_at
  fields_far at kind client e last p = go (eqb kind 3) (eqb kind 2) (eqb kind 0) p
    where
      write : (cell next : ℕ) → next ≡ at + 1 → (b : Bool)
          → cond {A = Found} b (Ok (ReadAsked (record { 0 = client }) (record { 0 = cell }), next))
          (and_then {A = Found} Err (number_at s next) (λ v last. Ok (WriteAsked (record { 0 = client }) (record { 0 = cell }) (signed_of v), last))) ≡ Ok (e, last)
          → last ≤ at + 6
      write cell next h true q = let d = (same_found q).1 in omega arith
      write cell next h false q =
          let w = went (number_at s next) _ e last q in
          let d = (same_found w.on).1 in
          omega (arith, number_far s next w.n w.m w.is)

      go : (a b d : Bool) → cond {A = Found} a (Ok (Done (record { 0 = client }), at))
          (cond b (and_then {A = Found} Err (number_at s at) (λ v next. Ok (Told (record { 0 = client }) (signed_of v), next)))
          (and_then {A = Found} Err (up_to last_cell FieldAbove (number_at s at)) (λ cell next.
          cond {A = Found} d (Ok (ReadAsked (record { 0 = client }) (record { 0 = cell }), next))
          (and_then {A = Found} Err (number_at s next) (λ v last. Ok (WriteAsked (record { 0 = client }) (record { 0 = cell }) (signed_of v), last)))))) ≡ Ok (e, last)
          → last ≤ at + 6
      go true b d q = let i = (same_found q).1 in omega arith
      go false true d q =
          let w = went (number_at s at) _ e last q in
          let i = (same_found w.on).1 in
          omega (arith, number_far s at w.n w.m w.is)
      go false false d q =
          let w = went (up_to last_cell FieldAbove (number_at s at)) _ e last q in
          write w.n w.m (limited_one s at last_cell FieldAbove w.n w.m (omega arith) w.is) d w.on

  -- an entry takes eight bytes at most
  pub entry_far : (at : ℕ) (e : Entry) (next : ℕ) → entry_at s at ≡ Ok (e, next) → next ≤ at + longest_entry
  unfolding entry_at
  entry_far at e next p =
      let a = went (up_to 3 KindAbove (number_at s at)) _ e next p in
      let b = went (up_to last_client FieldAbove (number_at s a.m)) _ e next a.on in
      let i = limited_one s at 3 KindAbove a.n a.m (omega arith) a.is in
      let j = limited_one s a.m last_client FieldAbove b.n b.m (omega arith) b.is in
      omega (arith, fields_far b.m a.n b.n e next b.on)

-- ---- the record

-- whether something stands at a place before m
more_enough : (s : List ℕ) (m at : ℕ) → at < m → ltb at (length (take m s)) ≡ ltb at (length s)
more_enough s m at h = go (ltb at (length s)) refl
  where
    go : (t : Bool) → ltb at (length s) ≡ t → ltb at (length (take m s)) ≡ t
    go true e = lt-ltb at (length (take m s)) (omega (arith, length-take m s, ltb-true at (length s) e))
    go false e = le-ltb at (length (take m s)) (omega (arith, length-take m s, ltb-false at (length s) e))

module _ (s : List ℕ) (m : ℕ) where
  -- an entry that was found, or a fault, with what follows up to where it follows
  enter_same : (n at : ℕ) (st : Standing) (f g : ℕ → Standing → Held) → ((e : Entry) (next : ℕ) → next ≤ at + longest_entry → f next (standing_after st e)
      ≡ g next (standing_after st e))
      → (r : Found) → entry_at s at ≡ r → enter n st r f ≡ enter n st r g
  unfolding enter
  enter_same n at st f g h (Err k) q = refl
  enter_same n at st f g h (Ok (e, next)) q =
      ap (λ (x : Held). unless_refused (fault_after st e) n (before e x)) (h e next (entry_far s at e next q))

  held_enough : (left at n : ℕ) (st : Standing) → at + longest_entry * left < m
      → held_from (λ i. ltb i (length (take m s))) (entry_at (take m s)) left at n st ≡ held_from (λ i. ltb i (length s)) (entry_at s) left at n st
  unfolding held_from
  held_enough zero at n st h = ap (λ (b : Bool). cond b (fault TooMany n) (entries [])) (more_enough s m at (omega arith))
  held_enough (suc left) at n st h =
      ap₂ (λ (b : Bool) (x : Held). cond b x (entries [])) (more_enough s m at (omega arith))
      (ap (λ (r : Found). enter n st r (λ next st'. held_from (λ i. ltb i (length (take m s))) (entry_at (take m s)) left next (n + 1) st')) (entry_enough s m at (omega arith))
      ∙ enter_same n at st (λ next st'. held_from (λ i. ltb i (length (take m s))) (entry_at (take m s)) left next (n + 1) st')
      (λ next st'. held_from (λ i. ltb i (length s)) (entry_at s) left next (n + 1) st')
      (λ e next l. held_enough left next (n + 1) (standing_after st e) (omega arith)) (entry_at s at) refl)

-- the first 16,385 bytes decide what the bytes hold
pub enough : (s : List ℕ) → bytes_held (take deciding_bytes s) ≡ bytes_held s
unfolding bytes_held
enough s = held_enough s deciding_bytes entry_limit 0 0 fresh (omega arith)
