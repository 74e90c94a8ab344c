-- Reading what was written gives the number, and what is read without fault is what writing gives.
use Rattle.std.specs.Prelude.{ℕ, zero, suc, ◌+◌, ◌-◌, ◌*◌, ◌/◌, ◌%◌, ◌^◌, ◌<◌, ◌≤◌, List, [], ◌∷◌, ◌++◌, ◌≡◌, refl, Bool, true, false, cond, take, drop, length, get_or, ltb, eqb, Ok, Err}
use Rattle.std.proofs.Common.{append_assoc, ap, ap₂, ◌∙◌, sym, arith, length-append, length-drop, drop-cons, drop-drop, drop_at, length-take-le, lt-ltb, le-ltb, ltb-true, ltb-false}
use Rattle.std.proofs.Math.Seq.{drop-append_seam}
use Rattle.std.proofs.lemmas.List.Edits.{sets, sets-eq}
use Rattle.std.proofs.lemmas.Bool.{eqb-false}
use Rattle.number.specs.Number.{group_size, fifth_most, groups_of, number_bytes, number_at, put_bytes}
use Rattle.number.specs.laws.Steps.{read_go, push, push_more, read_steps}
use Rattle.number.specs.laws.NumberLaws.{top, top_least, groups_small, groups_more, groups_some, put_writes, same_read}
use Rattle.number.specs.Number.{Number}
use Rattle.number.specs.Stands.{Stands}
use Rattle.number.specs.Below.{byte_limit, Bytes}
use Rattle.refusal.specs.declared.Refusal.{Refusal}
use Rattle.refusal.specs.declared.Refusal.TheVariants.{EndsFirst, LastIsZero, FifthAbove}

-- ---- what was written is read

-- a byte of 128 or more before the bytes of a number m that is not 0
longer_read : (f at b m n next k : ℕ) (bs : List ℕ) → read_go f (at + 1) bs ≡ Ok (m, next) → group_size ≤ b → (m ≡ 0 → ⊥) → b % group_size + group_size * m ≡ n → next ≡ k
    → read_go (suc f) at (b ∷ bs) ≡ Ok (n, k)
unfolding read_go
longer_read f at b m n next k bs e h z p q = simp (le-ltb b group_size h, e, push_more b m next z) (ap₂ (λ (x y : ℕ). Ok (x, y)) p q)

-- a byte below 128, and below 16 where no other may follow
last_read : (f at b : ℕ) (bs : List ℕ) → b < group_size → b < top f → read_go f at (b ∷ bs) ≡ Ok (b, at + 1)
unfolding top read_go
last_read zero at b bs h g = simp (le-ltb fifth_most b (omega arith))
last_read (suc f) at b bs h g = simp (lt-ltb b group_size h)

there : (f n at : ℕ) (more : List ℕ) → n < top f → read_go f at (groups_of f n ++ more) ≡ Ok (n, at + length (groups_of f n))
unfolding top
there zero n at more h = rw (groups_small zero n (omega arith)) (last_read zero at n more (omega arith) h)
there (suc f) n at more h = go (there f (n / group_size) (at + 1) more (omega arith)) (ltb n group_size) refl
  where
    go : read_go f (at + 1) (groups_of f (n / group_size) ++ more) ≡ Ok (n / group_size, at + 1 + length (groups_of f (n / group_size))) → (t : Bool) → ltb n group_size ≡ t
        → read_go (suc f) at (groups_of (suc f) n ++ more) ≡ Ok (n, at + length (groups_of (suc f) n))
    go ih true e =
        let small : n < group_size = ltb-true n group_size e in
        rw (groups_small (suc f) n small) (last_read (suc f) at n more small h)
    go ih false e =
        let lo : group_size ≤ n = ltb-false n group_size e in
        rw (groups_more f n lo) (longer_read f at _ (n / group_size) n _ _ (groups_of f (n / group_size) ++ more) ih (omega arith) (λ z. omega arith) (omega arith) (omega arith))

-- a number's bytes at place at are read as the number, whatever follows
pub reads_written : (s : List ℕ) (at n : ℕ) (more : List ℕ) → n < 2 ^ 32 → drop at s ≡ number_bytes n ++ more → number_at s at ≡ Ok (n, at + length (number_bytes n))
unfolding top
reads_written s at n more h e = sym (read_steps s at) ∙ ap (read_go 4 at) e ∙ there 4 n at more h

-- a byte below 128 is the number itself
pub reads_small : (s : List ℕ) (at : ℕ) → at < length s → get_or s at 0 < group_size → number_at s at ≡ Ok (get_or s at 0, at + 1)
unfolding top
reads_small s at h g = sym (read_steps s at) ∙ ap (read_go 4 at) (drop-cons s at 0 h) ∙ last_read 4 at (get_or s at 0) (drop (suc at) s) g (omega arith)

-- ---- what is read was written

-- what reading found: the bytes are those that writing the number gives, then others
record WasWritten (f at n next : ℕ) (bs : List ℕ) : Type 0 where
  more : List ℕ
  bytes : bs ≡ groups_of f n ++ more
  place : next ≡ at + length (groups_of f n)
  below : n < top f

never : {A : Type 0} (e : Refusal) (n next : ℕ) → ◌≡◌ {A = Number} (Err e) (Ok (n, next)) → A
never e n next p = let z : ◌≡◌ {A = ℕ} 0 1 = cc in absurd (omega arith)

last : (f at b n next : ℕ) (bs : List ℕ) → b < group_size → b < top f → ◌≡◌ {A = Number} (Ok (b, at + 1)) (Ok (n, next)) → WasWritten f at n next (b ∷ bs)
last f at b n next bs h g p =
    let en : n ≡ b = sym (same_read p).0 in
    let ek : at + 1 ≡ next = (same_read p).1 in
    let one : groups_of f n ≡ b ∷ [] = groups_small f n (omega arith) ∙ ap (λ (x : ℕ). x ∷ []) en in
    record { more = bs; bytes = simp one; place = simp one (omega arith); below = omega arith }

fifth : (at b n next : ℕ) (bs : List ℕ) (t : Bool) → ltb fifth_most b ≡ t → cond {A = Number} t (Err FifthAbove) (Ok (b, at + 1)) ≡ Ok (n, next) → WasWritten zero at n next (b ∷ bs)
unfolding top
fifth at b n next bs true e p = never FifthAbove n next p
fifth at b n next bs false e p = last zero at b n next bs (omega (arith, ltb-false fifth_most b e)) (omega (arith, ltb-false fifth_most b e)) p

longer : (f at b n next m k : ℕ) (bs : List ℕ) → group_size ≤ b → b < byte_limit → WasWritten f (at + 1) m k bs → (t : Bool) → eqb m 0 ≡ t
    → cond {A = Number} t (Err LastIsZero) (Ok (b % group_size + group_size * m, k)) ≡ Ok (n, next) → WasWritten (suc f) at n next (b ∷ bs)
unfolding groups_of top
longer f at b n next m k bs lo hi w true e p = never LastIsZero n next p
longer f at b n next m k bs lo hi w false e p =
    let nz : (m ≡ 0) → ⊥ = eqb-false m 0 e in
    let en : b % group_size + group_size * m ≡ n = (same_read p).0 in
    let ek : k ≡ next = (same_read p).1 in
    let big : group_size ≤ n = omega arith in
    let low : group_size + n % group_size ≡ b = omega arith in
    let high : n / group_size ≡ m = omega arith in
    record {
      more = w.more;
      bytes = simp (le-ltb n group_size big, low, high) (ap (λ (l : List ℕ). b ∷ l) w.bytes);
      place = simp (le-ltb n group_size big, high) (omega (arith, w.place));
      below = omega (arith, w.below);
    }

back : (f at n next : ℕ) (bs : List ℕ) → Bytes bs → read_go f at bs ≡ Ok (n, next) → WasWritten f at n next bs
unfolding read_go push top
back zero at n next [] w p = never EndsFirst n next p
back zero at n next (b ∷ bs) w p = fifth at b n next bs (ltb fifth_most b) refl p
back (suc f) at n next [] w p = never EndsFirst n next p
back (suc f) at n next (b ∷ bs) w p = go (ltb b group_size) refl (read_go f (at + 1) bs) refl p (back f (at + 1))
  where
    go : (t : Bool) → ltb b group_size ≡ t → (r : Number) → read_go f (at + 1) bs ≡ r → cond t (Ok (b, at + 1)) (push b r) ≡ Ok (n, next)
        → ((n' next' : ℕ) (bs' : List ℕ) → Bytes bs' → read_go f (at + 1) bs' ≡ Ok (n', next') → WasWritten f (at + 1) n' next' bs') → WasWritten (suc f) at n next (b ∷ bs)
    go true e r q s ih = last (suc f) at b n next bs (ltb-true b group_size e) (omega (arith, ltb-true b group_size e, top_least f)) s
    go false e (Err x) q s ih = never x n next s
    go false e (Ok (m, k)) q s ih = longer f at b n next m k bs (ltb-false b group_size e) (w 0) (ih m k bs (λ i. w (suc i)) q) (eqb m 0) refl s

-- the bytes from a place on are bytes
bytes_from : (s : List ℕ) (at : ℕ) → Bytes s → Bytes (drop at s)
bytes_from s zero h = h
bytes_from [] (suc at) h = h
bytes_from (b ∷ s) (suc at) h = bytes_from s at (λ i. h (suc i))

-- what is read of at most f + 1 bytes is below their limit: code that reads so wants to know that it fits
pub read_below : (s : List ℕ) (f at n next : ℕ) → Bytes s → read_go f at (drop at s) ≡ Ok (n, next) → n < top f
read_below s f at n next h e = (back f at n next (drop at s) (bytes_from s at h) e).below

-- what stands after the bytes xs at place at
pub drop_past : (s xs more : List ℕ) (at : ℕ) → drop at s ≡ xs ++ more → drop (at + length xs) s ≡ more
drop_past s xs more at e = sym (drop-drop (length xs) at s) ∙ ap (drop (length xs)) e ∙ drop-append_seam xs more

pub written_read : (s : List ℕ) (at n next : ℕ) → Bytes s → number_at s at ≡ Ok (n, next) → Stands s at n next
unfolding top
written_read s at n next h e =
    let w = back 4 at n next (drop at s) (bytes_from s at h) (read_steps s at ∙ e) in
    let r : drop next s ≡ w.more = simp w.place (drop_past s (number_bytes n) w.more at w.bytes) in
    let l : length s - at ≡ length (number_bytes n) + length w.more = sym (length-drop at s) ∙ ap length w.bytes ∙ length-append (number_bytes n) w.more in
    record { here = w.bytes ∙ ap (λ (l : List ℕ). number_bytes n ++ l) (sym r); far = w.place; below = w.below; within = omega (arith, w.place, groups_some 4 n) }

-- the other way: a number that stands at a place is read there
pub stands_reads : (s : List ℕ) (at n next : ℕ) → Stands s at n next → number_at s at ≡ Ok (n, next)
stands_reads s at n next w = reads_written s at n (drop next s) w.below w.here ∙ ap (λ (x : ℕ). Ok (n, x)) (sym w.far)

-- ---- what was put is read

-- the bytes xs put into d stand where they were put
pub drop_sets : (d : List ℕ) (at : ℕ) (xs : List ℕ) → at + length xs ≤ length d → drop at (sets d at xs) ≡ xs ++ drop (at + length xs) d
drop_sets d at xs h =
    ap (drop at) (sets-eq xs d at h ∙ append_assoc (take at d) xs (drop (at + length xs) d))
    ∙ drop_at (take at d) (xs ++ drop (at + length xs) d) at (length-take-le at d (omega arith))

-- a number that was put is read where it was put
pub put_reads : (d : List ℕ) (at n : ℕ) → n < 2 ^ 32 → at + length (number_bytes n) ≤ length d → number_at (put_bytes d at (number_bytes n)) at ≡ Ok (n, at + length (number_bytes n))
put_reads d at n h g = ap (λ (l : List ℕ). number_at l at) (put_writes d at (number_bytes n) g)
    ∙ reads_written (sets d at (number_bytes n)) at n (drop (at + length (number_bytes n)) d) h (drop_sets d at (number_bytes n) g)
