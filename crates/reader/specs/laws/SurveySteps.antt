-- How a survey goes on, entry by entry: the loop of `survey` leans on these laws alone.
use Rattle.std.specs.Prelude.{ℕ, ◌+◌, ◌-◌, ◌<◌, ◌≤◌, ◌≡◌, ◌&&◌, cond, List, length, ltb, Option, None, Some, is_none, Ok, Err}
use Rattle.std.proofs.Math.Path.{refl, subst}
use Rattle.std.proofs.Common.{sym, ◌∙◌, arith}
use Rattle.std.proofs.Math.Bool.{true, false}
use borrow.Author.Tests.{le-leb, lt-leb}
use Rattle.record.specs.declared.Entry.{Entry}
use Rattle.record.specs.Entry.{Found, entry_at}
use Rattle.record.specs.Record.{Answer, entry_limit, fault_after, standing_after, bytes_held, survey_of}
use Rattle.record.specs.laws.Steps.{Counting, tally, survey_tally, counts_end, counts_on}
use Rattle.refusal.specs.declared.Refusal.{Refusal}
use Rattle.refusal.specs.declared.Refusal.TheVariants.{TooMany}
use Rattle.reader.specs.declared.Progress.{Progress}
use Rattle.reader.specs.laws.Survey.{begun, goes_on, stopped, unless_stopped, below_limit, after_found, all_or, answer_of}

-- ---- what is found, case by case
module _ (p : Progress) where
  -- no entry may follow
  pub after_full : (f : Found) → entry_limit ≤ p.taken → after_found p f ≡ stopped p TooMany
  unfolding after_found
  after_full f l = simp (le-leb _ _ l)

  -- what was found is no entry
  pub after_unread : (k : Refusal) → p.taken < entry_limit → after_found p (Err k) ≡ stopped p k
  unfolding after_found below_limit
  after_unread k l = simp (lt-leb _ _ l)

  -- the entry may not follow
  pub after_misplaced : (e : Entry) (next : ℕ) (k : Refusal) → p.taken < entry_limit → fault_after p.standing e ≡ Some k → after_found p (Ok (e, next)) ≡ stopped p k
  unfolding after_found below_limit unless_stopped
  after_misplaced e next k l h = simp (lt-leb _ _ l, h)

  -- the entry follows
  pub after_on : (e : Entry) (next : ℕ) → p.taken < entry_limit → fault_after p.standing e ≡ None
      → after_found p (Ok (e, next)) ≡ record { standing = standing_after p.standing e; taken = p.taken + 1; fault = None }
  unfolding after_found below_limit unless_stopped
  after_on e next l h = simp (lt-leb _ _ l, h)

-- ---- where a survey of the bytes s has come to, at a place

-- while nothing stopped it, what is held from the place on, with the entries taken, is what is held in all; once stopped, its answer is the answer
pub record Surveying (s : List ℕ) (place : ℕ) (p : Progress) : Type 0 where
  pub goes : p.fault ≡ None → Counting (λ i. ltb i (length s)) (entry_at s) (λ e. 1) (bytes_held s) place p.taken p.taken p.standing
  pub stays : (k : Refusal) → p.fault ≡ Some k → ◌≡◌ {A = Answer} (Err (k, p.taken)) (tally (λ e. 1) 0 (bytes_held s))

-- how many turns may follow at most
unfoldable pub turns_left : Progress → ℕ
turns_left p = cond (is_none p.fault) (entry_limit + 1 - p.taken) 0

-- nothing is no refusal
none_some : {A : Type 0} {k : Refusal} → ◌≡◌ {A = Option Refusal} None (Some k) → A
none_some p = let z : ◌≡◌ {A = ℕ} 0 1 = cc in absurd (omega arith)

pub survey_begins : (s : List ℕ) → Surveying s 0 begun
unfolding bytes_held
survey_begins s = record { goes = λ _. record { left = entry_limit; limit = refl; same = refl }; stays = λ k h. none_some h }

-- a turn leaves fewer turns
pub record Turned (s : List ℕ) (place : ℕ) (p p' : Progress) : Type 0 where
  pub after : Surveying s place p'
  pub fewer : turns_left p' < turns_left p

module _ (s : List ℕ) (place : ℕ) (p : Progress) (c : Counting (λ i. ltb i (length s)) (entry_at s) (λ e. 1) (bytes_held s) place p.taken p.taken p.standing)
    (none : p.fault ≡ None) (more : ltb place (length s) ≡ true) where
  turns : turns_left p ≡ entry_limit + 1 - p.taken
  unfolding turns_left
  turns = simp none

  -- the survey stops
  pub stops : (next : ℕ) (k : Refusal) → ◌≡◌ {A = Answer} (Err (k, p.taken)) (tally (λ e. 1) 0 (bytes_held s)) → Turned s next p (stopped p k)
  unfolding turns_left
  stops next k q = record {
    after = record { goes = λ z. none_some (sym z); stays = λ j z. let i : k ≡ j = cc in subst (λ (x : Refusal). ◌≡◌ {A = Answer} (Err (x, p.taken)) (tally (λ e. 1) 0 (bytes_held s))) i q };
    fewer = omega (arith, turns, left_none, c.limit);
  }
    where
      left_none : turns_left (stopped p k) ≡ 0
      left_none = refl

  -- the entry was taken
  pub takes : (e : Entry) (next : ℕ) → entry_at s place ≡ Ok (e, next) → p.taken < entry_limit → fault_after p.standing e ≡ None
      → Turned s next p (record { standing = standing_after p.standing e; taken = p.taken + 1; fault = None })
  unfolding turns_left
  takes e next g l h = record {
    after = record { goes = λ _. counts_on _ _ _ _ _ _ _ _ c e next more (λ z. omega (arith, l, z)) g h; stays = λ k z. none_some z };
    fewer = omega (arith, turns, left_one, l);
  }
    where
      left_one : turns_left (record { standing = standing_after p.standing e; taken = p.taken + 1; fault = None }) ≡ entry_limit + 1 - (p.taken + 1)
      left_one = refl

-- when none is due, the answer is what the bytes hold
pub survey_ends : (s : List ℕ) (place : ℕ) (p : Progress) → Surveying s place p → goes_on p place (length s) ≡ false → answer_of p ≡ survey_of (bytes_held s)
unfolding goes_on all_or
survey_ends s place p i h = go p.fault refl h
  where
    go : (f : Option Refusal) → p.fault ≡ f → is_none f && ltb place (length s) ≡ false → all_or p.taken f ≡ survey_of (bytes_held s)
    go None e q = counts_end _ _ _ _ _ _ _ _ (i.goes e) q ∙ sym (survey_tally _)
    go (Some k) e q = i.stays k e ∙ sym (survey_tally _)
