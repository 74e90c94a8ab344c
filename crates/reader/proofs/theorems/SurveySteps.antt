-- While an entry is due, a survey goes on: what is found at the place leads on.
use Rattle.std.specs.Prelude.{ℕ, ◌<◌, ◌≡◌, Bool, ◌&&◌, List, length, ltb, leb, Option, None, Some, is_none, Ok, Err}
use Rattle.std.proofs.Math.Path.{refl, subst}
use Rattle.std.proofs.Common.{sym, arith}
use Rattle.std.proofs.Math.Bool.{true, false}
use borrow.Author.Tests.{leb-true, leb-false}
use Rattle.record.specs.declared.Entry.{Entry}
use Rattle.record.specs.Entry.{Found, entry_at}
use Rattle.record.specs.Record.{entry_limit, fault_after, bytes_held}
use Rattle.record.specs.laws.Steps.{Counting, counts_full, counts_unread, counts_misplaced}
use Rattle.refusal.specs.declared.Refusal.{Refusal}
use Rattle.refusal.specs.declared.Refusal.TheVariants.{TooMany}
use Rattle.reader.specs.declared.Progress.{Progress}
use Rattle.reader.specs.Head.{place_after}
use Rattle.reader.specs.laws.Survey.{goes_on, after_found}
use Rattle.reader.specs.laws.SurveySteps.{after_full, after_unread, after_misplaced, after_on, Surveying, Turned, stops, takes}

-- an entry is due: nothing stopped the survey, and something stands at the place
due : (p : Progress) (place n : ℕ) → goes_on p place n ≡ true → (p.fault ≡ None) × (ltb place n ≡ true)
unfolding goes_on
due p place n h = go p.fault refl h
  where
    go : (f : Option Refusal) → p.fault ≡ f → is_none f && ltb place n ≡ true → (p.fault ≡ None) × (ltb place n ≡ true)
    go None e q = (e, q)
    go (Some k) e q = let z : ◌≡◌ {A = ℕ} 0 1 = cc in absurd (omega arith)

module _ (s : List ℕ) (place : ℕ) (p : Progress) (c : Counting (λ i. ltb i (length s)) (entry_at s) (λ e. 1) (bytes_held s) place p.taken p.taken p.standing)
    (none : p.fault ≡ None) (more : ltb place (length s) ≡ true) where
  turn : Turned s (place_after (entry_at s place) place) p (after_found p (entry_at s place))
  unfolding place_after
  turn = limit (leb entry_limit p.taken) refl
    where
      checked : (f : Option Refusal) (e : Entry) (next : ℕ) → entry_at s place ≡ Ok (e, next) → p.taken < entry_limit → fault_after p.standing e ≡ f
          → Turned s next p (after_found p (Ok (e, next)))
      checked None e next g l h = subst (Turned s next p) (sym (after_on p e next l h)) (takes s place p c none more e next g l h)
      checked (Some k) e next g l h =
          subst (Turned s next p) (sym (after_misplaced p e next k l h))
          (stops s place p c none more next k (counts_misplaced _ _ _ _ _ _ _ _ c k e next more (λ z. omega (arith, l, z)) g h))

      found : (f : Found) → entry_at s place ≡ f → p.taken < entry_limit → Turned s (place_after f place) p (after_found p f)
      found (Err k) g l =
          subst (Turned s place p) (sym (after_unread p k l))
          (stops s place p c none more place k (counts_unread _ _ _ _ _ _ _ _ c k more (λ z. omega (arith, l, z)) g))
      found (Ok (e, next)) g l = checked (fault_after p.standing e) e next g l refl

      limit : (t : Bool) → leb entry_limit p.taken ≡ t → Turned s (place_after (entry_at s place) place) p (after_found p (entry_at s place))
      limit true h =
          let l = leb-true _ _ h in
          subst (Turned s (place_after (entry_at s place) place) p) (sym (after_full p (entry_at s place) l))
          (stops s place p c none more (place_after (entry_at s place) place) TooMany (counts_full _ _ _ _ _ _ _ _ c more (omega (arith, l, c.limit))))
      limit false h = found (entry_at s place) refl (leb-false _ _ h)

-- while an entry is due, what is found there leads on
pub survey_turns : (s : List ℕ) (place : ℕ) (p : Progress) → Surveying s place p → goes_on p place (length s) ≡ true
    → Turned s (place_after (entry_at s place) place) p (after_found p (entry_at s place))
survey_turns s place p i h = let d = due p place (length s) h in turn s place p (i.goes d.0) d.0 d.1
