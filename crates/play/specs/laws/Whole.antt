-- `text_room` bytes, 262,144, take all that there is to say of any script.
use Rattle.std.specs.Prelude.{ℕ, ◌+◌, ◌≤◌, ◌≡◌, Bool, true, false, cond, List, ◌++◌, eqb, length, take, drop, Ok, Err}
use Rattle.std.proofs.Common.{ap₂, ◌∙◌, arith}
use Rattle.std.proofs.lemmas.List.Edits.{sets-eq}
use Rattle.std.proofs.Math.Seq.{take-append_seam}
use Rattle.refusal.specs.Number.{paper_number}
use Rattle.script.specs.Script.{Words, script_of, events_from, words_of}
use Rattle.rack.specs.declared.Made.{Made}
use Rattle.rack.specs.laws.Fresh.{made_sound}
use Rattle.rack.specs.Sound.{sound_of}
use Rattle.rack.specs.Run.{made_of, ran_of, run_of}
use Rattle.runs.specs.laws.Parts.{run_stays}
use Rattle.text.specs.Text.{Printed}
use Rattle.lines.specs.Lines.{text_room}
use Rattle.lines.specs.laws.Fits.{ran_fits, fault_fits}
use Rattle.play.specs.Play.{played_of, text_after, drill_text}
use Rattle.rack.specs.Places.{of_sizes}

-- the rack that a script leaves is sound
pub played_sound : (s : List ℕ) (replicas clients cells allowance first : ℕ) → sound_of (played_of s replicas clients cells allowance first).rack ≡ true
unfolding played_of
played_sound s replicas clients cells allowance first = go (eqb m.refusal 0)
  where
    m : Made
    m = made_of (of_sizes replicas clients cells)

    go : (t : Bool) → sound_of (cond t (run_of m.rack allowance (words_of (events_from s first))) (ran_of 0 m.refusal m.rack)).rack ≡ true
    go true = run_stays m.rack allowance (words_of (events_from s first)) (made_sound replicas clients cells)
    go false = made_sound replicas clients cells

pub drill_fits : (s : List ℕ) → length (drill_text s) ≤ text_room
unfolding drill_text
drill_fits s = go (script_of s)
  where
    go : (w : Words) → length (text_after s w) ≤ text_room
    go (Err (refusal, byte)) = fault_fits (paper_number refusal) byte
    go (Ok (replicas, clients, cells, allowance, first)) =
        ran_fits (played_of s replicas clients cells allowance first) (played_sound s replicas clients cells allowance first)

-- so in as many bytes the text stands whole, and the place after it is its length
pub drill_whole : (s before : List ℕ) (r : ℕ) (after : List ℕ) → text_room ≤ length before → Printed before 0 (drill_text s) r after
    → (r ≡ length (drill_text s)) × (take r after ≡ drill_text s)
drill_whole s before r after h p =
    let fits : length (drill_text s) ≤ length before = omega (arith, drill_fits s) in
    let place : r ≡ length (drill_text s) = omega (arith, p.place) in
    let front : after ≡ drill_text s ++ drop (0 + length (drill_text s)) before = p.list ∙ sets-eq (drill_text s) before 0 (omega arith) in
    (place, ap₂ (λ (k : ℕ) (l : List ℕ). take k l) place front ∙ take-append_seam (drill_text s) (drop (0 + length (drill_text s)) before))
