-- What a script's run, its text and its record's bytes are, by what its maker and its check gave.
use Prim.Native.Nat.{ℕ, min}
use mathlib.Core.Path.{◌≡◌, sym, ap, ap₂, ◌∙◌}
use mathlib.Core.Bool.{true}
use mathlib.Core.List.{List}
use native.Mathlib.Omega.{arith}
use lib.ListN.{length}
use lib.Seq.{sets}
use borrow.Author.Tests.{eq-eqb, ne_eqb}
use Rattle.text.specs.Text.{Printed}
use Rattle.text.specs.laws.Printing.{same_text}
use Rattle.record.specs.Record.{bytes_of}
use Rattle.std.specs.Prelude.{Ok, Err}
use Rattle.refusal.specs.declared.Refusal.{Refusal}
use Rattle.refusal.specs.Number.{paper_number}
use Rattle.script.specs.Script.{Words, script_of, events_from, words_of}
use Rattle.rack.specs.declared.Made.{Made}
use Rattle.rack.specs.declared.Ran.{Ran}
use Rattle.rack.specs.laws.Fresh.{made_sound}
use Rattle.rack.specs.Places.{of_sizes, record_of}
use Rattle.rack.specs.Sound.{sound_of}
use Rattle.rack.specs.Run.{made_of, ran_of, run_of}
use Rattle.lines.specs.Lines.{ran_text, fault_line}
use Rattle.play.specs.Play.{Recorded, started_of, played_of, text_after, drill_text, bytes_after, record_bytes_of, answer_after, recorded_of, Records}

-- a run without a refusal
pub unrefused : (q : Ran) → q.refusal ≡ 0 → q ≡ ran_of q.done 0 q.rack
unrefused q e = ap (λ (k : ℕ). ran_of q.done k q.rack) e

pub sound_made : (replicas clients cells : ℕ) (m : Made) → m ≡ made_of (of_sizes replicas clients cells) → sound_of m.rack ≡ true
sound_made replicas clients cells m e = ap (λ (x : Made). sound_of x.rack) e ∙ made_sound replicas clients cells

module _ (s : List ℕ) (replicas clients cells allowance first : ℕ) (m : Made) (e : m ≡ made_of (of_sizes replicas clients cells)) where
  pub played : (q : Ran) → m.refusal ≡ 0 → q ≡ run_of m.rack allowance (words_of (events_from s first)) → q ≡ played_of s replicas clients cells allowance first
  unfolding played_of
  played q h p = p ∙ sym run ∙ ap (λ (x : Made). started_of x allowance (words_of (events_from s first))) e
    where
      run : started_of m allowance (words_of (events_from s first)) ≡ run_of m.rack allowance (words_of (events_from s first))
      run = rw (eq-eqb m.refusal 0 h)

  pub not_made : (q : Ran) → (m.refusal ≡ 0 → ⊥) → q ≡ ran_of 0 m.refusal m.rack → q ≡ played_of s replicas clients cells allowance first
  unfolding played_of
  not_made q h p = p ∙ sym none ∙ ap (λ (x : Made). started_of x allowance (words_of (events_from s first))) e
    where
      none : started_of m allowance (words_of (events_from s first)) ≡ ran_of 0 m.refusal m.rack
      none = rw (ne_eqb m.refusal 0 h)

pub fault_text : (s : List ℕ) (refusal : Refusal) (byte : ℕ) → script_of s ≡ Err (refusal, byte) → fault_line (paper_number refusal) byte ≡ drill_text s
unfolding drill_text
fault_text s refusal byte e = ap (text_after s) (sym e)

pub run_text : (s : List ℕ) (replicas clients cells allowance first : ℕ) (q : Ran) → script_of s ≡ Ok (replicas, clients, cells, allowance, first)
    → q ≡ played_of s replicas clients cells allowance first → ran_text q ≡ drill_text s
unfolding drill_text
run_text s replicas clients cells allowance first q e p = ap ran_text p ∙ ap (text_after s) (sym e)

pub fault_recorded : (s before : List ℕ) (e : Refusal × ℕ) → script_of s ≡ Err e → Records s before (Err e) before
unfolding record_bytes_of recorded_of
fault_recorded s before fault e = record {
  answer = ap (λ (w : Words). answer_after s (min (length (record_bytes_of s)) (length before)) w) (sym e);
  lent = ap (λ (w : Words). sets before 0 (bytes_after s w)) (sym e);
}

module _ (s before : List ℕ) (replicas clients cells allowance first : ℕ) (q : Ran) where
  pub run_recorded : (count : ℕ) (after : List ℕ) → script_of s ≡ Ok (replicas, clients, cells, allowance, first) → q ≡ played_of s replicas clients cells allowance first
      → Printed before 0 (bytes_of (record_of q.rack)) count after → Records s before (Ok (q.refusal, count)) after
  unfolding record_bytes_of recorded_of
  run_recorded count after e p w =
      let bytes : bytes_of (record_of q.rack) ≡ record_bytes_of s = ap (λ (x : Ran). bytes_of (record_of x.rack)) p ∙ ap (bytes_after s) (sym e) in
      let whole = same_text bytes w in
      let many : count ≡ min (length (record_bytes_of s)) (length before) = omega (arith, whole.place) in
      record {
        answer =
            ap₂ {C = Recorded} (λ (k n : ℕ). Ok (k, n)) (ap (λ (x : Ran). x.refusal) p) many
            ∙ ap (λ (x : Words). answer_after s (min (length (record_bytes_of s)) (length before)) x) (sym e);
        lent = whole.list;
      }
