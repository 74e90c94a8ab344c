-- The words that a call leaves are read as the rack that it left.
use Rattle.std.specs.Prelude.{ℕ, zero, suc, ◌≡◌, refl, Bool, cond, List, length, replicate}
use Rattle.std.proofs.Common.{ap, ◌∙◌, eq-eqb, eqb-true}
use Rattle.std.proofs.Math.Path.{sym}
use Rattle.std.proofs.Math.Bool.{true, false}
use Rattle.std.proofs.Math.Dec.{eqb}
use Rattle.std.proofs.lemmas.List.{length-replicate}
use Rattle.std.proofs.lemmas.Bool.{eqb-false}
use Rattle.rack.specs.declared.Rack.{Rack}
use Rattle.rack.specs.declared.Ran.{Ran}
use Rattle.rack.specs.Sound.{settings_fit, sound_of}
use Rattle.rack.specs.laws.SoundLaws.{sized}
use Rattle.rack.specs.laws.Fresh.{fresh_sound}
use Rattle.rack.specs.Run.{fresh_rack, made_of, run_of}
use Rattle.runs.specs.laws.Steps.{run_steps, none_allowed, from_unsound}
use Rattle.runs.specs.laws.Parts.{run_stays}
use Rattle.layout.specs.Layout.{word_count, word}
use Rattle.layout.specs.Reading.{rack_of}
use Rattle.layout.specs.Writing.{written_of}
use Rattle.layout.specs.Calls.{makes, made_outcome, leaves, run_outcome}
use Rattle.lent.specs.laws.Whole.{whole}
use Rattle.lent.specs.laws.Stays.{Writable, small_of, run_writable}
use Rattle.lent.specs.laws.Read.{read_writable, fresh_writable, made_fresh}
use Rattle.rack.specs.Places.{of_sizes}

-- ---- making

blank_words : (n j : ℕ) → word (replicate n 0) j ≡ 0
blank_words zero j = refl
blank_words (suc n) zero = refl
blank_words (suc n) (suc j) = blank_words n j

fresh_again : (replicas clients cells : ℕ) → settings_fit (of_sizes replicas clients cells) ≡ true
    → (ws : List ℕ) → ((j : ℕ) → word ws j ≡ 0) → length ws ≡ word_count → rack_of (written_of (fresh_rack (of_sizes replicas clients cells)) ws) ≡ fresh_rack (of_sizes replicas clients cells)
fresh_again replicas clients cells e ws h l =
    let r : Rack = fresh_rack (of_sizes replicas clients cells) in
    let s : sound_of r ≡ true = fresh_sound replicas clients cells e in
    let w : Writable ws r = fresh_writable ws h replicas clients cells (sized (record { replicas = replicas; clients = clients; cells = cells }) e).replicas in
    whole r ws s (small_of ws r w) l w.beyond

-- the rack that was made stands in the words, also beside a refusal
pub made_reads_again : (replicas clients cells : ℕ) (ws : List ℕ) → length ws ≡ word_count
    → rack_of (made_outcome replicas clients cells ws).lent ≡ (made_of (of_sizes replicas clients cells)).rack
unfolding made_outcome makes settings_fit
made_reads_again replicas clients cells ws h =
    rw (eq-eqb (length ws) word_count h)
    (made_fresh (λ (r : Rack). rack_of (written_of r (replicate word_count 0)) ≡ r) replicas clients cells
    (λ e. fresh_again replicas clients cells e (replicate word_count 0) (blank_words word_count) (length-replicate {A = ℕ} word_count 0))
    (fresh_again 1 1 1 refl (replicate word_count 0) (blank_words word_count) (length-replicate {A = ℕ} word_count 0)))

-- ---- running

-- no event was done: the rack is the one that was there
pub none_done : (r : Rack) (n : ℕ) (es : List ℕ) → (run_of r n es).done ≡ 0 → (run_of r n es).rack ≡ r
none_done r n es h = ap (λ (q : Ran). q.rack) (sym (rw h at (run_steps r n es).same) ∙ none_allowed r 0 es refl)

-- an event is done on a sound rack only
pub some_done : (r : Rack) (n : ℕ) (es : List ℕ) → ((run_of r n es).done ≡ 0 → ⊥) → sound_of r ≡ true
unfolding run_of
some_done r n es h = go (sound_of r) refl
  where
    go : (t : Bool) → sound_of r ≡ t → t ≡ true
    go true e = refl
    go false e = absurd (h (from_unsound 0 r n es e).0)

module _ (ws : List ℕ) (n : ℕ) (es : List ℕ) (l : length ws ≡ word_count) where
  -- the rack that the run leaves
  abbrev after : Rack
  after = (run_of (rack_of ws) n es).rack

  pub after_sound : sound_of (rack_of ws) ≡ true → sound_of after ≡ true
  after_sound s = run_stays (rack_of ws) n es s

  pub after_writable : sound_of (rack_of ws) ≡ true → Writable ws after
  after_writable s = run_writable ws (rack_of ws) n es s (read_writable ws s)

  left_again : rack_of (run_outcome ws n es).lent ≡ (run_of (rack_of ws) n es).rack
  unfolding run_outcome leaves
  left_again = rw (eq-eqb (length ws) word_count l) (go (eqb (run_of (rack_of ws) n es).done 0) refl)
    where
      go : (t : Bool) → eqb (run_of (rack_of ws) n es).done 0 ≡ t → rack_of (cond t ws (written_of after ws)) ≡ after
      go true e = sym (none_done (rack_of ws) n es (eqb-true _ 0 e))
      go false e =
          let s = some_done (rack_of ws) n es (eqb-false _ 0 e) in
          let w = after_writable s in
          whole after ws (after_sound s) (small_of ws after w) l w.beyond

-- The words that a run leaves are read as the rack that it left, whole.
pub run_reads_again : (ws : List ℕ) (n : ℕ) (es : List ℕ) → length ws ≡ word_count → rack_of (run_outcome ws n es).lent ≡ (run_of (rack_of ws) n es).rack
run_reads_again ws n es l = left_again ws n es l
