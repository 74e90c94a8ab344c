-- Each call for C has one outcome, and wrong answers are ruled out.
use Rattle.std.specs.Prelude.{ℕ, ◌*◌, ◌^◌, ◌≤◌, ◌<◌, ◌≡◌, refl, false, List, [], ◌∷◌, length, get_or}
use Rattle.std.proofs.Common.{sym, ap, ◌∙◌, arith}
use Rattle.refusal.specs.Number.{paper_number}
use Rattle.number.specs.Number.{number_bytes, number_at, put_answer, put_bytes}
use Rattle.number.specs.laws.Sheet.{read_80_00, read_80}
use Rattle.rows.specs.Rows.{read_outcome, write_outcome}
use Rattle.record.specs.Examples.{sheet_bytes}
use Rattle.verdict.specs.laws.OnlyOne.{one_verdict}
use Rattle.verdict.specs.Examples.{stale}
use Rattle.verdict.specs.laws.Bench.{twelve_verdict, stale_verdict}
use Rattle.rack.specs.Sound.{sound_of}
use Rattle.layout.specs.Layout.{word_count}
use Rattle.layout.specs.Reading.{rack_of}
use Rattle.layout.specs.Calls.{made_outcome, run_outcome}
use Rattle.layout.specs.laws.OnlyOne.{not_made, not_run, unsound_stays}
use Rattle.exports.specs.Packed.{packed_number, packed_put, packed_answer, packed_verdict, Judged, packed_run}

-- ---- one outcome

pub one_read_number : (s : List ℕ) (at r r' : ℕ) → r ≡ packed_number at (number_at s at) → r' ≡ packed_number at (number_at s at) → r ≡ r'
one_read_number s at r r' p q = p ∙ sym q

pub one_write_number : (d : List ℕ) (at n r r' : ℕ) (e e' : List ℕ) → (r ≡ packed_put at (put_answer d at (number_bytes n))) × (e ≡ put_bytes d at (number_bytes n))
    → (r' ≡ packed_put at (put_answer d at (number_bytes n))) × (e' ≡ put_bytes d at (number_bytes n)) → (r ≡ r') × (e ≡ e')
one_write_number d at n r r' e e' p q = (p.0 ∙ sym q.0, p.1 ∙ sym q.1)

pub one_read_record : (s d : List ℕ) (r r' : ℕ) (e e' : List ℕ) → (r ≡ packed_answer (read_outcome s d).answer) × (e ≡ (read_outcome s d).lent)
    → (r' ≡ packed_answer (read_outcome s d).answer) × (e' ≡ (read_outcome s d).lent) → (r ≡ r') × (e ≡ e')
one_read_record s d r r' e e' p q = (p.0 ∙ sym q.0, p.1 ∙ sym q.1)

pub one_write_record : (ws d : List ℕ) (r r' : ℕ) (e e' : List ℕ) → (r ≡ packed_answer (write_outcome ws d).answer) × (e ≡ (write_outcome ws d).lent)
    → (r' ≡ packed_answer (write_outcome ws d).answer) × (e' ≡ (write_outcome ws d).lent) → (r ≡ r') × (e ≡ e')
one_write_record ws d r r' e e' p q = (p.0 ∙ sym q.0, p.1 ∙ sym q.1)

pub one_judged : (s : List ℕ) → ((i : ℕ) → get_or s i 0 < 256) → (r r' : ℕ) → Judged s r → Judged s r' → r ≡ r'
one_judged s bytes r r' (v, (j, p)) (w, (k, q)) = p ∙ ap packed_verdict (one_verdict s bytes v w j k) ∙ sym q

pub one_rack_made : (x y z : ℕ) (ws : List ℕ) (r r' : ℕ) (e e' : List ℕ) → (r ≡ packed_run (made_outcome x y z ws).answer) × (e ≡ (made_outcome x y z ws).lent)
    → (r' ≡ packed_run (made_outcome x y z ws).answer) × (e' ≡ (made_outcome x y z ws).lent) → (r ≡ r') × (e ≡ e')
one_rack_made x y z ws r r' e e' p q = (p.0 ∙ sym q.0, p.1 ∙ sym q.1)

pub one_rack_run : (ws : List ℕ) (n : ℕ) (es : List ℕ) (r r' : ℕ) (e e' : List ℕ) → (r ≡ packed_run (run_outcome ws n es).answer) × (e ≡ (run_outcome ws n es).lent)
    → (r' ≡ packed_run (run_outcome ws n es).answer) × (e' ≡ (run_outcome ws n es).lent) → (r ≡ r') × (e ≡ e')
one_rack_run ws n es r r' e e' p q = (p.0 ∙ sym q.0, p.1 ∙ sym q.1)

-- ---- wrong answers

-- 80 00 is refused 22, and not the number 0 in two bytes; 80 is refused 21, and not the number 0
pub not_long_zero : (r : ℕ) → r ≡ packed_number 0 (number_at (0x80 ∷ 0x00 ∷ []) 0) → r ≡ 2 ^ 40 * 2 → ⊥
unfolding packed_number paper_number
not_long_zero r p q = let e = sym q ∙ p ∙ ap (packed_number 0) read_80_00 in omega arith

pub not_cut_zero : (r : ℕ) → r ≡ packed_number 0 (number_at (0x80 ∷ []) 0) → r ≡ 0 → ⊥
unfolding packed_number paper_number
not_cut_zero r p q = let e = sym q ∙ p ∙ ap (packed_number 0) read_80 in omega arith

-- the paper's twelve bytes are lawful, and with last byte 00 they aren't
pub not_refused : (r : ℕ) → Judged sheet_bytes r → 0 < r → ⊥
unfolding packed_verdict
not_refused r (v, (j, p)) h = let e = p ∙ ap packed_verdict (twelve_verdict v j) in omega arith

pub not_lawful : Judged stale 0 → ⊥
unfolding packed_verdict
not_lawful (v, (j, p)) = let e = p ∙ ap packed_verdict (stale_verdict v j) in omega arith

-- sizes 16, 8, 16 aren't made, and with another length nothing is run
pub not_rack_made : (ws : List ℕ) (r : ℕ) → length ws ≡ word_count → r ≡ packed_run (made_outcome 16 8 16 ws).answer → r ≡ 0 → ⊥
unfolding packed_run
not_rack_made ws r h p q = not_made ws (made_outcome 16 8 16 ws).answer h refl (omega arith)

pub not_rack_run : (ws : List ℕ) (n : ℕ) (es : List ℕ) (r : ℕ) → (length ws ≡ word_count → ⊥) → r ≡ packed_run (run_outcome ws n es).answer → r ≡ 0 → ⊥
unfolding packed_run
not_rack_run ws n es r h p q = not_run ws n es (run_outcome ws n es).answer h refl (omega arith)

-- an unsound rack is refused 2 as soon as an event is tried, and 0 is no answer there
pub not_rack_done : (ws : List ℕ) (n : ℕ) (es : List ℕ) (r : ℕ) → length ws ≡ word_count → sound_of (rack_of ws) ≡ false → (n ≡ 0 → ⊥) → 4 ≤ length es
    → r ≡ packed_run (run_outcome ws n es).answer → r ≡ 0 → ⊥
unfolding packed_run
not_rack_done ws n es r h s l k p q = let e = p ∙ ap packed_run (unsound_stays ws n es h s l k).0 in omega arith
