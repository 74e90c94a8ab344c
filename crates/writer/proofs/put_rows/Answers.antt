use Rattle.std.specs.Prelude.{ℕ, Result, Ok, Err, IsOk, is_ok}
use Rattle.std.specs.Result.{result_map_both}
use Rattle.std.proofs.Common.{◌≡◌, refl, sym, ap, ◌∙◌}
use Rattle.record.specs.declared.Entry.{Entry}
use Rattle.record.specs.Entry.{Found}
use Rattle.refusal.specs.declared.Refusal.{Refusal}
use Rattle.writer.proofs.Emitting.{emits, emits_ok, emits_room, emits_on, emits_end}
use Rattle.writer.proofs.put_rows.Goals as goal

-- what was found, from the entry alone
abbrev placed : ℕ → Result Entry Refusal → Found
placed next r = result_map_both (λ e. (e, next)) (λ k. k) r

alone_ok : (f : Found) (next : ℕ) (r : Result Entry Refusal) → f ≡ placed next r → IsOk f → IsOk r
alone_ok f next (Ok e) p q = refl
alone_ok f next (Err k) p q = sym (ap is_ok p) ∙ q

pub loop-n-init : goal.loop-n-init
loop-n-init c = emits _ _ c.requires

pub unwrap-e-requires : goal.unwrap-e-requires
unwrap-e-requires c = alone_ok _ _ _ c.row_at.ensures (emits_ok _ _ _ _ _ c.loop-n.invariant c.loop-n-test.true)

pub put_entry-out-requires : goal.put_entry-out-requires
put_entry-out-requires c = emits_room _ _ _ _ _ c.loop-n.invariant _ _ c.loop-n-test.true (c.row_at.ensures ∙ ap (placed _) c.unwrap-e.ensures)

pub loop-n-preserved : goal.loop-n-preserved
loop-n-preserved c = emits_on _ _ _ _ _ c.loop-n.invariant _ _ _ _ c.loop-n-test.true (c.row_at.ensures ∙ ap (placed _) c.unwrap-e.ensures) c.put_entry-out.ensures

pub returns : goal.returns
returns c = emits_end _ _ _ _ _ c.loop-n.invariant c.loop-n-test.false
