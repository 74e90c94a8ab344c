use Rattle.std.proofs.Common.{◌≡◌, ne_eqb, arith, sym, ◌∙◌}
use Rattle.std.proofs.lemmas.Grind.{common_steps}
use Rattle.quorum.specs.Sets.{set_bits}
use Rattle.text.specs.laws.Paging.{with_nothing, with_both}
use Rattle.show.proofs.Laws.{each_next}
use Rattle.show.proofs.put_members.Goals.{then-has, else-has}
use Rattle.show.proofs.put_members.Goals as goal

pub loop-k-preserved : goal.loop-k-preserved
loop-k-preserved c = elim c.if-has.branch [
  | then-has w ↦ let yes = sym c.has.ensures ∙ w.if-has.true in rw (each_next, ← with_both, yes) (grind (arith, common_steps))
  | else-has w ↦ let no = sym c.has.ensures ∙ w.if-has.false in rw (each_next, ← with_both, no, with_nothing) (grind (arith, common_steps))
]

pub returns : goal.returns
unfolding set_bits
returns c = let all : c.loop-k.k ≡ set_bits = omega arith in rw (ne_eqb _ 0 c.if-set-eq0.false, ← all) c.loop-k.invariant
