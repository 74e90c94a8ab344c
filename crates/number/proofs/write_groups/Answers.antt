use Rattle.std.proofs.Common.{refl, sym, ◌∙◌, arith}
use Rattle.number.specs.Number.{number_bytes}
use Rattle.number.specs.laws.NumberLaws.{top, length_some}
use Rattle.number.proofs.Laws.{step, finish}
use Rattle.number.proofs.write_groups.Goals as goal

pub loop-m-init : goal.loop-m-init
unfolding top
loop-m-init c = record { f = 4; small = omega arith; ahead = omega (arith, length_some c.args.n); room = omega arith; long = refl; place = refl; same = refl }

pub loop-m-preserved : goal.loop-m-preserved
loop-m-preserved c =
    let w = c.loop-m.invariant in
    step c.args.buf.now c.args.at (number_bytes c.args.n) c.loop-m.buf c.loop-m.i
    c.loop-m.m w.f c.loop-m-test.true w.small w.room w.long w.place w.same

pub returns : goal.returns
returns c =
    let w = c.loop-m.invariant in
    let d = finish c.loop-m.buf c.loop-m.i c.loop-m.m w.f c.loop-m-test.false in
    record { place = omega (arith, d.0, w.place); list = sym d.1 ∙ w.same }
