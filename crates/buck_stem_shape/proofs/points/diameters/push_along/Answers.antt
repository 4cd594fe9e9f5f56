use Rattle.std.proofs.Common.{◌≡◌, ◌+◌, ◌/◌, ℕ, List, length, sym, subst, arith}
use Rattle.buck_stem_shape.specs.Stem.{stem_length}
use Rattle.buck_stem_shape.specs.inner.Diameters.{AreDiametersBy, AreDiametersTo}
use Rattle.buck_stem_shape.proofs.Diameters.{along_here, along_past}
use Rattle.buck_stem_shape.proofs.points.diameters.push_along.Goals as goal

pub returns-in_ok-push : goal.returns-in_ok-push
returns-in_ok-push c =
    let samples : List ℕ = c.args.samples.now in
    let step : ℕ = c.args.step in
    let out : List ℕ = c.loop-i.out.items in
    let number : c.loop-i.i + 1 ≡ length samples =
    omega (arith, c.loop-i-test.false, c.loop-i.auto.i-end, c.requires.some) in
    let to : AreDiametersTo samples step c.loop-i.i 0 out =
    subst (λ part. AreDiametersTo samples step c.loop-i.i part out) c.if-part-eq0.true c.loop-i.invariant.right in
    subst (λ xs. (length xs ≡ stem_length samples / step + 1) × AreDiametersBy samples step xs)
    (sym c.in_ok-push.ensures.items)
    (along_here samples step c.loop-i.i out c.loop-i.low c.requires.step.0 number c.loop-i.invariant.low to)

pub returns-else-part-eq0 : goal.returns-else-part-eq0
returns-else-part-eq0 c =
    let samples : List ℕ = c.args.samples.now in
    let number : c.loop-i.i + 1 ≡ length samples =
    omega (arith, c.loop-i-test.false, c.loop-i.auto.i-end, c.requires.some) in
    along_past samples c.args.step c.loop-i.i c.loop-i.part c.loop-i.out.items (omega (arith, c.if-part-eq0.false))
    c.loop-i.invariant.within number c.loop-i.invariant.right
