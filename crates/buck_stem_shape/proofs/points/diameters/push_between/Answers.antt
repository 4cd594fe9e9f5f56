use Rattle.std.proofs.Common.{◌≡◌, ◌+◌, ◌-◌, ◌*◌, ◌/◌, refl, arith, subst, sym, ap, ◌∙◌}
use Rattle.buck_stem_shape.specs.inner.Diameters.{AreDiametersTo}
use Rattle.buck_stem_shape.proofs.Diameters.{push_between, fallen}
use Rattle.buck_stem_shape.proofs.points.diameters.push_between.Goals as goal

pub loop-past-preserved : goal.loop-past-preserved
loop-past-preserved c =
    let line : c.args.low * 100 - (c.args.low - c.args.next) * c.loop-past.past
    ≡ c.args.low * (100 - c.loop-past.past) + c.args.next * c.loop-past.past =
    omega (arith, fallen c.args.low c.args.next c.loop-past.past (omega arith) (omega arith)) in record {
      low = omega (arith, c.loop-past-test.true);
      right = λ samples i low next to.
          subst (λ ds. AreDiametersTo samples c.args.step i (c.loop-past.past + c.args.step) ds)
          (sym c.in_ok-push.ensures.items)
          (push_between samples c.args.step i c.loop-past.past c.loop-past.out.items
          ((c.args.low * 100 - (c.args.low - c.args.next) * c.loop-past.past) / 100)
          (omega (arith, c.loop-past-test.true))
          (ap (λ n. n / 100) line ∙ rw (low, next) refl)
          (c.loop-past.invariant.right samples i low next to));
    }
