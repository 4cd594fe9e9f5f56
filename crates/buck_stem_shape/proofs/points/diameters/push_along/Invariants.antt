use Rattle.std.proofs.Common.{◌≡◌, ◌<◌}
use Rattle.buck_stem_shape.specs.Stem.{least_to}
use Rattle.buck_stem_shape.specs.inner.Diameters.{AreDiametersTo}
use Rattle.buck_stem_shape.proofs.points.diameters.push_along.Given as goal

abbrev pub invariant-loop-i : goal.invariant-loop-i
invariant-loop-i l = record {
  within : l.part < l.step;
  low : l.low ≡ least_to l.samples l.i;
  right : AreDiametersTo l.samples l.step l.i l.part l.out.items;
}
