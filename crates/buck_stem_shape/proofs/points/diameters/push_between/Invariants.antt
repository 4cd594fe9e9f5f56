use Rattle.std.proofs.Common.{◌≡◌, ℕ, ◌+◌, ◌-◌, ◌<◌, List}
use Rattle.buck_stem_shape.specs.Stem.{least_to}
use Rattle.buck_stem_shape.specs.inner.Diameters.{AreDiametersTo}
use Rattle.buck_stem_shape.proofs.points.diameters.push_between.Given as goal

abbrev pub invariant-loop-past : goal.invariant-loop-past
invariant-loop-past l = record {
  low : l.past < 100 + l.step;
  right : (samples : List ℕ) (i : ℕ) → l.low ≡ least_to samples i → l.next ≡ least_to samples (i + 1)
      → AreDiametersTo samples l.step i l.fn.part l.fn.out.items → AreDiametersTo samples l.step i l.past l.out.items;
}

abbrev pub decreases-loop-past : goal.decreases-loop-past
decreases-loop-past l = 100 - l.past
