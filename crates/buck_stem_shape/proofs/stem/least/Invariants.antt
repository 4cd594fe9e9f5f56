use Rattle.std.proofs.Common.{◌≡◌}
use Rattle.buck_stem_shape.specs.Stem.{least_to}
use Rattle.buck_stem_shape.proofs.stem.least.Given as goal

abbrev pub invariant-loop-i : goal.invariant-loop-i
invariant-loop-i l = l.low ≡ least_to l.samples l.i
