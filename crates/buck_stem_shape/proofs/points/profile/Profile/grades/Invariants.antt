use Rattle.std.proofs.Common.{◌≤◌}
use Rattle.buck_stem_shape.specs.points.Profile.{IsMaskBetween}
use Rattle.buck_stem_shape.proofs.points.profile.Profile.grades.Given as goal

abbrev pub invariant-loop-from : goal.invariant-loop-from
invariant-loop-from l = record {
  low : l.i ≤ l.from;
  high : l.from ≤ l.j;
  mask : IsMaskBetween l.self l.from l.j l.grades;
}

abbrev pub decreases-loop-from : goal.decreases-loop-from
decreases-loop-from l = l.from
