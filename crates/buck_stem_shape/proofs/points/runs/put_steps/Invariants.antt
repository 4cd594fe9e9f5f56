use Rattle.std.proofs.Common.{◌≡◌, ◌≤◌, ◌-◌, ◌+◌, length}
use Rattle.buck_stem_shape.specs.points.Profile.{profile_of, points_of}
use Rattle.buck_stem_shape.specs.inner.Runs.{AreSteps}
use Rattle.buck_stem_shape.proofs.points.runs.put_steps.Given as goal

abbrev pub invariant-loop-steps : goal.invariant-loop-steps
invariant-loop-steps l = record {
  count : l.count + 1 ≡ points_of (profile_of l.stem l.step);
  within : length l.steps.items + 1 ≤ points_of (profile_of l.stem l.step);
  right : AreSteps l.stem.zones l.step l.steps.items;
}

abbrev pub decreases-loop-steps : goal.decreases-loop-steps
decreases-loop-steps l = l.count - length l.steps.items
