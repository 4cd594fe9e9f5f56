use Rattle.buckfleet_trial_wishes.proofs.Targets.{UpTo}
use Rattle.buckfleet_trial_wishes.proofs.moved.moved_targets.Given as goal

abbrev pub invariant-loop-place : goal.invariant-loop-place
invariant-loop-place l = UpTo l.instruction l.targets l.unsteered l.at l.class l.place l.moved.items
