use Rattle.std.proofs.Common.{◌≡◌, ◌*◌, ◌≤◌, take}
use Rattle.buckfleet_trial.specs.Light.{AreBestOf}
use Rattle.buckfleet_trial.proofs.light.list_best.Given as goal

abbrev pub invariant-loop-stem : goal.invariant-loop-stem
invariant-loop-stem l = record {
  same : l.planner ≡ l.initial.planner;
  best : AreBestOf l.initial.planner (take l.stem-index l.stems) l.all;
  low : l.all ≤ l.stem-index * 2800000000000000;
}
