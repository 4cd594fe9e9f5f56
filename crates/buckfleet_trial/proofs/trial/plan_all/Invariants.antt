use Rattle.std.proofs.Common.{◌≡◌, take}
use Rattle.buckfleet_trial.specs.Lines.{all_draws}
use Rattle.buckfleet_trial.specs.inner.Lines.{runs_of}
use Rattle.buckfleet_trial.proofs.trial.plan_all.Given as goal

abbrev pub invariant-loop-combination : goal.invariant-loop-combination
invariant-loop-combination l = runs_of l.planned.items ≡ all_draws (take l.combination-index l.combinations) l.starts
