use Rattle.std.proofs.Common.{◌≡◌, ◌++◌, take}
use Rattle.buckfleet_trial.specs.Lines.{draws_of}
use Rattle.buckfleet_trial.specs.inner.Lines.{runs_of}
use Rattle.buckfleet_trial.proofs.trial.plan_draws.Given as goal

abbrev pub invariant-loop-start : goal.invariant-loop-start
invariant-loop-start l =
    runs_of l.planned.items ≡ runs_of l.initial.planned.items ++ draws_of l.combination (take l.start-index l.starts)
