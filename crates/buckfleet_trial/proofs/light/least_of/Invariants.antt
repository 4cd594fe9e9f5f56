use Rattle.std.proofs.Common.{take}
use Rattle.buckfleet_trial_sweep.specs.Table.{IsLeast}
use Rattle.buckfleet_trial.proofs.light.least_of.Given as goal

abbrev pub invariant-loop-degree : goal.invariant-loop-degree
invariant-loop-degree l = IsLeast (take l.degree-index l.degrees) l.least
