use Rattle.buckfleet_trial_sweep.proofs.Words.{take, IsLeast, wholes_of}
use Rattle.buckfleet_trial_sweep.proofs.figures.least_of.Given as goal

abbrev pub invariant-loop-degree : goal.invariant-loop-degree
invariant-loop-degree l = IsLeast (wholes_of (take l.degree-index l.degrees)) l.least
