use Rattle.buckfleet_trial_sweep.proofs.Words.{◌≡◌, ◌++◌, drop, cells, wholes_of}
use Rattle.buckfleet_trial_sweep.proofs.figures.put_wholes.Given as goal

abbrev pub invariant-loop-degree : goal.invariant-loop-degree
invariant-loop-degree l =
    l.out.items ++ cells (wholes_of (drop l.degree-index l.degrees)) ≡ l.initial.out.items ++ cells (wholes_of l.degrees)
