use Rattle.buckfleet_trial_sweep.proofs.Words.{◌≡◌, ◌++◌, drop, apart_of, cells}
use Rattle.buckfleet_trial_sweep.proofs.figures.put_apart.Given as goal

abbrev pub invariant-loop-degree : goal.invariant-loop-degree
invariant-loop-degree l =
    l.out.items ++ cells (apart_of (drop l.degree-index l.degrees)) ≡ l.initial.out.items ++ cells (apart_of l.degrees)
