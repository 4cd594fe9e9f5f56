use Rattle.buckfleet_trial_sweep.proofs.Words.{◌≡◌, ◌++◌, drop, cells, volumes_of}
use Rattle.buckfleet_trial_sweep.proofs.figures.put_volumes.Given as goal

abbrev pub invariant-loop-at : goal.invariant-loop-at
invariant-loop-at l =
    l.out.items ++ cells (volumes_of (drop l.at l.cut) (drop l.at l.unsteered))
    ≡ l.initial.out.items ++ cells (volumes_of l.cut l.unsteered)
