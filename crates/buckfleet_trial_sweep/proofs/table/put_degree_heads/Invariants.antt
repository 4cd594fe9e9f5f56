use Rattle.buckfleet_trial_sweep.proofs.Words.{◌≡◌, ◌++◌, drop, degree_heads}
use Rattle.buckfleet_trial_sweep.proofs.table.put_degree_heads.Given as goal

abbrev pub invariant-loop-at : goal.invariant-loop-at
invariant-loop-at l =
    l.out.items ++ degree_heads l.at (drop l.at l.assortments) ≡ l.initial.out.items ++ degree_heads 0 l.assortments
