use Rattle.buckfleet_trial_sweep.proofs.Words.{◌≡◌, ◌++◌, drop, pair_heads}
use Rattle.buckfleet_trial_sweep.proofs.table.put_pair_heads.Given as goal

abbrev pub invariant-loop-at : goal.invariant-loop-at
invariant-loop-at l =
    l.out.items ++ pair_heads l.first l.second l.at (drop l.at l.assortments)
    ≡ l.initial.out.items ++ pair_heads l.first l.second 0 l.assortments
