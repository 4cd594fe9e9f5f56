use Rattle.buckfleet_trial_sweep.proofs.Words.{◌≡◌, ◌++◌, take, cells}
use Rattle.buckfleet_trial_sweep.proofs.table.put_cells.Given as goal

abbrev pub invariant-loop-number : goal.invariant-loop-number
invariant-loop-number l = l.out.items ≡ l.initial.out.items ++ cells (take l.number-index l.numbers)
