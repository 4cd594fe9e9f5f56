use Rattle.std.proofs.Common.{◌≡◌, ◌*◌, ◌^◌, ◌≤◌, sum_by, take}
use Rattle.buckfleet_trial_wishes.proofs.wish.worth_of.Given as goal

abbrev pub invariant-loop-run : goal.invariant-loop-run
invariant-loop-run l = record {
  sum : l.all ≡ sum_by (λ r. r.at_base) (take l.run-index l.runs.drawn.items);
  low : l.all ≤ l.run-index * 2 ^ 84;
}
