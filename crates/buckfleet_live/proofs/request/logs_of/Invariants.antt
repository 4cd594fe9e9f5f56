use Rattle.buckfleet_live.proofs.Words.{◌≡◌, ◌*◌, ◌++◌, drop, true, logs_of, are_low}
use Rattle.buckfleet_live.proofs.request.logs_of.Given as goal

abbrev pub invariant-loop-k : goal.invariant-loop-k
invariant-loop-k l = record {
  so_far : l.logs.items ++ logs_of (drop (3 * l.k) l.numbers) ≡ logs_of l.numbers;
  low : are_low (drop (3 * l.k) l.numbers) ≡ true;
}
