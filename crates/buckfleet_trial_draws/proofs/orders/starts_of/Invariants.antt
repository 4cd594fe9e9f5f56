use Rattle.std.proofs.Common.{◌≡◌, ◌++◌, ◌-◌, ◌<◌, ◌^◌, map}
use Rattle.buckfleet_trial_draws.specs.Draws.{starts_from}
use Rattle.buckfleet_trial_draws.proofs.orders.starts_of.Given as goal

abbrev pub invariant-loop : goal.invariant-loop
invariant-loop l = record {
  starts : l.starts.items ++ starts_from (l.draws.number - l.counter) l.random (map (λ list. list.items) l.lists)
      ≡ starts_from l.draws.number l.draws.seed (map (λ list. list.items) l.lists);
  low : l.random < 2 ^ 64;
}
