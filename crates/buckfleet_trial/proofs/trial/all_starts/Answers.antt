use Rattle.std.proofs.Common.{map, arith}
use Rattle.buckfleet_trial.proofs.Orders.{few_starts}
use Rattle.buckfleet_trial.proofs.trial.all_starts.Goals as goal

pub returns-in-Some-clause-few : goal.returns-in-Some-clause-few
returns-in-Some-clause-few c =
    few_starts c.in-Some.draws.number c.in-Some.draws.seed (map (λ list. list.items) c.as_slice.result.now)
    c.starts_of.result (omega arith) c.starts_of.ensures
