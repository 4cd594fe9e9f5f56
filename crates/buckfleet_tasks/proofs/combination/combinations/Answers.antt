use Rattle.std.proofs.Common.{arith}
use Rattle.buckfleet_tasks.proofs.combination.combinations.Goals as goal

pub returns-in_default-clause-refused : goal.returns-in_default-clause-refused
returns-in_default-clause-refused c = λ all. absurd (c.in_default.ensures.none (record {
  period_range = all.0 c.loop-period.period-index _ (omega (arith, c.loop-period-test.true));
  limit_range = all.1 c.loop-limit.limit-index _ (omega (arith, c.loop-limit-test.true));
}))
