use Rattle.std.proofs.Common.{◌≡◌, ◌++◌, take}
use Rattle.buckfleet_tasks.specs.Combinations.{combinations_of, with_limits, with_periods}
use Rattle.buckfleet_tasks.proofs.combination.combinations.Given as goal

abbrev pub invariant-loop-rule : goal.invariant-loop-rule
invariant-loop-rule l = l.made.items ≡ combinations_of (take l.rule-index l.rules) l.periods l.limits

abbrev pub invariant-loop-period : goal.invariant-loop-period
invariant-loop-period l =
    l.made.items ≡ combinations_of (take l.rule-index l.rules) l.periods l.limits
    ++ with_periods (take l.period-index l.periods) l.limits l.rule

abbrev pub invariant-loop-limit : goal.invariant-loop-limit
invariant-loop-limit l =
    l.made.items ≡ combinations_of (take l.rule-index l.rules) l.periods l.limits
    ++ (with_periods (take l.period-index l.periods) l.limits l.rule
    ++ with_limits (take l.limit-index l.limits) l.rule l.period)
