use Rattle.buckfleet_engine_cross_check.specs.inner.Tie.{AreSameBelow}
use Rattle.buckfleet_engine_cross_check.proofs.prices.first_off.Given as goal

abbrev pub invariant-loop-class : goal.invariant-loop-class
invariant-loop-class l = AreSameBelow l.prices l.wanted l.class
