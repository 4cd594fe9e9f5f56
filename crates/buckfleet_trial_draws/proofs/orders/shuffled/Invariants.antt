use Rattle.std.proofs.Common.{◌≡◌, map, take}
use Rattle.std.specs.Arc.{arc_value}
use Rattle.buckfleet_trial_draws.proofs.orders.shuffled.Given as goal

abbrev pub invariant-loop-stem : goal.invariant-loop-stem
invariant-loop-stem l = map arc_value l.order.items ≡ map arc_value (take l.stem-index l.list)
