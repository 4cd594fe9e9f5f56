use Rattle.std.proofs.Common.{◌≡◌, ◌+◌, ◌-◌}
use Rattle.buckfleet_trial_draws.specs.Draws.{state_after}
use Rattle.buckfleet_trial_draws.proofs.orders.pass.Given as goal

abbrev pub invariant-loop-after : goal.invariant-loop-after
invariant-loop-after l = state_after (l.number + 1 - l.after) l.random ≡ state_after l.number l.initial.random
