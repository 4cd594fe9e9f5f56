use Rattle.std.proofs.Common.{◌≡◌, drop, map}
use Rattle.buckfleet_trial_draws.specs.Draws.{state_behind}
use Rattle.buckfleet_trial_draws.proofs.orders.pass_all.Given as goal

abbrev pub invariant-loop-list : goal.invariant-loop-list
invariant-loop-list l =
    state_behind l.random (map (λ list. list.items) (drop l.list-index l.lists))
    ≡ state_behind l.initial.random (map (λ list. list.items) l.lists)
