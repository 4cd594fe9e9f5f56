use Rattle.std.proofs.Common.{◌≡◌, ◌++◌, drop, map}
use Rattle.std.specs.Arc.{arc_value}
use Rattle.buckfleet_trial_draws.specs.Draws.{order_of}
use Rattle.buckfleet_trial_draws.proofs.orders.order_from.Given as goal

abbrev pub invariant-loop-list : goal.invariant-loop-list
invariant-loop-list l =
    map (λ list. map arc_value list.items) l.order.items
    ++ order_of l.random (map (λ list. map arc_value list.items) (drop l.list-index l.lists))
    ≡ order_of l.fn.state (map (λ list. map arc_value list.items) l.lists)
