use Rattle.std.proofs.Common.{Some, take}
use Rattle.std.specs.List.{AllZip}
use Rattle.buckfleet_trial_owned.specs.Owned.{IsOwnRun}
use Rattle.buckfleet_trial_owned.proofs.owned.own_drawn.Given as goal

abbrev pub invariant-loop-start : goal.invariant-loop-start
invariant-loop-start l = AllZip
    (λ start o. IsOwnRun l.own l.input.instruction l.input.lists.items l.combination (Some start) o)
    (take l.start-index l.starts) l.drawn.items
