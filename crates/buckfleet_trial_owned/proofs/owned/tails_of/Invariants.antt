use Rattle.std.proofs.Common.{take}
use Rattle.buckfleet_trial_owned.specs.inner.Owned.{AreTails}
use Rattle.buckfleet_trial_owned.proofs.owned.tails_of.Given as goal

abbrev pub invariant-loop-combination : goal.invariant-loop-combination
invariant-loop-combination l =
    AreTails l.own l.input.instruction l.input.lists.items l.starts (take l.combination-index l.combinations)
    l.tails.items
