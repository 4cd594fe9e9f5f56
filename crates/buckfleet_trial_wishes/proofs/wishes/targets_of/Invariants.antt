use Rattle.std.proofs.Common.{◌≡◌, take}
use Rattle.std.specs.List.{flat_map}
use Rattle.buckfleet_trial_wishes.proofs.wishes.targets_of.Given as goal

abbrev pub invariant-loop-assortment : goal.invariant-loop-assortment
invariant-loop-assortment l =
    l.targets.items ≡ flat_map (λ a. a.targets) (take l.assortment-index l.instruction.assortments)
