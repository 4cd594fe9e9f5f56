use Rattle.std.proofs.Common.{take}
use Rattle.std.specs.List.{AllZip}
use Rattle.buckfleet_trial_owned.specs.Owned.{losses_in}
use Rattle.buckfleet_trial.specs.Trial.{IsFromNothing}
use Rattle.buckfleet_trial_owned.proofs.owned.losses_in.Given as goal

abbrev pub invariant-loop-one : goal.invariant-loop-one
invariant-loop-one l = AllZip IsFromNothing (losses_in (take l.one-index l.drawn)) l.losses.items
