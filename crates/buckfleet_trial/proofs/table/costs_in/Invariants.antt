use Rattle.std.proofs.Common.{take}
use Rattle.std.specs.List.{AllZip}
use Rattle.buckfleet_trial.specs.Trial.{IsFromNothing, costs_in}
use Rattle.buckfleet_trial.proofs.table.costs_in.Given as goal

abbrev pub invariant-loop-one : goal.invariant-loop-one
invariant-loop-one l = AllZip IsFromNothing (costs_in l.best (take l.one-index l.drawn)) l.costs.items
