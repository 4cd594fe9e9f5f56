use Rattle.std.proofs.Common.{take}
use Rattle.std.specs.List.{AllZip}
use Rattle.buckfleet_trial.specs.Trial.{IsFromNothing, degrees_in}
use Rattle.buckfleet_trial.proofs.table.degrees_in.Given as goal

abbrev pub invariant-loop-one : goal.invariant-loop-one
invariant-loop-one l = AllZip IsFromNothing (degrees_in (take l.one-index l.drawn)) l.degrees.items
