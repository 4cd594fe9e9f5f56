use Rattle.std.proofs.Common.{take}
use Rattle.std.specs.List.{AllZip}
use Rattle.buck_c_calls.specs.Asked.{IsCombination}
use Rattle.buck_c_calls.proofs.asked.combinations_of.Given as goal

abbrev pub invariant-loop-run : goal.invariant-loop-run
invariant-loop-run l = AllZip IsCombination (take l.run-index l.runs) l.made.items
