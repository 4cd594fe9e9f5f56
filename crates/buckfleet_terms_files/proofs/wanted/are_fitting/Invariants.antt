use Rattle.std.proofs.Common.{take}
use Rattle.buckfleet_terms_files.specs.Targets.{AreFitting}
use Rattle.buckfleet_terms_files.proofs.wanted.are_fitting.Given as goal

abbrev pub invariant-loop-at : goal.invariant-loop-at
invariant-loop-at l = AreFitting (take l.at l.lists) (take l.at l.assortments)
