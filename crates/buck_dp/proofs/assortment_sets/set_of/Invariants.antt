use Rattle.buck_dp.proofs.Words.{AreWoodEntries}
use Rattle.buck_dp.proofs.assortment_sets.set_of.Given as goal

abbrev pub invariant-loop-place : goal.invariant-loop-place
invariant-loop-place l = record { kinds : AreWoodEntries l.sheet.instruction l.kinds.items }
