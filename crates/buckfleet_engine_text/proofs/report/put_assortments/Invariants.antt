use Rattle.std.proofs.Common.{◌≡◌, ◌++◌, take}
use Rattle.buckfleet_engine_text.specs.Report.{all_lines}
use Rattle.buckfleet_engine_text.proofs.report.put_assortments.Given as goal

abbrev pub invariant-loop-at : goal.invariant-loop-at
invariant-loop-at l =
    (l.out.items ≡ l.initial.out.items ++ all_lines l.ending 0 (take l.at l.ending.instruction.assortments))
    × (l.assortments ≡ l.ending.instruction.assortments)
