use Rattle.std.proofs.Common.{◌≡◌}
use Rattle.buck_page_stems.proofs.stems.write_stems.Given as goal

abbrev pub invariant-loop-pick : goal.invariant-loop-pick
invariant-loop-pick l = l.planner ≡ l.initial.planner
