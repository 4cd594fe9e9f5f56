use Rattle.std.proofs.Common.{◌≡◌}
use Rattle.buck_page_tables.proofs.postings.put_postings.Given as goal

abbrev pub invariant-loop-journal : goal.invariant-loop-journal
invariant-loop-journal l = l.planner ≡ l.initial.planner
