use Rattle.std.proofs.Common.{◌≡◌}
use Rattle.buck_page_tables.proofs.postings.put_postings_of.Given as goal

abbrev pub invariant-loop-at : goal.invariant-loop-at
invariant-loop-at l = l.planner ≡ l.initial.planner
