use Rattle.std.proofs.Common.{◌≡◌, List, ◌++◌, take}
use Rattle.buck_book_postings.specs.declared.posting.Posting.{Posting}
use Rattle.buckfleet_proceeds.specs.inner.Passed.{ArePassed}
use Rattle.buckfleet_proceeds.proofs.appraisal.add_journal.Given as goal

abbrev pub invariant-loop-posting : goal.invariant-loop-posting
invariant-loop-posting l = record {
  same : l.planner ≡ l.fn.planner;
  passed : (ps : List Posting) → ArePassed l.fn.planner.instruction ps l.fn.appraisal
      → ArePassed l.fn.planner.instruction (ps ++ take l.posting-index l.journal.entries) l.appraisal;
}
