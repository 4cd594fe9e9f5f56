use Rattle.std.proofs.Common.{◌≡◌, take}
use Rattle.buck_page_figures.specs.Figures.{base_sheet}
use Rattle.buck_page_figures.specs.Journals.{postings_of}
use Rattle.buckfleet_proceeds.specs.inner.Passed.{ArePassed}
use Rattle.buckfleet_proceeds.proofs.appraisal.appraise.Given as goal

abbrev pub invariant-loop-journal : goal.invariant-loop-journal
invariant-loop-journal l = record {
  base : l.planner ≡ base_sheet l.fn.own;
  passed : ArePassed l.fn.own (postings_of (take l.journal-index l.journals)) l.appraisal;
}
