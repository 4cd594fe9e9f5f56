use Rattle.std.proofs.Common.{◌≡◌, take}
use Rattle.buck_apt_instruction.specs.Grades.{grade_free}
use Rattle.buck_page_figures.specs.Figures.{base_sheet}
use Rattle.buck_page_figures.specs.Journals.{postings_of}
use Rattle.buck_page_figures.specs.inner.Grades.{ArePassed}
use Rattle.buck_page_figures.proofs.grades.grade_free_of.Given as goal

abbrev pub invariant-loop-journal : goal.invariant-loop-journal
invariant-loop-journal l = record {
  base : l.planner ≡ base_sheet (grade_free l.figures.instruction.now);
  passed : ArePassed (grade_free l.figures.instruction.now) (postings_of (take l.journal-index l.figures.journals.now)) l.free;
}
